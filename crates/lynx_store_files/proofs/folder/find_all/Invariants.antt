use Rattle.lynx_store_files.proofs.Folders.{AreFoundBelow}
use Rattle.lynx_store_files.proofs.folder.find_all.Given as goal

-- what was found of the servers so far
abbrev pub invariant-loop-number : goal.invariant-loop-number
invariant-loop-number g l = AreFoundBelow g.S.Stores.store_terms l.folder l.set l.number l.found.items
