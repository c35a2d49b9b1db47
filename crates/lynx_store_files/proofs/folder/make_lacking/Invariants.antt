use Rattle.std.proofs.Common.{◌≡◌, ◌≤◌, length}
use Rattle.lynx_store_files.proofs.Folders.{AreKeepersBelow}
use Rattle.lynx_store_files.proofs.folder.make_lacking.Given as goal

-- the keepers of the servers so far
abbrev pub invariant-loop-number : goal.invariant-loop-number
invariant-loop-number g l = record {
  below : AreKeepersBelow g.S.Stores.store_terms l.fn.folder l.fn.set l.fn.found.items l.found.rest.items l.number l.keepers.items;
  count : l.number-end ≡ length l.fn.found.items;
}
