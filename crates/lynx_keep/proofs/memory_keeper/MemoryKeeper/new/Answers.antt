use Rattle.std.proofs.Common.{◌∙◌, ap, subst, sym}
use Rattle.lynx_keep.specs.Stored.{AreStored, entries_in}
use Rattle.lynx_keep.proofs.Keeping.{same_kept}
use Rattle.lynx_keep.proofs.Stored.{stored-nothing}
use Rattle.lynx_keep.proofs.memory_keeper.MemoryKeeper.new.Goals as goal

pub invariant_of-result : goal.invariant_of-result
invariant_of-result c = subst AreStored (sym c.new.ensures.items) stored-nothing.0

pub returns : goal.returns
returns c = same_kept _ _ _ _ (ap entries_in c.new.ensures.items ∙ stored-nothing.1) c.new-2.ensures.database
