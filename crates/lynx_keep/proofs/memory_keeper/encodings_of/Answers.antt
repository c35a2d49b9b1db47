use Rattle.std.proofs.Common.{◌∙◌, ap, subst, sym}
use Rattle.lynx_keep.specs.Stored.{AreStored, entries_in}
use Rattle.lynx_keep.proofs.Stored.{stored-nothing}
use Rattle.lynx_keep.proofs.memory_keeper.encodings_of.Goals as goal

pub loop-entry-init : goal.loop-entry-init
loop-entry-init c = (subst AreStored (sym c.new-encodings.ensures.items) stored-nothing.0, ap entries_in c.new-encodings.ensures.items ∙ stored-nothing.1)
