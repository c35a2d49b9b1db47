use Rattle.std.specs.Prelude.{IfErr, OnOk}
use Rattle.lynx_store_files.specs.Closed.{AreClosed, FailsAt}
use Rattle.lynx_store_files.proofs.Closings.{IsAt}
use Rattle.lynx_store_files.proofs.closing.close_all.Given as goal

-- where those that are left are let go well, all are; and the first fault is of the server that is told
abbrev pub invariant-loop-keeper : goal.invariant-loop-keeper
invariant-loop-keeper g l = record {
  well : OnOk l.closed (AreClosed g.S.Stores.store_terms.closed l.keeper-iterator.rest.items → AreClosed g.S.Stores.store_terms.closed l.fn.keepers.items);
  failed : IfErr l.closed (λ told. FailsAt g.S.Stores.store_terms.closed l.fn.keepers.items told.0);
  place : IsAt l.fn.keepers.items l.keeper-iterator.rest.items l.number;
}
