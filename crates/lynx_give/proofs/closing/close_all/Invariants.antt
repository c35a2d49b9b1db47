use Rattle.std.proofs.Common.{true}
use Rattle.std.specs.Prelude.{OnOk}
use Rattle.std.specs.List.{AllByRecursion}
use Rattle.lynx_give.specs.Given.{IsLetGo}
use Rattle.lynx_give.proofs.closing.close_all.Given as goal

-- where those that are left are let go well, all are
abbrev pub invariant-loop-store : goal.invariant-loop-store
invariant-loop-store g l = OnOk l.closed
    (AllByRecursion (IsLetGo g.S.Stores.store_terms.closed g.S.Databases.database_closed true) l.store-iterator.rest.items
    → AllByRecursion (IsLetGo g.S.Stores.store_terms.closed g.S.Databases.database_closed true) l.fn.given.items)
