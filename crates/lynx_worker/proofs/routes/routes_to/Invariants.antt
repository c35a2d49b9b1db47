use Rattle.std.specs.Prelude.{◌≡◌, None, length}
use Rattle.std.specs.List.{AllByRecursion}
use Rattle.lynx_worker.specs.Routes.{AreRoutes, lags_of}
use Rattle.lynx_worker.proofs.routes.routes_to.Given as goal

abbrev pub invariant-loop-number : goal.invariant-loop-number
invariant-loop-number l =
    AreRoutes l.routes.items × AllByRecursion (λ lag. lag ≡ None) (lags_of l.routes.items)
    × (length l.routes.items ≡ l.number)
