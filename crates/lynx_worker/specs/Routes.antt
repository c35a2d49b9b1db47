-- The routes of a worker, by server.
use Rattle.std.specs.Prelude.{◌≡◌, ℕ, List, Option, Some, map, slice_get}
use Rattle.lynx_worker.specs.declared.route.Route.{Route}

-- each leads to the server at whose place it stands
abbrev pub AreRoutes : List Route → Type 0
AreRoutes routes =
    (server : ℕ) (route : Route) → slice_get routes server ≡ Some route → route.to ≡ server

-- from where each lags
abbrev pub lags_of : List Route → List (Option ℕ)
lags_of routes = map (λ route. route.lags_at) routes
