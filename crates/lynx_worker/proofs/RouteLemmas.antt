-- Routes one of which changed.
use Rattle.std.proofs.Common.{◌≡◌, ◌∙◌, ◌⊎◌, ℕ, zero, suc, ◌+◌, nat_eq, Bool, true, false, List, [], ◌∷◌, ◌++◌, Option, Some, None, length, length-append, slice_set, inl, inr, refl, sym, ap, subst}
use Rattle.std.specs.Prelude.{slice_get}
use Rattle.std.specs.List.{AllByRecursion}
use Rattle.std.proofs.lemmas.Bool.{eqb-true, eqb-false}
use Rattle.lynx_worker.specs.declared.route.Route.{Route}
use Rattle.lynx_worker.specs.Routes.{AreRoutes, lags_of}
use Rattle.lynx_worker.proofs.Sendings.{get_set_other, get_set_same}

-- a route that leads where it led
pub routes_set : (routes : List Route) (i : ℕ) (before after : Route) → slice_get routes i ≡ Some before → after.to ≡ before.to →
    AreRoutes routes → AreRoutes (slice_set routes i after)
routes_set routes i before after there to are server route is = by (nat_eq server i) refl
  where
    by : (b : Bool) → nat_eq server i ≡ b → route.to ≡ server
    by true e =
        let same = eqb-true server i e in
        let here : Some route ≡ Some after = sym is ∙ ap (slice_get (slice_set routes i after)) same ∙ get_set_same routes i before after there in
        let is_after : route ≡ after = cc in
        ap (λ (r : Route). r.to) is_after ∙ to ∙ are i before there ∙ sym same
    by false e = are server route (sym (get_set_other routes i server after (eqb-false server i e)) ∙ is)

get_last : (routes : List Route) (route : Route) (server : ℕ) (other : Route) → slice_get (routes ++ route ∷ []) server ≡ Some other →
    (slice_get routes server ≡ Some other) ⊎ ((server ≡ length routes) × (other ≡ route))
get_last [] route zero other is = inr (refl, cc)
get_last [] route (suc server) other is = cc
get_last (first ∷ routes) route zero other is = inl is
get_last (first ∷ routes) route (suc server) other is = elim (get_last routes route server other is) [
  | inl there ↦ inl there
  | inr last ↦ inr (ap suc last.0, last.1)
]

all_none : (routes : List Route) (route : Route) → AllByRecursion (λ (lag : Option ℕ). lag ≡ None) (lags_of routes) → route.lags_at ≡ None →
    AllByRecursion (λ (lag : Option ℕ). lag ≡ None) (lags_of (routes ++ route ∷ []))
all_none [] route all none = (none, tt)
all_none (first ∷ routes) route all none = (all.0, all_none routes route all.1 none)

-- one route more, to the next server
pub pushed : (routes all : List Route) (route : Route) (number : ℕ) → all ≡ routes ++ route ∷ [] → AreRoutes routes →
    AllByRecursion (λ (lag : Option ℕ). lag ≡ None) (lags_of routes) → length routes ≡ number → route.to ≡ number → route.lags_at ≡ None →
    AreRoutes all × AllByRecursion (λ (lag : Option ℕ). lag ≡ None) (lags_of all) × (length all ≡ number + 1)
pushed routes all route number is are lags count to none = (
  (λ server other there. elim (get_last routes route server other (ap (λ (l : List Route). slice_get l server) (sym is) ∙ there)) [
    | inl earlier ↦ are server other earlier
    | inr last ↦ ap (λ (r : Route). r.to) last.1 ∙ to ∙ sym count ∙ sym last.0
  ]),
  subst (λ (l : List Route). AllByRecursion (λ (lag : Option ℕ). lag ≡ None) (lags_of l)) (sym is) (all_none routes route lags none),
  ap length is ∙ length-append routes (route ∷ []) ∙ ap (λ (n : ℕ). n + 1) count,
)
