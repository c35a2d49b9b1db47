-- Worlds after events, and how they end.
use Rattle.std.proofs.Common.{◌≡◌, ◌<◌, Bool, true, false, List, [], ◌∷◌, length, Result, Ok, Err, refl, ap, ◌∙◌, subst, arith}
use Rattle.std.specs.Prelude.{IfOk, IsTrue}
use Rattle.lynx_set.specs.Set.{Set}
use Rattle.lynx_entry.specs.declared.event.Event.{Event}
use Rattle.lynx_world.specs.Placed.{Placed}
use Rattle.lynx_world.specs.Worlds.{WorldState, new_world}
use Rattle.lynx_report.specs.declared.owed.OwedHop.{OwedHop}
use Rattle.lynx_report.specs.Owed.{AreTheOwed}
use Rattle.lynx_report.specs.Runs.{world_after}
use Rattle.lynx_report.proofs.RunLemmas.{world_after-set}
use Rattle.lynx_sample.specs.Samples.{EndsWell, HasCycle, OwesNothing}

-- a list of no value
is_nil : {X : Type 0} (xs : List X) → length xs < 1 → xs ≡ []
is_nil [] short = refl
is_nil (x ∷ xs) short = absurd (omega arith)

-- where the list of the owed is empty, nothing is owed
pub none_owed : (set : Set) (list : List Placed) (owed : List OwedHop) → length owed < 1 → AreTheOwed set list owed → OwesNothing set list
none_owed set list owed short are hop is =
    let none : AreTheOwed set list [] = subst (AreTheOwed set list) (is_nil owed short) are in
    (none.each hop).1 is

-- where a cycle is asked for, a world ends well that has one
pub ends_with_cycle : {E : Type 0} (cycle : Bool) (set : Set) (list : List Placed) (r : Result Bool E) → cycle ≡ true → OwesNothing set list →
    IfOk r (λ has. IsTrue has → HasCycle set list) → IfOk r (λ well. IsTrue well → EndsWell cycle set list)
ends_with_cycle true set list (Ok has) asked nothing found = λ is. (nothing, found is)
ends_with_cycle true set list (Err fault) asked nothing found = tt
ends_with_cycle false set list r asked nothing found = let never : ⊥ = cc in absurd never

-- .. and else each that owes nothing
pub ends_owing_nothing : (cycle : Bool) (set : Set) (list : List Placed) → cycle ≡ false → OwesNothing set list → EndsWell cycle set list
ends_owing_nothing false set list asked nothing = nothing
ends_owing_nothing true set list asked nothing = let never : ⊥ = cc in absurd never

-- a world that the events made ends as they do
pub ends_as_they : {E : Type 0} (cycle : Bool) (set : Set) (events : List Event) (world : WorldState) (r : Result Bool E) → world ≡ world_after (new_world set) events →
    IfOk r (λ well. IsTrue well → EndsWell cycle world.set world.list) →
    IfOk r (λ well. IsTrue well → EndsWell cycle set (world_after (new_world set) events).list)
ends_as_they cycle set events world (Err fault) same ends = tt
ends_as_they cycle set events world (Ok well) same ends = λ is.
    subst (λ (w : WorldState). EndsWell cycle set w.list) same
    (subst (λ (s : Set). EndsWell cycle s world.list) (ap (λ (w : WorldState). w.set) same ∙ world_after-set (new_world set) events) (ends is))
