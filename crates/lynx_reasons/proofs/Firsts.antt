-- The first that passes, among lists one behind another.
use Rattle.std.proofs.Common.{◌≡◌, ℕ, suc, ◌+◌, ◌<◌, Bool, true, false, cond, List, [], ◌∷◌, length, Option, Some, None, refl, sym, ap, subst, ◌∙◌}
use Rattle.std.specs.Prelude.{find, slice_get}
use Rattle.std.specs.List.{flat_map, range_with_len}
use Rattle.std.specs.Option.{option_map_or, option_or}
use Rattle.std.proofs.lemmas.Bool.{false≢true}
use Rattle.std.proofs.lemmas.List.Folds.{find-append}
use Rattle.std.proofs.lemmas.Option.{none-some, same_Some, slice_get_within}
use Rattle.lynx_set.specs.Lookups.{actions_at}
use Rattle.lynx_set.specs.Set.{Set}
use Rattle.lynx_set.specs.declared.action.Action.{Action}
use Rattle.lynx_reasons.specs.declared.never.first.NeverAt.{NeverAt}
use Rattle.lynx_reasons.specs.Begins.{is_never, stops}

-- what is found passes
pub find-true : {X : Type 0} (test : X → Bool) (xs : List X) (x : X) → find test xs ≡ Some x → test x ≡ true
find-true test [] x found = absurd (none-some x found)
find-true {X} test (y ∷ xs) x found = by_test (test y) refl found (find-true test xs x)
  where
    by_test : (b : Bool) → test y ≡ b → cond b (Some y) (find test xs) ≡ Some x → (find test xs ≡ Some x → test x ≡ true) → test x ≡ true
    by_test true passes found rest = subst (λ (z : X). test z ≡ true) (same_Some y x found) passes
    by_test false fails found rest = rest found

-- the first of the lists from one on
pub find_next : {X : Type 0} (test : X → Bool) (list : ℕ → List X) (at left : ℕ)
    → find test (flat_map list (range_with_len at (suc left))) ≡ option_or (find test (list at)) (find test (flat_map list (range_with_len (at + 1) left)))
find_next test list at left = find-append test (list at) (flat_map list (range_with_len (at + 1) left))

-- where a program can't begin by an action it has it
pub never_there : (set : Set) (program : ℕ) (at : NeverAt) → is_never set program at ≡ true → at.action < length (actions_at set program at.hop)
never_there set program at never = by (slice_get (actions_at set program at.hop) at.action) refl
  where
    by : (found : Option Action) → slice_get (actions_at set program at.hop) at.action ≡ found → at.action < length (actions_at set program at.hop)
    by None is = absurd (false≢true (sym (ap (λ (f : Option Action). option_map_or (stops set program at) f false) is) ∙ never))
    by (Some action) is = slice_get_within (actions_at set program at.hop) at.action action is
