-- Each hop of a set stands once among its hops.
use Rattle.std.proofs.Common.{◌≡◌, ◌≢◌, ◌∙◌, ℕ, zero, suc, ◌+◌, ◌<◌, ◌||◌, Bool, true, false, List, [], ◌∷◌, ◌++◌, map, refl, sym, ap, arith}
use Rattle.std.specs.Prelude.{◌==◌, length}
use Rattle.std.specs.List.{flat_map, list_any, range_with_len}
use Rattle.std.specs.Option.{option_map_or}
use Rattle.std.proofs.lemmas.Bool.{and_from, and_parts, eq-eqb, eqb-true, false_from_ne_true, false≢true, or_from}
use Rattle.std.proofs.lemmas.List.Folds.{list_any-append}
use Rattle.lynx_set.specs.Set.{Set}
use Rattle.lynx_set.specs.Lookups.{program_at}
use Rattle.lynx_graph.specs.Nodes.{places_in, places_of}
use Rattle.lynx_graph.specs.declared.meeting.Place.{Place}
use Rattle.lynx_late.specs.inner.Ends.{same_place}

-- ---- one place

pub same_place-true : (left right : Place) → same_place left right ≡ true → left ≡ right
same_place-true left right same =
    let parts = and_parts _ _ same in
    let program = eqb-true left.program right.program parts.0 in
    let hop = eqb-true left.hop right.hop parts.1 in
    ap (λ (p : ℕ). let it : Place = record { program = p; hop = left.hop } in it) program
    ∙ ap (λ (h : ℕ). let it : Place = record { program = right.program; hop = h } in it) hop

pub same_place-itself : (place : Place) → same_place place place ≡ true
same_place-itself place = and_from _ _ (eq-eqb place.program place.program refl) (eq-eqb place.hop place.hop refl)

pub same_place-other : (left right : Place) → (left ≡ right → ⊥) → same_place left right ≡ false
same_place-other left right other = false_from_ne_true _ (λ same. other (same_place-true left right same))

-- ---- a place in a list

abbrev pub is_in : Place → List Place → Bool
is_in place places = list_any (λ (other : Place). same_place other place) places

-- behind where it stands the place doesn't stand again
abbrev pub StandsOnce : Place → List Place → Type 0
StandsOnce place [] = Unit {0}
StandsOnce place (first ∷ rest) = (same_place first place ≡ true → is_in place rest ≡ false) × StandsOnce place rest

StandsOnce-append : (place : Place) (xs ys : List Place) → StandsOnce place xs → StandsOnce place ys → (is_in place xs ≡ true → is_in place ys ≡ false) → StandsOnce place (xs ++ ys)
StandsOnce-append place [] ys left right apart = right
StandsOnce-append place (first ∷ rest) ys left right apart = (
  λ here. list_any-append (λ (other : Place). same_place other place) rest ys ∙ or_from _ _ (left.0 here) (apart (ap (λ b. b || is_in place rest) here)),
  StandsOnce-append place rest ys left.1 right (λ later. apart (by_test (same_place first place) later)),
)
  where
    by_test : (b : Bool) → is_in place rest ≡ true → (b || is_in place rest) ≡ true
    by_test true later = refl
    by_test false later = later

-- ---- the hops of a program

abbrev hop_of : ℕ → ℕ → Place
hop_of program hop = record { program = program; hop = hop }

-- of another program there is none
none_of_another : (program : ℕ) (place : Place) (a n : ℕ) → program ≢ place.program → is_in place (map (hop_of program) (range_with_len a n)) ≡ false
none_of_another program place a zero other = refl
none_of_another program place a (suc n) other =
    or_from _ _ (same_place-other (hop_of program a) place (λ same. other (ap (λ (p : Place). p.program) same))) (none_of_another program place (a + 1) n other)

none_above : (program : ℕ) (place : Place) (a n : ℕ) → place.hop < a → is_in place (map (hop_of program) (range_with_len a n)) ≡ false
none_above program place a zero above = refl
none_above program place a (suc n) above =
    or_from _ _ (same_place-other (hop_of program a) place (λ same. let at : a ≡ place.hop = ap (λ (p : Place). p.hop) same in absurd (omega (arith, at, above))))
    (none_above program place (a + 1) n (omega (arith, above)))

hops_stand_once : (program : ℕ) (place : Place) (a n : ℕ) → StandsOnce place (map (hop_of program) (range_with_len a n))
hops_stand_once program place a zero = tt
hops_stand_once program place a (suc n) = (
  λ here. let at : a ≡ place.hop = ap (λ (p : Place). p.hop) (same_place-true (hop_of program a) place here) in
      none_above program place (a + 1) n (omega (arith, at)),
  hops_stand_once program place (a + 1) n,
)

-- ---- the hops of a set

none_of_later : (set : Set) (place : Place) (a n : ℕ) → place.program < a → is_in place (flat_map (places_in set) (range_with_len a n)) ≡ false
none_of_later set place a zero below = refl
none_of_later set place a (suc n) below =
    list_any-append (λ (other : Place). same_place other place) (places_in set a) (flat_map (places_in set) (range_with_len (a + 1) n))
    ∙ or_from _ _ (none_of_another a place 0 (hops a) (λ same. absurd (omega (arith, same, below)))) (none_of_later set place (a + 1) n (omega (arith, below)))
  where
    hops : ℕ → ℕ
    hops program = option_map_or (λ known. length known.hops) (program_at set program) 0

stand_once : (set : Set) (place : Place) (a n : ℕ) → StandsOnce place (flat_map (places_in set) (range_with_len a n))
stand_once set place a zero = tt
stand_once set place a (suc n) =
    StandsOnce-append place (places_in set a) (flat_map (places_in set) (range_with_len (a + 1) n))
    (hops_stand_once a place 0 (hops a)) (stand_once set place (a + 1) n)
    (λ here. none_of_later set place (a + 1) n (program_below here))
  where
    hops : ℕ → ℕ
    hops program = option_map_or (λ known. length known.hops) (program_at set program) 0

    by_program : (b : Bool) → (a == place.program) ≡ b → is_in place (places_in set a) ≡ true → place.program < a + 1
    by_program true same here = let at = eqb-true a place.program same in omega (arith, at)
    by_program false other here =
        absurd (false≢true (sym (none_of_another a place 0 (hops a) (λ same. false≢true (sym other ∙ eq-eqb a place.program same))) ∙ here))

    program_below : is_in place (places_in set a) ≡ true → place.program < a + 1
    program_below here = by_program (a == place.program) refl here

pub place_stands_once : (set : Set) (place : Place) → StandsOnce place (places_of set)
place_stands_once set place = stand_once set place 0 (length set.programs)
