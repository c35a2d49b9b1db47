-- Lists that grow at their ends, as what stands for one server after another is found or made.
use Rattle.std.proofs.Common.{◌≡◌, ◌+◌, ◌<◌, ◌∙◌, ℕ, suc, List, [], ◌∷◌, ◌++◌, length, map, take, Option, None, Some, Result, Ok, Err, refl, sym, ap, subst, append_assoc, arith}
use Rattle.std.proofs.lemmas.List.{append-nil, length-append, length-take, map-append}
use Rattle.std.proofs.lemmas.List.Quantifiers.{position-Some}
use Rattle.std.specs.Prelude.{OnOk}
use Rattle.std.specs.List.{AllByRecursion}
use Rattle.std.specs.Io.KnownBytes.{Appends}
use Rattle.lynx_extend.specs.Places.{first_lost, is_empty, were_there}
use Rattle.lynx_extend.specs.declared.places.Place.{Place}
use Rattle.lynx_extend.specs.declared.places.Place.TheVariants.{Empty}
use Rattle.lynx_lines.proofs.Parts.{appends_both, appends_nil}
use Rattle.sqlite.specs.State.{State}
use Rattle.lynx_set.specs.Set.{Set}
use Rattle.lynx_store.specs.declared.extending.Extended.{Extended}
use Rattle.lynx_give.specs.Given.{Each, GivesAll, IsGiven, given_text, told_of}
use Rattle.lynx_give.specs.declared.store.Store.{Store}

pub each_more : {A B : Type 0} (Goes : ℕ → A → B → Type 0) (number : ℕ) (xs : List A) (ys : List B) (a : A) (b : B) →
    Goes (number + length xs) a b → Each Goes number xs ys → Each Goes number (xs ++ a ∷ []) (ys ++ b ∷ [])
each_more Goes number [] [] a b goes each = (subst (λ n. Goes n a b) (omega arith) goes, tt)
each_more Goes number [] (y ∷ ys) a b goes each = absurd each
each_more Goes number (x ∷ xs) [] a b goes each = absurd each
each_more Goes number (x ∷ xs) (y ∷ ys) a b goes each =
    (each.0, each_more Goes (suc number) xs ys a b (subst (λ n. Goes n a b) (omega arith) goes) each.1)

pub each_length : {A B : Type 0} (Goes : ℕ → A → B → Type 0) (number : ℕ) (xs : List A) (ys : List B) → Each Goes number xs ys → length xs ≡ length ys
each_length Goes number [] [] each = refl
each_length Goes number [] (y ∷ ys) each = absurd each
each_length Goes number (x ∷ xs) [] each = absurd each
each_length Goes number (x ∷ xs) (y ∷ ys) each = ap suc (each_length Goes (suc number) xs ys each.1)

pub told_more : {A : Type 0} (text : ℕ → A → List ℕ) (number : ℕ) (xs : List A) (a : A) →
    told_of text number (xs ++ a ∷ []) ≡ told_of text number xs ++ text (number + length xs) a
told_more text number [] a = append-nil (text number a) ∙ ap (λ n. text n a) (omega arith)
told_more text number (x ∷ xs) a =
    ap (λ rest. text number x ++ rest) (told_more text (suc number) xs a ∙ ap (λ n. told_of text (suc number) xs ++ text n a) (omega arith))
    ∙ sym (append_assoc (text number x) (told_of text (suc number) xs) (text (number + length (x ∷ xs)) a))

-- the first of all, which gave these
pub record AreDone {A B : Type 0} (Goes : ℕ → A → B → Type 0) (all rest : List A) (number : ℕ) (gave : List B) : Type 0 where
  pub done : List A
  pub split : all ≡ done ++ rest
  pub many : length done ≡ number
  pub each : Each Goes 0 done gave

pub none_done : {A B : Type 0} (Goes : ℕ → A → B → Type 0) (all : List A) → AreDone Goes all all 0 []
none_done Goes all = record { done = []; split = refl; many = refl; each = tt }

pub one_more : {A B : Type 0} (Goes : ℕ → A → B → Type 0) (all rest left : List A) (number at : ℕ) (a : A) (b : B) (gave more : List B) → rest ≡ a ∷ left → at ≡ number →
    Goes at a b → more ≡ gave ++ b ∷ [] → AreDone Goes all rest number gave → AreDone Goes all left (number + 1) more
one_more Goes all rest left number at a b gave more next at_is goes more_is so_far = record {
  done = so_far.done ++ a ∷ [];
  split = so_far.split ∙ ap (λ xs. so_far.done ++ xs) next ∙ sym (append_assoc so_far.done (a ∷ []) left);
  many = let many = so_far.many in let longer = length-append so_far.done (a ∷ []) in omega (arith, longer);
  each = subst (Each Goes 0 (so_far.done ++ a ∷ [])) (sym more_is)
      (each_more Goes 0 so_far.done gave a b (subst (λ n. Goes n a b) (at_is ∙ let many = so_far.many in omega (arith, many)) goes) so_far.each);
}

pub all_done : {A B : Type 0} (Goes : ℕ → A → B → Type 0) (all rest : List A) (number : ℕ) (gave : List B) → AreDone Goes all rest number gave → length all ≡ number → Each Goes 0 all gave
all_done Goes all rest number gave so_far whole =
    subst (λ xs. Each Goes 0 xs gave) (sym (so_far.split ∙ ap (λ xs. so_far.done ++ xs) (empty rest none) ∙ append-nil so_far.done)) so_far.each
  where
    none : length rest ≡ 0
    none =
        let many = so_far.many in
        let lengths = ap length so_far.split ∙ length-append so_far.done rest in
        omega (arith, many, lengths, whole)

    empty : {X : Type 0} (xs : List X) → length xs ≡ 0 → xs ≡ []
    empty [] is = refl
    empty (x ∷ xs) is = absurd (omega (arith, is))

-- what is told of one more
pub told_on : {A B : Type 0} (Goes : ℕ → A → B → Type 0) (all rest : List A) (text : ℕ → B → List ℕ) (number at : ℕ) (b : B) (gave more : List B) (first second third : Option (List ℕ)) →
    AreDone Goes all rest number gave → at ≡ number → more ≡ gave ++ b ∷ [] → Appends first second (told_of text 0 gave) → Appends second third (text at b) →
    Appends first third (told_of text 0 more)
told_on Goes all rest text number at b gave more first second third so_far at_is more_is before now =
    let many = so_far.many in
    let long = each_length Goes 0 so_far.done gave so_far.each in
    let place : 0 + length gave ≡ at = omega (arith, at_is, many, long) in
    subst (Appends first third) (sym (ap (told_of text 0) more_is ∙ told_more text 0 gave b ∙ ap (λ n. told_of text 0 gave ++ text n b) place))
    (appends_both first second third _ _ before now)

-- the stores of the servers below this number are given to the set, and told of
pub record AreGivenBelow {K C : Type 0} (state_of : C → State) (set : Set) (all rest : List (Store K C)) (number : ℕ) (given : List (Store K C)) (old new : Option (List ℕ)) : Type 0 where
  pub told : List (Store K C × Option Extended)
  pub done : AreDone (IsGiven state_of set) all rest number told
  pub given_is : given ≡ map (λ one. one.0) told
  pub lines : Appends old new (told_of given_text 0 told)

pub none_given : {K C : Type 0} (state_of : C → State) (set : Set) (all rest given : List (Store K C)) (bytes : Option (List ℕ)) → rest ≡ all → given ≡ [] →
    AreGivenBelow state_of set all rest 0 given bytes bytes
none_given state_of set all rest given bytes whole none = record {
  told = [];
  done = subst (λ left. AreDone (IsGiven state_of set) all left 0 []) (sym whole) (none_done (IsGiven state_of set) all);
  given_is = none;
  lines = appends_nil bytes;
}

pub one_given : {K C : Type 0} (state_of : C → State) (set : Set) (all rest left : List (Store K C)) (number at : ℕ) (store one : Store K C) (given more : List (Store K C)) (first second third : Option (List ℕ)) →
    rest ≡ store ∷ left → at ≡ number → more ≡ given ++ one ∷ [] →
    ((done : Option Extended) × IsGiven state_of set at store (one, done) × Appends second third (given_text at (one, done))) →
    AreGivenBelow state_of set all rest number given first second → AreGivenBelow state_of set all left (number + 1) more first third
one_given {K} {C} state_of set all rest left number at store one given more first second third next at_is more_is gives below =
    let last : Store K C × Option Extended = (one, gives.0) in
    record {
      told = below.told ++ last ∷ [];
      done = one_more (IsGiven state_of set) all rest left number at store last below.told (below.told ++ last ∷ []) next at_is gives.1 refl below.done;
      given_is = more_is ∙ ap (λ xs. xs ++ one ∷ []) below.given_is ∙ sym (map-append (λ (it : Store K C × Option Extended). it.0) below.told (last ∷ []));
      lines = told_on (IsGiven state_of set) all rest given_text number at last below.told (below.told ++ last ∷ []) first second third below.done at_is refl below.lines gives.2;
    }

pub all_given : {K C : Type 0} (state_of : C → State) (set : Set) (all rest : List (Store K C)) (number : ℕ) (given : List (Store K C)) (old new : Option (List ℕ)) →
    length all ≡ number → AreGivenBelow state_of set all rest number given old new → GivesAll state_of set all given old new
all_given state_of set all rest number given old new whole below = record {
  told = below.told;
  each = all_done (IsGiven state_of set) all rest number below.told below.done whole;
  given_is = below.given_is;
  written = below.lines;
}

-- what stands for one more, in both lists
pub found_more : {A B : Type 0} (Goes : ℕ → A → B → Type 0) (number at : ℕ) (xs more : List A) (ys most : List B) (a : A) (b : B) → at ≡ number → Goes at a b →
    more ≡ xs ++ a ∷ [] → most ≡ ys ++ b ∷ [] → length xs ≡ number → Each Goes 0 xs ys → (length more ≡ number + 1) × Each Goes 0 more most
found_more {A} {B} Goes number at xs more ys most a b at_is goes more_is most_is many each =
    let longer = ap length more_is ∙ length-append xs (a ∷ []) in (
      omega (arith, longer, many),
      subst (λ (pair : List A × List B). Each Goes 0 pair.0 pair.1) (sym (both more_is most_is))
          (each_more Goes 0 xs ys a b (subst (λ n. Goes n a b) (at_is ∙ omega (arith, many)) goes) each),
    )
  where
    both : {X Y : Type 0} {x other : X} {y another : Y} → x ≡ other → y ≡ another → ◌≡◌ {A = X × Y} (x, y) (other, another)
    both same alike = cc

-- the place of a store that is lost is one of the places
pub lost_within : (places : List Place) (place : ℕ) → first_lost places ≡ Some place → place < length places
lost_within places place lost =
    let inside = (position-Some is_empty (take (were_there places) places) place Empty lost).0 in
    let front = length-take (were_there places) places in
    omega (arith, inside, front)

-- what holds of all once it holds of those that are left, of which there are none
pub all_closed : {X E : Type 0} (P : X → Type 0) (all rest : List X) (done : Result (Unit {0}) E) → rest ≡ [] → OnOk done (AllByRecursion P rest → AllByRecursion P all) →
    OnOk done (AllByRecursion P all)
all_closed P all rest (Ok value) none is = is (subst (AllByRecursion P) (sym none) tt)
all_closed P all rest (Err fault) none is = tt
