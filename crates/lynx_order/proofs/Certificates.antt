-- An order that holds keeps what precedes what.
use Rattle.std.proofs.Common.{◌≡◌, ◌≢◌, ℕ, zero, suc, ◌+◌, ◌<◌, ◌≤◌, true, false, not, ◌&&◌, List, [], ◌∷◌, length, get_or, Some, nat_eq, slice_get, inl, inr, ◌⊎◌, IsTrue, refl, sym, ap, ◌∙◌, subst, arith}
use Rattle.std.proofs.lemmas.Bool.{cases_lt}
use Rattle.std.proofs.lemmas.Bool.Decides.{eqb_tells}
use Rattle.std.proofs.lemmas.Option.{slice_get-get_or, slice_get_within}
use Rattle.lynx_foot.specs.Kinds.{commute}
use Rattle.lynx_foot.specs.Tests.{collide}
use Rattle.lynx_order.specs.declared.search.touched.ChainTouch.{ChainTouch}
use Rattle.lynx_world.proofs.Once.{both}
use Rattle.lynx_order.specs.declared.rising.Sweep.{Sweep}
use Rattle.lynx_order.specs.Lists.{IsIn, AreDifferent, StandsBefore}
use Rattle.lynx_order.specs.inner.Certificates.{AreNumbers, MayFollow, HoldsOrder, Inverts, IsCounted, IsNoLater, IsOfCell, KeepsRank, Rise, rank_at}
use Rattle.lynx_order.proofs.Found.{different_from_before}
use Rattle.lynx_order.proofs.Places.{in_at}

-- ---- places of what is in a list

pub at_place : {X : Type 0} (x : X) (xs : List X) → IsIn x xs → (i : ℕ) × (slice_get xs i ≡ Some x)
at_place x [] never = absurd never
at_place x (y ∷ xs) (inl same) = (0, ap Some same)
at_place x (y ∷ xs) (inr later) = let found = at_place x xs later in (suc found.0, found.1)

-- two places, the one before the other
record TwoPlaces {X : Type 0} (a b : X) (xs : List X) : Type 0 where
  place : ℕ
  later : ℕ
  in_order : place < later
  first_there : slice_get xs place ≡ Some a
  second_there : slice_get xs later ≡ Some b

two_places : {X : Type 0} (a b : X) (xs : List X) → StandsBefore a b xs → TwoPlaces a b xs
two_places a b [] never = absurd never
two_places a b (x ∷ xs) (inl here) =
    let found = at_place b xs here.1 in
    record { place = 0; later = suc found.0; in_order = omega arith; first_there = ap Some here.0; second_there = found.1 }
two_places a b (x ∷ xs) (inr later) =
    let old = two_places a b xs later in
    let less = old.in_order in
    record { place = suc old.place; later = suc old.later; in_order = omega arith; first_there = old.first_there; second_there = old.second_there }

before_at : {X : Type 0} (a b : X) (xs : List X) (place later : ℕ) → slice_get xs place ≡ Some a → slice_get xs later ≡ Some b → place < later → StandsBefore a b xs
before_at a b [] place later one two less = cc
before_at a b (x ∷ xs) place zero one two less = absurd (omega arith)
before_at a b (x ∷ xs) zero (suc later) one two less = let same : x ≡ a = cc in inl (same, in_at xs later b two)
before_at a b (x ∷ xs) (suc place) (suc later) one two less = inr (before_at a b xs place later one two (omega arith))

one_of : (xs : List ℕ) (i a b : ℕ) → slice_get xs i ≡ Some a → slice_get xs i ≡ Some b → a ≡ b
one_of xs i a b one two = let same = sym one ∙ two in cc

-- ---- touches in order

no_later_self : (touch : ChainTouch) → IsNoLater touch touch
no_later_self touch = record { tables = omega arith; keys = λ same. omega arith; places = λ same. omega arith }

-- what is between two touches of one cell is of that cell
pub of_cells : (a b c : ChainTouch) → IsNoLater a b → IsNoLater b c → IsOfCell a c → IsOfCell a b × IsOfCell b c
of_cells a b c one two same =
    let tables_before = one.tables in
    let tables_behind = two.tables in
    let st = same.0 in
    let sk = same.1 in
    let e1 : a.touch.table ≡ b.touch.table = omega arith in
    let e2 : b.touch.table ≡ c.touch.table = omega arith in
    let k1 = one.keys e1 in
    let k2 = two.keys e2 in
    ((e1, omega arith), (e2, omega arith))

pub no_later_far : (a b c : ChainTouch) → IsNoLater a b → IsNoLater b c → IsNoLater a c
no_later_far a b c one two =
    let tables_before = one.tables in
    let tables_behind = two.tables in
    record {
      tables = omega arith;
      keys = λ same.
          let e1 : a.touch.table ≡ b.touch.table = omega arith in
          let e2 : b.touch.table ≡ c.touch.table = omega arith in
          let k1 = one.keys e1 in
          let k2 = two.keys e2 in
          omega arith;
      places = λ same.
          let cells = of_cells a b c one two same in
          let p1 = one.places cells.0 in
          let p2 = two.places cells.1 in
          omega arith;
    }

-- what two touches that collide have in common
collide_cell : (one other : ChainTouch) → IsTrue (collide one.touch other.touch) → IsOfCell one other × IsTrue (not (commute one.touch.kind other.touch.kind))
collide_cell one other collides =
    let parts = both (nat_eq one.touch.table other.touch.table && nat_eq one.touch.key other.touch.key) _ collides in
    let cell = both (nat_eq one.touch.table other.touch.table) _ parts.0 in
    ((eq_of _ _ cell.0, eq_of _ _ cell.1), parts.1)
  where
    eq_of : (a b : ℕ) → nat_eq a b ≡ true → a ≡ b
    eq_of a b test = elim (eqb_tells a b) [
      | inl alike ↦ alike.1
      | inr differ ↦ absurd (never (sym differ.0 ∙ test))
    ]
      where
        never : false ≡ true → ⊥
        never e = cc

-- ---- a pass

pub get_next : {X : Type 0} (x : X) (xs : List X) (i : ℕ) (y : X) → slice_get xs i ≡ Some y → slice_get (x ∷ xs) (i + 1) ≡ Some y
get_next x xs i y there = subst (λ k. slice_get (x ∷ xs) k ≡ Some y) (next i) there
  where
    next : (i : ℕ) → suc i ≡ i + 1
    next i = omega arith

-- the touches up to a place are counted
abbrev pub AreCounted : List ℕ → List ChainTouch → ℕ → Sweep → Type 0
AreCounted ranks touches last sweep = (k : ℕ) (one : ChainTouch) → k ≤ last → slice_get touches k ≡ Some one → IsCounted ranks sweep one

-- they keep their ranks
abbrev pub RiseTo : List ℕ → List ChainTouch → ℕ → Type 0
RiseTo ranks touches last =
    (k later : ℕ) (one other : ChainTouch) → k < later → later ≤ last → slice_get touches k ≡ Some one → slice_get touches later ≡ Some other → KeepsRank ranks one other

same_touch : (touches : List ChainTouch) (k last : ℕ) (one touch : ChainTouch) → slice_get touches last ≡ Some touch → k ≡ last → slice_get touches k ≡ Some one → touch ≡ one
same_touch touches k last one touch there same at =
    let found : Some touch ≡ Some one = sym there ∙ ap (slice_get touches) (sym same) ∙ at in
    cc

pub counted_first : (ranks : List ℕ) (touches : List ChainTouch) (sweep : Sweep) (first : ChainTouch) → slice_get touches 0 ≡ Some first → IsCounted ranks sweep first →
    AreCounted ranks touches 0 sweep
counted_first ranks touches sweep first there own = λ k one least at. subst (IsCounted ranks sweep) (same_touch touches k 0 one first there (omega arith) at) own

pub rise_first : (ranks : List ℕ) (touches : List ChainTouch) → RiseTo ranks touches 0
rise_first ranks touches = λ k later one other less least. absurd (omega arith)

at_most : (k last : ℕ) → k ≤ last + 1 → (k ≤ last) ⊎ (k ≡ last + 1)
at_most k last least = elim (cases_lt last k) [ inl above ↦ inr (omega arith) | inr below ↦ inl (omega arith) ]

pub counted_more : (ranks : List ℕ) (touches : List ChainTouch) (last : ℕ) (sweep next : Sweep) (touch : ChainTouch) → slice_get touches (last + 1) ≡ Some touch →
    MayFollow ranks sweep next touch → AreCounted ranks touches last sweep → AreCounted ranks touches (last + 1) next
counted_more ranks touches last sweep next touch there follows old = λ k one least at. elim (at_most k last least) [
  | inl before ↦ follows.counted one (old k one before at)
  | inr same ↦ subst (IsCounted ranks next) (same_touch touches k (last + 1) one touch there same at) follows.own
]

pub rise_more : (ranks : List ℕ) (touches : List ChainTouch) (last : ℕ) (sweep next : Sweep) (touch : ChainTouch) → slice_get touches (last + 1) ≡ Some touch →
    MayFollow ranks sweep next touch → AreCounted ranks touches last sweep → RiseTo ranks touches last → RiseTo ranks touches (last + 1)
rise_more ranks touches last sweep next touch there follows counted old = λ k later one other less least at too. elim (at_most later last least) [
  | inl before ↦ old k later one other less before at too
  | inr same ↦ subst (KeepsRank ranks one) (same_touch touches later (last + 1) other touch there same too) (follows.kept one (counted k one (omega arith) at))
]

-- ---- different numbers

different_numbers : (numbers ranks : List ℕ) → Inverts numbers ranks → AreDifferent numbers
different_numbers numbers ranks there = different_from_before numbers (λ number before.
    let at = two_places number number numbers before in
    let same = one_of ranks number at.place at.later (there at.place number at.first_there) (there at.later number at.second_there) in
    let less = at.in_order in
    omega arith)

numbers_within : (numbers ranks : List ℕ) (number : ℕ) → Inverts numbers ranks → IsIn number numbers → number < length ranks
numbers_within numbers ranks number there inside = let at = at_place number numbers inside in slice_get_within ranks number at.0 (there at.0 number at.1)

pub numbers_differ : (count : ℕ) (numbers ranks : List ℕ) → length ranks ≡ count → Inverts numbers ranks → AreNumbers count numbers
numbers_differ count numbers ranks whole there = record {
  once = different_numbers numbers ranks there;
  within = λ number inside. let below = numbers_within numbers ranks number there inside in omega arith;
}

-- ---- orders

pub order_held : (count : ℕ) (touches : List ChainTouch) (order ranks : List ℕ) → length ranks ≡ count → Inverts order ranks → Inverts ranks order → Rise ranks touches →
    HoldsOrder count touches order
order_held count touches order ranks whole there back rises = record {
  numbers = numbers_differ count order ranks whole there;
  all = λ chain within. in_at order (get_or ranks chain 0) chain (placed chain within);
  in_order = λ one other first second home too differ before collides.
      let i = at_place one touches first in
      let j = at_place other touches second in
      by one other home too differ before collides i.0 j.0 i.1 j.1 (apart i.0 j.0);
}
  where
    placed : (chain : ℕ) → chain < count → slice_get order (get_or ranks chain 0) ≡ Some chain
    placed chain within = back chain (get_or ranks chain 0) (slice_get-get_or ranks chain 0 (omega arith))

    -- one of three
    apart : (i j : ℕ) → (i < j) ⊎ ((i ≡ j) ⊎ (j < i))
    apart zero zero = inr (inl refl)
    apart zero (suc j) = inl (omega arith)
    apart (suc i) zero = inr (inr (omega arith))
    apart (suc i) (suc j) = elim (apart i j) [
      | inl less ↦ inl (omega arith)
      | inr rest ↦ elim rest [ inl same ↦ inr (inl (ap suc same)) | inr more ↦ inr (inr (omega arith)) ]
    ]

    by : (one other : ChainTouch) → one.chain < count → other.chain < count → one.chain ≢ other.chain → one.place < other.place → IsTrue (collide one.touch other.touch) →
        (i j : ℕ) → slice_get touches i ≡ Some one → slice_get touches j ≡ Some other → (i < j) ⊎ ((i ≡ j) ⊎ (j < i)) → StandsBefore one.chain other.chain order
    by one other home too differ before collides i j first second (inl less) =
        let risen = (rises i j one other less first second).ranked collides in
        let p : slice_get order (rank_at ranks one) ≡ Some one.chain = placed one.chain home in
        let q : slice_get order (rank_at ranks other) ≡ Some other.chain = placed other.chain too in
        elim (apart (rank_at ranks one) (rank_at ranks other)) [
          | inl rank_less ↦ before_at one.chain other.chain order (rank_at ranks one) (rank_at ranks other) p q rank_less
          | inr rest ↦ elim rest [
            | inl same ↦ absurd (differ (one_of order (rank_at ranks other) one.chain other.chain (subst (λ r. slice_get order r ≡ Some one.chain) same p) q))
            | inr more ↦ absurd (omega arith)
          ]
        ]
    by one other home too differ before collides i j first second (inr (inl same)) =
        let alike : Some one ≡ Some other = sym first ∙ ap (slice_get touches) same ∙ second in
        let equal : one ≡ other = cc in
        let places = ap (λ (t : ChainTouch). t.place) equal in
        absurd (omega arith)
    by one other home too differ before collides i j first second (inr (inr more)) =
        let back_order = (rises j i other one more second first).no_later in
        let cell = (collide_cell one other collides).0 in
        let place = back_order.places (sym cell.0, sym cell.1) in
        absurd (omega arith)
