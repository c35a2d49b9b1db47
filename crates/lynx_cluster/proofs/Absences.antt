-- Numbers of sessions that are marked one after another.
use Rattle.std.proofs.Common.{◌≡◌, ◌∙◌, ℕ, zero, suc, ◌+◌, ◌<◌, ◌⊎◌, Bool, true, false, List, length, slice_get, Option, Some, None, inl, inr, refl, sym, ap, subst, arith}
use Rattle.std.proofs.lemmas.Bool.{cases_lt}
use Rattle.std.proofs.lemmas.Option.{slice_get_cases, slice_get_within}
use Rattle.std.specs.Prelude.{replicate, unwrap_or}
use Rattle.lynx_cluster.specs.Closing.{HasOne}
use Rattle.lynx_cluster.specs.inner.Absent.{AreMarked, IsAbsent, IsFirstUnmarked, is_marked}
use Rattle.lynx_cluster.specs.Sessions.{SessionState}

-- the numbers of the first sessions are marked, and what else is marked was so before
pub record AreMarkedBelow (sessions : List SessionState) (count : ℕ) (old new : List Bool) : Type 0 where
  pub marked : (place : ℕ) (session : SessionState) → place < count → slice_get sessions place ≡ Some session → is_marked new session.number ≡ true
  pub only : (number : ℕ) → is_marked new number ≡ true → (is_marked old number ≡ true) ⊎ HasOne sessions number
  pub as_long : length new ≡ length old

pub marked_none : (sessions : List SessionState) (old : List Bool) → AreMarkedBelow sessions 0 old old
marked_none sessions old = record { marked = λ place session within there. absurd (omega (arith, within)); only = λ number is. inl is; as_long = refl }

pub marked_more : (sessions : List SessionState) (count : ℕ) (here : SessionState) (start old new : List Bool) → slice_get sessions count ≡ Some here →
    is_marked new here.number ≡ true → ((other : ℕ) → is_marked old other ≡ true → is_marked new other ≡ true) →
    ((other : ℕ) → is_marked new other ≡ true → (is_marked old other ≡ true) ⊎ (other ≡ here.number)) →
    length new ≡ length old → AreMarkedBelow sessions count start old → AreMarkedBelow sessions (count + 1) start new
marked_more sessions count here start old new there marked others only long below = record {
  marked = λ place session within at. elim (cases_lt place count) [
    | inl before ↦ others session.number (below.marked place session before at)
    | inr past ↦
        let last : place ≡ count = omega arith in
        let alike : here ≡ session = let both = sym there ∙ ap (slice_get sessions) (sym last) ∙ at in cc in
        subst (λ (s : SessionState). is_marked new s.number ≡ true) alike marked
  ];
  only = λ number is. elim (only number is) [
    | inl before ↦ below.only number before
    | inr same ↦ inr (record { place = count; session = here; there = there; number_is = sym same })
  ];
  as_long = long ∙ below.as_long;
}

pub marked_all : (sessions : List SessionState) (count : ℕ) (old new : List Bool) → length sessions ≡ count → AreMarkedBelow sessions count old new → AreMarked sessions old new
marked_all sessions count old new all below = record {
  marked = λ place session there. let within = slice_get_within sessions place session there in below.marked place session (omega (arith, all, within)) there;
  only = below.only;
  as_long = below.as_long;
}

-- marks that are all off
pub off_at : (count : ℕ) (number : ℕ) → number < count → is_marked (replicate count false) number ≡ false
off_at zero number below = absurd (omega (arith, below))
off_at (suc count) zero below = refl
off_at (suc count) (suc number) below = off_at count number (omega (arith, below))

unmarked_within : (marks : List Bool) (number : ℕ) → is_marked marks number ≡ false → number < length marks
unmarked_within marks number off = elim (slice_get_cases marks number).1 [
  | inl found ↦ slice_get_within marks number found.0 found.2
  | inr none ↦ let both = sym (ap (λ (o : Option Bool). unwrap_or o true) none.1) ∙ off in cc
]

-- where no number was marked, the first without a mark is the first of no session
pub unmarked_absent : (sessions : List SessionState) (made : ℕ) (old new : List Bool) (found : Option ℕ) → old ≡ replicate made false → length old ≡ made →
    AreMarked sessions old new → IsFirstUnmarked new found → IsAbsent made sessions found
unmarked_absent sessions made old new None off many are first = λ number below. one number below (are.only number (first number))
  where
    one : (number : ℕ) → number < made → (is_marked old number ≡ true) ⊎ HasOne sessions number → HasOne sessions number
    one number below (inl was) = let both = sym was ∙ ap (λ (marks : List Bool). is_marked marks number) off ∙ off_at made number below in cc
    one number below (inr has) = has
unmarked_absent sessions made old new (Some number) off many are first = (
  bound,
  record {
    absent = λ place session there same. let both = sym (are.marked place session there) ∙ ap (is_marked new) same ∙ first.0 in cc;
    before = λ other below. one other (omega (arith, below, bound)) (are.only other (first.1 other below));
  },
)
  where
    bound : number < made
    bound = let within = unmarked_within new number first.0 in let long = are.as_long in omega (arith, within, long, many)

    one : (other : ℕ) → other < made → (is_marked old other ≡ true) ⊎ HasOne sessions other → HasOne sessions other
    one other below (inl was) = let both = sym was ∙ ap (λ (marks : List Bool). is_marked marks other) off ∙ off_at made other below in cc
    one other below (inr has) = has
