-- Marks, chains that are picked, and walks back.
use Rattle.std.proofs.Common.{◌≡◌, ◌≢◌, ℕ, zero, suc, ◌<◌, Bool, true, false, List, [], ◌∷◌, ◌++◌, length, get_or, take, drop, replicate, inl, inr, ◌⊎◌, refl, sym, ap, ◌∙◌, subst, arith}
use Rattle.std.specs.Prelude.{All, IfOk, Result, Ok, Err}
use Rattle.std.proofs.Math.ListN.{set}
use Rattle.std.proofs.lemmas.Bool.{cases_lt}
use Rattle.std.proofs.lemmas.Bool.Decides.{eqb_tells}
use Rattle.std.proofs.lemmas.List.{get_or-replicate, get_or-set_other, get_or-set_same, get_or_default, get_or_past, length-replicate, length-set}
use Rattle.std.proofs.lemmas.List.Elements.{All-nil, All-cons}
use Rattle.lynx_order.specs.Lists.{IsIn, AreDifferent}
use Rattle.lynx_order.specs.inner.Picks.{AreHints, AreLinked, ArePicked, ComesBefore, IsClosed, IsFree, IsMarked, IsPart, IsRound, IsTrail, LeftBefore}
use Rattle.lynx_order.proofs.Lists.{before-across, before-left, different-append, different-seam, in-either, in-left, in-right}

-- ---- marks

never_true : false ≡ true → ⊥
never_true e = cc

pub marked_within : (marks : List Bool) (place : ℕ) → IsMarked marks place → place < length marks
marked_within marks place is = elim (cases_lt place (length marks)) [
  | inl within ↦ within
  | inr past ↦ absurd (never_true (sym (get_or_past marks place false past) ∙ is))
]

-- a place that is marked after one mark is taken away is another, and was marked
pub marked_still : (marks : List Bool) (gone place : ℕ) → gone < length marks → IsMarked (set marks gone false) place → (gone ≢ place) × IsMarked marks place
marked_still marks gone place within is = elim (eqb_tells gone place) [
  | inl same ↦ absurd (never_true (sym (get_or-set_same marks gone false false within) ∙ ap (λ p. get_or (set marks gone false) p false) same.1 ∙ is))
  | inr differ ↦ (differ.1, sym (get_or-set_other marks gone place false false (λ e. differ.1 (sym e))) ∙ is)
]

-- each place that was marked is still, but for the one
pub marked_or : (marks : List Bool) (gone place : ℕ) → IsMarked marks place → (gone ≡ place) ⊎ IsMarked (set marks gone false) place
marked_or marks gone place is = elim (eqb_tells gone place) [
  | inl same ↦ inl same.1
  | inr differ ↦ inr (get_or-set_other marks gone place false false (λ e. differ.1 (sym e)) ∙ is)
]

pub all_marked : (n place : ℕ) → place < n → IsMarked (replicate n true) place
all_marked n place within = get_or-replicate n place true false within

-- how many places are marked
unfoldable pub mark_count : List Bool → ℕ
mark_count [] = 0
mark_count (true ∷ marks) = suc (mark_count marks)
mark_count (false ∷ marks) = mark_count marks

pub mark_count-set : (marks : List Bool) (place : ℕ) → IsMarked marks place → mark_count (set marks place false) < mark_count marks
unfolding mark_count
mark_count-set [] place is = cc
mark_count-set (true ∷ marks) zero is = omega arith
mark_count-set (false ∷ marks) zero is = cc
mark_count-set (true ∷ marks) (suc place) is = let fewer = mark_count-set marks place is in omega arith
mark_count-set (false ∷ marks) (suc place) is = mark_count-set marks place is

-- ---- chains that are picked

pub picked_none : (table : List (List Bool)) → ArePicked table [] (replicate (length table) true)
picked_none table = record {
  whole = length-replicate (length table) true;
  once = tt;
  within = λ place never. absurd never;
  either = λ place within. inr (all_marked (length table) place within);
  apart = λ place never. absurd never;
  in_order = λ one other within never before. absurd never;
}

pub picked_more : (table : List (List Bool)) (picked : List ℕ) (left : List Bool) (place : ℕ) → ArePicked table picked left → IsFree table left place →
    ArePicked table (picked ++ place ∷ []) (set left place false)
picked_more table picked left place old free = record {
  whole = length-set left place false ∙ old.whole;
  once = different-append picked (place ∷ []) old.once (λ never. never, tt) (λ other there same. elim same [
    | inl is ↦ old.apart place (subst (λ p. IsIn p picked) (sym is) there) free.is_left
    | inr never ↦ never
  ]);
  within = λ other there. elim (in-either other picked (place ∷ []) there) [
    | inl before ↦ old.within other before
    | inr last ↦ elim last [
      | inl is ↦ let below : place < length left = free.within in let whole = old.whole in omega arith
      | inr never ↦ absurd never
    ]
  ];
  either = λ other within. elim (old.either other within) [
    | inl there ↦ inl (in-left other picked (place ∷ []) there)
    | inr marked ↦ elim (marked_or left place other marked) [
      | inl is ↦ inl (in-right other picked (place ∷ []) (inl is))
      | inr still ↦ inr still
    ]
  ];
  apart = λ other there marked.
      let still = marked_still left place other free.within marked in
      elim (in-either other picked (place ∷ []) there) [
        | inl before ↦ old.apart other before still.1
        | inr last ↦ elim last [ inl is ↦ still.0 is | inr never ↦ never ]
      ];
  in_order = λ one other within there before. elim (in-either other picked (place ∷ []) there) [
    | inl old_one ↦ before-left one other picked (place ∷ []) (old.in_order one other within old_one before)
    | inr last ↦ elim last [
      | inl is ↦ elim (old.either one within) [
        | inl picked_before ↦ before-across one other picked (place ∷ []) picked_before (inl is)
        | inr marked ↦ absurd (free.alone one marked (subst (λ p. ComesBefore table one p) (sym is) before))
      ]
      | inr never ↦ absurd never
    ]
  ];
}

-- ---- walks back

pub trail_none : (table : List (List Bool)) (left : List Bool) (start : ℕ) → IsMarked left start → IsTrail table left (replicate (length table) true) [] start
trail_none table left start is = record {
  whole = length-replicate (length table) true;
  is_left = is;
  all_left = λ place never. absurd never;
  once = tt;
  apart = λ place never. absurd never;
  either = λ place within. inr (all_marked (length table) place within);
  linked = tt;
}

pub trail_more : (table : List (List Bool)) (left fresh : List Bool) (path : List ℕ) (current next : ℕ) → IsTrail table left fresh path current →
    IsMarked fresh current → LeftBefore table left next current → IsTrail table left (set fresh current false) (current ∷ path) next
trail_more table left fresh path current next old is before =
    let within = marked_within fresh current is in
    record {
      whole = length-set fresh current false ∙ old.whole;
      is_left = before.is_left;
      all_left = λ place there. elim there [
        | inl same ↦ subst (IsMarked left) same old.is_left
        | inr later ↦ old.all_left place later
      ];
      once = (λ there. old.apart current there is, old.once);
      apart = λ place there marked.
          let still = marked_still fresh current place within marked in
          elim there [ inl same ↦ still.0 same | inr later ↦ old.apart place later still.1 ];
      either = λ place there. elim (old.either place there) [
        | inl met ↦ inl (inr met)
        | inr marked ↦ elim (marked_or fresh current place marked) [ inl same ↦ inl (inl same) | inr still ↦ inr still ]
      ];
      linked = (before.before, old.linked);
    }

pub trail_closed : (table : List (List Bool)) (left fresh : List Bool) (path : List ℕ) (current : ℕ) → IsTrail table left fresh path current →
    length left ≡ length table → get_or fresh current false ≡ false → IsClosed table left path current
trail_closed table left fresh path current trail whole met = record {
  met = elim (trail.either current (let within = marked_within left current trail.is_left in omega arith)) [
    | inl there ↦ there
    | inr marked ↦ absurd (never_true (sym met ∙ marked))
  ];
  all_left = trail.all_left;
  once = trail.once;
  linked = trail.linked;
}

-- ---- the part that is a cycle

linked_front : {X : Type 0} (R : X → X → Type 0) (xs : List X) (x : X) (zs : List X) → AreLinked R (xs ++ x ∷ zs) → AreLinked R (xs ++ x ∷ [])
linked_front R [] x zs linked = tt
linked_front R (y ∷ []) x zs linked = (linked.0, tt)
linked_front R (y ∷ z ∷ xs) x zs linked = (linked.0, linked_front R (z ∷ xs) x zs linked.1)

different_front : {X : Type 0} (xs ys : List X) → AreDifferent (xs ++ ys) → AreDifferent xs
different_front [] ys once = tt
different_front (x ∷ xs) ys once = (λ there. once.0 (in-left x xs ys there), different_front xs ys once.1)

pub part_left : (table : List (List Bool)) (left : List Bool) (path round : List ℕ) (current : ℕ) → IsClosed table left path current → IsPart path current round →
    (place : ℕ) → IsIn place round → IsMarked left place
part_left table left path round current closed part place there =
    closed.all_left place (subst (IsIn place) (sym part.whole) (elim (subst (IsIn place) part.is there) [
      | inl same ↦ in-right place part.part (current ∷ part.older) (inl same)
      | inr later ↦ in-left place part.part (current ∷ part.older) later
    ]))

pub round_of_part : (table : List (List Bool)) (left : List Bool) (path round : List ℕ) (current : ℕ) → length left ≡ length table →
    IsClosed table left path current → IsPart path current round → IsRound table round
round_of_part table left path round current whole closed part =
    let once : AreDifferent (part.part ++ current ∷ part.older) = subst AreDifferent part.whole closed.once in
    let linked : AreLinked (ComesBefore table) (current ∷ (part.part ++ current ∷ part.older)) =
    subst (λ l. AreLinked (ComesBefore table) (current ∷ l)) part.whole closed.linked in
    let front = linked_front (ComesBefore table) (current ∷ part.part) current part.older linked in
    record {
      first = current;
      rest = part.part;
      whole = part.is;
      once = subst AreDifferent (sym part.is) (
        λ there. different-seam current part.part part.older once (in-left current part.part part.older there),
        different_front part.part (current ∷ part.older) once,
      );
      within = λ place there.
          let marked = part_left table left path round current closed part place there in
          let below = marked_within left place marked in omega arith;
      linked = subst (λ l. AreLinked (ComesBefore table) (l ++ current ∷ [])) (sym part.is) front;
    }

pub all_of_in : {X : Type 0} (P : X → Type 0) (xs : List X) → ((x : X) → IsIn x xs → P x) → All P xs
all_of_in P [] each = All-nil P
all_of_in P (x ∷ xs) each = All-cons P x xs (each x (inl refl)) (all_of_in P xs (λ y there. each y (inr there)))

-- a list around one of its items
pub around_item : (path : List ℕ) (i current : ℕ) → i < length path → get_or path i 0 ≡ current → path ≡ take i path ++ current ∷ drop (suc i) path
around_item [] i current within is = absurd (omega arith)
around_item (x ∷ path) zero current within is = ap (λ y. y ∷ path) is
around_item (x ∷ path) (suc i) current within is = ap (λ rest. x ∷ rest) (around_item path i current (omega arith) is)

-- where an item of a list stands
pub item_place : (x : ℕ) (xs : List ℕ) → IsIn x xs → (k : ℕ) × (k < length xs) × (get_or xs k 0 ≡ x)
item_place x [] never = absurd never
item_place x (y ∷ xs) (inl same) = (0, omega arith, same)
item_place x (y ∷ xs) (inr later) = let found = item_place x xs later in (suc found.0, omega arith, found.2)

pub ok_weaker : {X Y : Type 0} (r : Result X Y) (P Q : X → Type 0) → ((x : X) → P x → Q x) → IfOk r P → IfOk r Q
ok_weaker (Ok x) P Q weaker holds = weaker x holds
ok_weaker (Err y) P Q weaker holds = holds

-- a mark that was read
pub marked_read : (left marks : List Bool) (place : ℕ) (read : Bool) → length left ≡ length marks → IsMarked left place → read ≡ get_or marks place read → read ≡ true →
    IsMarked marks place
marked_read left marks place read whole is same holds =
    let within = marked_within left place is in
    get_or_default marks place false read (omega arith) ∙ sym same ∙ holds

-- ---- hints

pub hints_none : (table : List (List Bool)) (left : List Bool) → AreHints table left (replicate (length table) 0)
hints_none table left = record {
  whole = length-replicate (length table) 0;
  none_below = λ place within other below.
      let zero_is : get_or (replicate (length table) 0) place 0 ≡ 0 = get_or-replicate (length table) place 0 0 within in
      let none : other < 0 = subst (λ n. other < n) zero_is below in absurd (omega arith);
}

-- fewer that are left
pub hints_fewer : (table : List (List Bool)) (left : List Bool) (hints : List ℕ) (gone : ℕ) → gone < length left → AreHints table left hints →
    AreHints table (set left gone false) hints
hints_fewer table left hints gone within are = record {
  whole = are.whole;
  none_below = λ place below other less marked. are.none_below place below other less (marked_still left gone other within marked).1;
}
