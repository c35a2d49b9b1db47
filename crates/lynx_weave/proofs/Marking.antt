-- An item judged by the entry that agrees with it.
use Rattle.std.proofs.Common.{◌≡◌, ◌≢◌, ℕ, ◌+◌, ◌<◌, ◌≤◌, ◌&&◌, Bool, true, false, not, cond, nat_eq, eq-eqb, max, fold, List, [], ◌∷◌, ◌++◌, take, length, slice_get, Some, None, count_by, inl, inr, zero-add, add_assoc, refl, sym, ap, ◌∙◌, subst, arith}
use Rattle.std.specs.Ordering.{eq_by_cmp}
use Rattle.std.specs.BTreeSet.{BTreeSet, contains}
use Rattle.std.proofs.lemmas.Bool.{eqb-true}
use Rattle.std.proofs.lemmas.Bool.Decides.{eqb_tells}
use Rattle.std.proofs.lemmas.List.{append-nil}
use Rattle.std.proofs.lemmas.List.Concat.{flat_map-append}
use Rattle.std.proofs.lemmas.List.Sums.{sum_by-append}
use Rattle.std.proofs.lemmas.Option.{slice_get_within}
use Rattle.lynx_cells.specs.Database.{cell_cmp}
use Rattle.lynx_entry.specs.declared.answer.Answer.TheVariants.{Begun as BegunAnswer, Refused as RefusedAnswer, Clash, UnknownProgram, WrongOrigin, ArgCount, OutsideRange, WrongShard, Full, Busy, Stopped, Memory}
use Rattle.lynx_entry.specs.Entry.{History}
use Rattle.lynx_server.proofs.Indexing.{tied_pairs}
use Rattle.lynx_world.proofs.Once.{both}
use Rattle.lynx_weave.specs.declared.told.ToldItem.{ToldItem}
use Rattle.lynx_weave.specs.declared.told.ToldItem.TheVariants.{Answered, Seen}
use Rattle.lynx_weave.specs.inner.Judging.{AreAllWellTold, AreMarked, AreWellTold, IsAgreedAt, IsBadAt, IsBadIn, IsWellTold, JudgesItem, StandsIn, agrees_at, is_fresh_at, is_full_here, marks_at}
use Rattle.lynx_weave.specs.Since.{IsFreshByOld, is_from_before}
use Rattle.lynx_weave.specs.Told.{agrees, greatest_told, is_fresh, server_told, stamp_told, tells_full}
use Rattle.lynx_weave.specs.Weaving.{all_told}
use Rattle.lynx_weave.proofs.Bridging.{agrees_by, agrees_is}
use Rattle.lynx_weave.proofs.Gets.{take_next, take_whole}

self : (n : ℕ) → nat_eq n n ≡ true
self n = eq-eqb n n refl

-- the entry found agrees
agrees_there : (histories : List History) (told : ToldItem) (at : ℕ) → IsAgreedAt histories told (Some at) →
    agrees_at histories told (server_told told) at ≡ true
agrees_there histories told at agreed =
    agreed (server_told told) at ∙ ap (λ b. b && nat_eq at at) (self (server_told told)) ∙ self at

pub stands_there : (histories : List History) (told : ToldItem) (at : ℕ) → IsAgreedAt histories told (Some at) → StandsIn histories told
stands_there histories told at agreed = inl (server_told told, at, agrees_there histories told at agreed)

add_none : (m n : ℕ) → n ≡ 0 → m ≡ m + n
add_none m n is = omega arith

add_both : (a m n : ℕ) → a ≡ m → n ≡ 0 → a ≡ m + n
add_both a m n same is = omega arith

add_one : (a m n : ℕ) → a ≡ 1 → m ≡ 0 → n ≡ 1 → a ≡ m + n
add_one a m n one none too = omega arith

-- ---- entries from before

not_stale : (histories : List History) (starts : List ℕ) (told : ToldItem) → is_fresh told ≡ false → IsFreshByOld histories starts told → ⊥
not_stale histories starts told stale old =
    let parts = both (is_fresh told) (agrees told (record { server = old.server; entry = old.entry })) old.is_by in
    let never = sym parts.0 ∙ stale in cc

-- the entry by which an item is fresh agrees with it
agrees_so : (histories : List History) (starts : List ℕ) (told : ToldItem) (old : IsFreshByOld histories starts told) →
    agrees_at histories told old.server old.place ≡ true
agrees_so histories starts told old =
    agrees_is histories told old.server old.place old.entry old.there
    ∙ (both (is_fresh told) (agrees told (record { server = old.server; entry = old.entry })) old.is_by).1

not_nowhere : (histories : List History) (starts : List ℕ) (told : ToldItem) → IsAgreedAt histories told None → IsFreshByOld histories starts told → ⊥
not_nowhere histories starts told agreed old = let never = sym (agreed old.server old.place) ∙ agrees_so histories starts told old in cc

not_before : (histories : List History) (starts : List ℕ) (told : ToldItem) (at : ℕ) → IsAgreedAt histories told (Some at) →
    is_from_before starts (server_told told) at ≡ false → IsFreshByOld histories starts told → ⊥
not_before histories starts told at agreed behind old =
    let is = both (nat_eq old.server (server_told told)) (nat_eq old.place at)
    (sym (agreed old.server old.place) ∙ agrees_so histories starts told old) in
    let server_is : old.server ≡ server_told told = eqb-true old.server (server_told told) is.0 in
    let place_is : old.place ≡ at = eqb-true old.place at is.1 in
    let never = sym old.before ∙ ap (λ n. is_from_before starts n old.place) server_is ∙ ap (is_from_before starts (server_told told)) place_is ∙ behind in cc

-- an item that is fresh by an entry from before
pub judged_before : (histories : List History) (starts : List ℕ) (greatest : ℕ) (told : ToldItem) (at : ℕ) (old new : BTreeSet (ℕ × ℕ)) →
    IsAgreedAt histories told (Some at) → is_fresh told ≡ true → is_from_before starts (server_told told) at ≡ true →
    JudgesItem histories starts greatest told old new false
judged_before histories starts greatest told at old new agreed fresh before =
    let one = agrees_by histories told (server_told told) at (agrees_there histories told at agreed) in
    inr (inr (inr (record {
      server = server_told told;
      place = at;
      entry = one.entry;
      there = one.there;
      before = before;
      is_by = ap (λ b. b && agrees told (record { server = server_told told; entry = one.entry })) fresh ∙ one.agrees_so;
    })))

-- ---- an item with which no entry agrees

pub full_stale : (told : ToldItem) → tells_full told ≡ true → is_fresh told ≡ false
full_stale (Answered server request (BegunAnswer chain stamp results again)) is = cc
full_stale (Answered server request (RefusedAnswer need stamp again)) is = cc
full_stale (Answered server request Clash) is = cc
full_stale (Answered server request UnknownProgram) is = cc
full_stale (Answered server request WrongOrigin) is = cc
full_stale (Answered server request ArgCount) is = cc
full_stale (Answered server request OutsideRange) is = cc
full_stale (Answered server request WrongShard) is = cc
full_stale (Answered server request Full) is = refl
full_stale (Answered server request Busy) is = cc
full_stale (Answered server request Stopped) is = cc
full_stale (Answered server request Memory) is = cc
full_stale (Seen server chain hop stamp results) is = cc

and_never : (b : Bool) → (b && false) ≡ false
and_never true = refl
and_never false = refl

pub judged_nowhere : (histories : List History) (starts : List ℕ) (greatest : ℕ) (told : ToldItem) (old : BTreeSet (ℕ × ℕ)) (b : Bool) →
    IsAgreedAt histories told None → b ≡ (tells_full told && is_full_here histories (server_told told)) → JudgesItem histories starts greatest told old old b
judged_nowhere histories starts greatest told old true agreed is = (
  record {
    stands = inr (sym is);
    in_time = λ fresh.
        let full = both (tells_full told) (is_full_here histories (server_told told)) (sym is) in
        let never = sym fresh ∙ full_stale told full.0 in cc;
    since = not_nowhere histories starts told agreed;
  },
  λ server place. add_none (marks_at old server place) _
      (ap (λ b. cond b 1 0) (ap (λ b. is_fresh told && b) (agreed server place) ∙ and_never (is_fresh told))),
)
judged_nowhere histories starts greatest told old false agreed is =
    inl (λ stands. elim stands [
      | inl some ↦ let never = sym (agreed some.0 some.1) ∙ some.2 in cc
      | inr full ↦ let never = is ∙ full in cc
    ])

-- ---- an item with which one does

-- an item that isn't fresh
pub judged_old : (histories : List History) (starts : List ℕ) (greatest : ℕ) (told : ToldItem) (at : ℕ) (old : BTreeSet (ℕ × ℕ)) → IsAgreedAt histories told (Some at) →
    is_fresh told ≡ false → JudgesItem histories starts greatest told old old true
judged_old histories starts greatest told at old agreed stale = (
  record {
    stands = stands_there histories told at agreed;
    in_time = λ fresh. let never = sym fresh ∙ stale in cc;
    since = not_stale histories starts told stale;
  },
  λ server place. add_none (marks_at old server place) _ (ap (λ b. cond (b && agrees_at histories told server place) 1 0) stale),
)

-- a fresh item, and the mark that was made
pub judged_new : (histories : List History) (starts : List ℕ) (greatest : ℕ) (told : ToldItem) (at : ℕ) (old new : BTreeSet (ℕ × ℕ)) (added : Bool) →
    IsAgreedAt histories told (Some at) → is_fresh told ≡ true → is_from_before starts (server_told told) at ≡ false → greatest < stamp_told told →
    added ≡ not (contains cell_cmp old (server_told told, at)) →
    ((key : ℕ × ℕ) → contains cell_cmp new key ≡ cond (eq_by_cmp cell_cmp (server_told told, at) key) true (contains cell_cmp old key)) →
    JudgesItem histories starts greatest told old new added
judged_new histories starts greatest told at old new true agreed fresh behind late added updates = (
  record {
    stands = stands_there histories told at agreed;
    in_time = λ is. late;
    since = not_before histories starts told at agreed behind;
  },
  λ server place. marks server place,
)
  where
    absent : (b : Bool) → true ≡ not b → b ≡ false
    absent true is = cc
    absent false is = refl

    fresh_is : (server place : ℕ) → is_fresh_at histories server place told ≡ (nat_eq server (server_told told) && nat_eq place at)
    fresh_is server place = ap (λ b. b && agrees_at histories told server place) fresh ∙ agreed server place

    next_is : (server place : ℕ) → contains cell_cmp new (server, place)
        ≡ cond (nat_eq (server_told told) server && nat_eq at place) true (contains cell_cmp old (server, place))
    next_is server place =
        updates (server, place) ∙ ap (λ b. cond b true (contains cell_cmp old (server, place))) (tied_pairs (server_told told, at) (server, place))

    -- the entry that is marked now
    here : (server place : ℕ) → server ≡ server_told told → place ≡ at →
        marks_at new server place ≡ marks_at old server place + cond (is_fresh_at histories server place told) 1 0
    here server place server_is place_is =
        let was : marks_at old server place ≡ 0 =
        ap (λ (key : ℕ × ℕ). cond (contains cell_cmp old key) 1 0) (λ i. (server_is i, place_is i))
        ∙ ap (λ b. cond b 1 0) (absent (contains cell_cmp old (server_told told, at)) added) in
        let is : marks_at new server place ≡ 1 =
        ap (λ b. cond b 1 0)
        (next_is server place
        ∙ ap (λ b. cond (b && nat_eq at place) true (contains cell_cmp old (server, place))) (eq-eqb _ _ (sym server_is))
        ∙ ap (λ b. cond b true (contains cell_cmp old (server, place))) (eq-eqb _ _ (sym place_is))) in
        add_one (marks_at new server place) (marks_at old server place) _ is was
        (ap (λ b. cond b 1 0)
        (fresh_is server place ∙ ap (λ b. b && nat_eq place at) (eq-eqb _ _ server_is) ∙ eq-eqb _ _ place_is))

    -- another entry
    elsewhere : (server place : ℕ) → (nat_eq (server_told told) server && nat_eq at place) ≡ false → (nat_eq server (server_told told) && nat_eq place at) ≡ false →
        marks_at new server place ≡ marks_at old server place + cond (is_fresh_at histories server place told) 1 0
    elsewhere server place apart apart_too =
        let same : marks_at new server place ≡ marks_at old server place =
        ap (λ b. cond b 1 0) (next_is server place ∙ ap (λ b. cond b true (contains cell_cmp old (server, place))) apart) in
        add_both (marks_at new server place) (marks_at old server place) _ same (ap (λ b. cond b 1 0) (fresh_is server place ∙ apart_too))

    unlike : (a b : ℕ) → a ≢ b → nat_eq a b ≡ false
    unlike a b apart = elim (eqb_tells a b) [ inl same ↦ absurd (apart same.1) | inr differs ↦ differs.0 ]

    and_no : (b : Bool) → (b && false) ≡ false
    and_no true = refl
    and_no false = refl

    marks : (server place : ℕ) → marks_at new server place ≡ marks_at old server place + cond (is_fresh_at histories server place told) 1 0
    marks server place = elim (eqb_tells server (server_told told)) [
      | inl same ↦ elim (eqb_tells place at) [
        | inl alike ↦ here server place same.1 alike.1
        | inr differs ↦ elsewhere server place
            (ap (λ b. nat_eq (server_told told) server && b) (unlike at place (λ is. differs.1 (sym is))) ∙ and_no (nat_eq (server_told told) server))
            (ap (λ b. nat_eq server (server_told told) && b) differs.0 ∙ and_no (nat_eq server (server_told told)))
      ]
      | inr differs ↦ elsewhere server place
          (ap (λ b. b && nat_eq at place) (unlike (server_told told) server (λ is. differs.1 (sym is))))
          (ap (λ b. b && nat_eq place at) differs.0)
    ]
judged_new histories starts greatest told at old new false agreed fresh behind late added updates =
    inr (inr (inl (record {
      server = server_told told;
      place = at;
      is_by = ap (λ b. b && agrees_at histories told (server_told told) at) fresh ∙ agrees_there histories told at agreed;
      again = marked (contains cell_cmp old (server_told told, at)) added;
    })))
  where
    marked : (b : Bool) → false ≡ not b → 1 ≤ cond b 1 0
    marked true is = omega arith
    marked false is = cc

-- ---- one item more of a session

one_more : (test : ToldItem → Bool) (items : List ToldItem) (place : ℕ) (told : ToldItem) → slice_get items place ≡ Some told →
    count_by test (take (place + 1) items) ≡ count_by test (take place items) + cond (test told) 1 0
one_more test items place told there =
    ap (count_by test) (take_next items place told there)
    ∙ sum_by-append (λ t. cond (test t) 1 0) (take place items) (told ∷ []) ∙ single
  where
    single : count_by test (take place items) + count_by test (told ∷ []) ≡ count_by test (take place items) + cond (test told) 1 0
    single = ap (λ n. count_by test (take place items) + n) (zero-add (cond (test told) 1 0))

pub marked_more : (histories : List History) (old middle new : BTreeSet (ℕ × ℕ)) (items : List ToldItem) (place : ℕ) (told : ToldItem) →
    slice_get items place ≡ Some told → AreMarked histories old (take place items) middle →
    ((server at : ℕ) → marks_at new server at ≡ marks_at middle server at + cond (is_fresh_at histories server at told) 1 0) →
    AreMarked histories old (take (place + 1) items) new
marked_more histories old middle new items place told there marked step server at =
    step server at ∙ ap (λ n. n + cond (is_fresh_at histories server at told) 1 0) (marked server at)
    ∙ add_assoc (marks_at old server at) _ _
    ∙ ap (λ n. marks_at old server at + n) (sym (one_more (is_fresh_at histories server at) items place told there))

greatest_step : (items : List ToldItem) (from : ℕ) (told : ToldItem) →
    fold (λ greatest t. max greatest (stamp_told t)) from (items ++ told ∷ []) ≡ max (fold (λ greatest t. max greatest (stamp_told t)) from items) (stamp_told told)
greatest_step [] from told = refl
greatest_step (first ∷ items) from told = greatest_step items (max from (stamp_told first)) told

pub greatest_more : (items : List ToldItem) (place : ℕ) (told : ToldItem) → slice_get items place ≡ Some told →
    greatest_told (take (place + 1) items) ≡ max (greatest_told (take place items)) (stamp_told told)
greatest_more items place told there = ap greatest_told (take_next items place told there) ∙ greatest_step (take place items) 0 told

-- the first items are well told
abbrev pub AreWellBelow : List History → List ℕ → List ToldItem → ℕ → Type 0
AreWellBelow histories starts items below =
    (place : ℕ) (told : ToldItem) → place < below → slice_get items place ≡ Some told → IsWellTold histories starts (greatest_told (take place items)) told

pub well_more : (histories : List History) (starts : List ℕ) (items : List ToldItem) (place : ℕ) (told : ToldItem) → slice_get items place ≡ Some told →
    AreWellBelow histories starts items place → IsWellTold histories starts (greatest_told (take place items)) told → AreWellBelow histories starts items (place + 1)
well_more histories starts items place told there below well other one within at = elim (eqb_tells other place) [
  | inl same ↦
      let entries : Some told ≡ Some one = sym there ∙ ap (slice_get items) (sym same.1) ∙ at in
      let alike : told ≡ one = cc in
      subst (λ t. IsWellTold histories starts (greatest_told (take other items)) t) alike
      (subst (λ n. IsWellTold histories starts (greatest_told (take n items)) told) (sym same.1) well)
  | inr differs ↦ let apart : other ≢ place = differs.1 in below other one (omega arith) at
]

pub well_all : (histories : List History) (starts : List ℕ) (items : List ToldItem) (place : ℕ) → length items ≤ place → AreWellBelow histories starts items place →
    AreWellTold histories starts items
well_all histories starts items place all below at told there = below at told (let within = slice_get_within items at told there in omega arith) there

pub marked_all : (histories : List History) (old new : BTreeSet (ℕ × ℕ)) (items : List ToldItem) (place : ℕ) → length items ≤ place →
    AreMarked histories old (take place items) new → AreMarked histories old items new
marked_all histories old new items place all marked = subst (λ l. AreMarked histories old l new) (take_whole items place all) marked

-- one item more that was judged well
pub record IsStep (histories : List History) (starts : List ℕ) (old new : BTreeSet (ℕ × ℕ)) (items : List ToldItem) (place : ℕ) : Type 0 where
  pub well : AreWellBelow histories starts items (place + 1)
  pub marked : AreMarked histories old (take (place + 1) items) new

pub stepped : (histories : List History) (starts : List ℕ) (old middle new : BTreeSet (ℕ × ℕ)) (items : List ToldItem) (place greatest : ℕ) (told : ToldItem) (b : Bool) →
    slice_get items place ≡ Some told → greatest ≡ greatest_told (take place items) → AreWellBelow histories starts items place →
    AreMarked histories old (take place items) middle → JudgesItem histories starts greatest told middle new b → b ≡ true → IsStep histories starts old new items place
stepped histories starts old middle new items place greatest told true there is below marked judged passes = record {
  well = well_more histories starts items place told there below (subst (λ n. IsWellTold histories starts n told) is judged.0);
  marked = marked_more histories old middle new items place told there marked judged.1;
}
stepped histories starts old middle new items place greatest told false there is below marked judged passes = cc

-- one that was judged badly
pub bad_at : (histories : List History) (starts : List ℕ) (old middle new : BTreeSet (ℕ × ℕ)) (items : List ToldItem) (place greatest : ℕ) (told : ToldItem) (b : Bool) →
    slice_get items place ≡ Some told → greatest ≡ greatest_told (take place items) → AreMarked histories old (take place items) middle →
    JudgesItem histories starts greatest told middle new b → b ≡ false → IsBadAt histories starts (marks_at old) items place
bad_at histories starts old middle new items place greatest told true there is marked judged fails = cc
bad_at histories starts old middle new items place greatest told false there is marked judged fails = record {
  item = told;
  there = there;
  badly = elim judged [
    | inl never ↦ inl never
    | inr rest ↦ elim rest [
      | inl late ↦ inr (inl (late.0, subst (λ n. stamp_told told ≤ n) is late.1))
      | inr other ↦ elim other [
        | inl again ↦ inr (inr (inl (record {
          server = again.server;
          place = again.place;
          is_by = again.is_by;
          again = subst (λ n. 1 ≤ n) (marked again.server again.place) again.again;
        })))
        | inr before ↦ inr (inr (inr before))
      ]
    ]
  ];
}

-- ---- sessions

abbrev pub AreWellBefore : List History → List ℕ → List (List ToldItem) → ℕ → Type 0
AreWellBefore histories starts told below =
    (session : ℕ) (items : List ToldItem) → session < below → slice_get told session ≡ Some items → AreWellTold histories starts items

-- each entry is marked as often as items are fresh by it
abbrev pub AreCounted : List History → BTreeSet (ℕ × ℕ) → List ToldItem → Type 0
AreCounted histories marks items =
    (server place : ℕ) → marks_at marks server place ≡ count_by (is_fresh_at histories server place) items

pub told_next : (told : List (List ToldItem)) (session : ℕ) (items : List ToldItem) → slice_get told session ≡ Some items →
    all_told (take (session + 1) told) ≡ all_told (take session told) ++ items
told_next told session items there =
    ap all_told (take_next told session items there)
    ∙ flat_map-append (λ (l : List ToldItem). l) (take session told) (items ∷ [])
    ∙ ap (λ l. all_told (take session told) ++ l) (append-nil items)

pub count_joined : (test : ToldItem → Bool) (left right : List ToldItem) → count_by test (left ++ right) ≡ count_by test left + count_by test right
count_joined test left right = sum_by-append (λ t. cond (test t) 1 0) left right

pub counted_more : (histories : List History) (told : List (List ToldItem)) (session : ℕ) (items : List ToldItem) (old new : BTreeSet (ℕ × ℕ)) →
    slice_get told session ≡ Some items → AreCounted histories old (all_told (take session told)) → AreMarked histories old items new →
    AreCounted histories new (all_told (take (session + 1) told))
counted_more histories told session items old new there counted marked server place =
    marked server place
    ∙ ap (λ n. n + count_by (is_fresh_at histories server place) items) (counted server place)
    ∙ sym (ap (count_by (is_fresh_at histories server place)) (told_next told session items there)
    ∙ count_joined (is_fresh_at histories server place) (all_told (take session told)) items)

pub well_before_more : (histories : List History) (starts : List ℕ) (told : List (List ToldItem)) (session : ℕ) (items : List ToldItem) →
    slice_get told session ≡ Some items → AreWellBefore histories starts told session → AreWellTold histories starts items → AreWellBefore histories starts told (session + 1)
well_before_more histories starts told session items there before well other its within at = elim (eqb_tells other session) [
  | inl same ↦
      let lists : Some items ≡ Some its = sym there ∙ ap (slice_get told) (sym same.1) ∙ at in
      let alike : items ≡ its = cc in subst (AreWellTold histories starts) alike well
  | inr differs ↦ let apart : other ≢ session = differs.1 in before other its (omega arith) at
]

marks_few : (marks : BTreeSet (ℕ × ℕ)) (server place : ℕ) → marks_at marks server place ≤ 1
marks_few marks server place = by (contains cell_cmp marks (server, place))
  where
    by : (b : Bool) → cond b 1 0 ≤ 1
    by true = omega arith
    by false = omega arith

pub all_well : (histories : List History) (starts : List ℕ) (told : List (List ToldItem)) (session : ℕ) (marks : BTreeSet (ℕ × ℕ)) → length told ≤ session →
    AreWellBefore histories starts told session → AreCounted histories marks (all_told (take session told)) → AreAllWellTold histories starts told
all_well histories starts told session marks all before counted = record {
  each = λ at items there. before at items (let within = slice_get_within told at items there in omega arith) there;
  once = λ server place. subst (λ n. n ≤ 1)
      (counted server place ∙ ap (λ l. count_by (is_fresh_at histories server place) (all_told l)) (take_whole told session all))
      (marks_few marks server place);
}

pub bad_in : (histories : List History) (starts : List ℕ) (told : List (List ToldItem)) (session place : ℕ) (items : List ToldItem) (marks : BTreeSet (ℕ × ℕ)) →
    slice_get told session ≡ Some items → AreCounted histories marks (all_told (take session told)) → IsBadAt histories starts (marks_at marks) items place →
    IsBadIn histories starts told session place
bad_in histories starts told session place items marks there counted bad = record {
  items = items;
  items_are = there;
  bad = record {
    item = bad.item;
    there = bad.there;
    badly = elim bad.badly [
      | inl never ↦ inl never
      | inr rest ↦ elim rest [
        | inl late ↦ inr (inl late)
        | inr other ↦ elim other [
          | inl again ↦ inr (inr (inl (record {
            server = again.server;
            place = again.place;
            is_by = again.is_by;
            again = subst (λ n. 1 ≤ n + count_by (is_fresh_at histories again.server again.place) (take place items))
                (counted again.server again.place) again.again;
          })))
          | inr before ↦ inr (inr (inr before))
        ]
      ]
    ];
  };
}
