-- The hops of entries, one after another.
use Rattle.std.proofs.Common.{◌≡◌, ◌⊎◌, inl, inr, ℕ, zero, suc, ◌+◌, ◌<◌, ◌≤◌, List, [], ◌∷◌, ◌++◌, length, map, slice_get, Option, Some, None, refl, sym, ap, subst, ◌∙◌, arith}
use Rattle.std.specs.Prelude.{◌^◌, ◌≢◌, IfSome, Vec}
use Rattle.std.specs.List.{AllByRecursion}
use Rattle.sqlite_trees.specs.Tree.{IsAscending}
use Rattle.lynx_entry.specs.declared.entry.Entry.{Entry}
use Rattle.lynx_entry.specs.declared.entry.Entry.TheVariants.{Begun, Refused, Hop}
use Rattle.lynx_entry.specs.Entry.{History}
use Rattle.lynx_keep.specs.Stored.{HasEncoding}
use Rattle.lynx_sql.specs.declared.acts.Acted.{Acted}
use Rattle.lynx_sql.specs.declared.version.StoreVersion.{StoreVersion}
use Rattle.lynx_sql.specs.declared.version.StoreVersion.TheVariants.{One, Two}
use Rattle.lynx_sql.specs.Acts.{ArePlaced, ShowActed, acts_in, with_acted, shown_act}
use Rattle.std.specs.declared.alloc.Global.{Global}
use Rattle.sqlite.specs.Order.{Row}
use Rattle.lynx_store.specs.Acts.{act_at, acted_of, acts_from, with_act, added, ShowsAt}

before_added : (first last : Option Acted) (acts : List Acted) → with_act first (added acts last) ≡ added (with_act first acts) last
before_added None last acts = refl
before_added (Some act) None acts = refl
before_added (Some act) (Some other) acts = refl

alone : (act : Option Acted) → with_act act [] ≡ added [] act
alone None = refl
alone (Some act) = refl

-- the hops of one more entry
pub acts-append : (place : ℕ) (entries : History) (entry : Entry) (at : ℕ) → at ≡ place + length entries
    → acts_from place (entries ++ entry ∷ []) ≡ added (acts_from place entries) (act_at at entry)
acts-append place [] entry at is = alone (act_at place entry) ∙ ap (λ p. added [] (act_at p entry)) (omega (arith, is))
acts-append place (e ∷ entries) entry at is =
    ap (with_act (act_at place e)) (acts-append (place + 1) entries entry at (omega (arith, is)))
    ∙ before_added (act_at place e) (act_at at entry) (acts_from (place + 1) entries)

with_added : (acts : List Acted) (act : Option Acted) → with_acted (Some acts) act ≡ Some (added acts act)
with_added acts None = refl
with_added acts (Some act) = refl

-- what a store keeps of one more entry
pub acted-append : (version : StoreVersion) (entries : History) (entry : Entry) (at : ℕ) → at ≡ length entries
    → with_acted (acted_of version entries) (act_at at entry) ≡ acted_of version (entries ++ entry ∷ [])
acted-append One entries entry at is = refl
acted-append Two entries entry at is =
    with_added (acts_from 0 entries) (act_at at entry) ∙ ap Some (sym (acts-append 0 entries entry at (omega (arith, is))))

-- ---- places

-- from a place on, below so many, and of a chain whose index is a number of 64 bits
abbrev pub Lies : ℕ → ℕ → Acted → Type 0
Lies from places act = (from ≤ act.place) × ((act.place < places) × (act.index < 2 ^ 64))

earlier : (from places : ℕ) (acts : List Acted) → AllByRecursion (Lies (from + 1) places) acts → AllByRecursion (Lies from places) acts
earlier from places [] all = tt
earlier from places (act ∷ acts) all =
    let low : from ≤ act.place = omega (arith, all.0.0) in
    ((low, all.0.1), earlier from places acts all.1)

later : (from places : ℕ) (acts : List Acted) → AllByRecursion (Lies (from + 1) places) acts → AllByRecursion (λ act. from < act.place) acts
later from places [] all = tt
later from places (act ∷ acts) all =
    let low : from < act.place = omega (arith, all.0.0) in
    (low, later from places acts all.1)

abbrev pub Lie : ℕ → ℕ → List Acted → Type 0
Lie from places acts = AllByRecursion (Lies from places) acts × IsAscending (λ act other. act.place < other.place) acts

-- one more hop before hops of later places
one_before : (place places : ℕ) (act : Acted) (acts : List Acted) → act.place ≡ place → place < places → act.index < 2 ^ 64
    → Lie (place + 1) places acts → Lie place places (act ∷ acts)
one_before place places act acts is low fits lie =
    let above : place ≤ act.place = omega (arith, is) in
    let below : act.place < places = omega (arith, is, low) in
    let rises : AllByRecursion (λ other. act.place < other.place) acts =
    subst (λ from. AllByRecursion (λ other. from < other.place) acts) (sym is) (later place places acts lie.0) in
    (((above, (below, fits)), earlier place places acts lie.0), (rises, lie.1))

-- none before them
none_before : (place places : ℕ) (acts : List Acted) → Lie (place + 1) places acts → Lie place places acts
none_before place places acts lie = (earlier place places acts lie.0, lie.1)

before : (place places : ℕ) (entry : Entry) (acts : List Acted) → place < places → HasEncoding entry → Lie (place + 1) places acts
    → Lie place places (with_act (act_at place entry) acts)
before place places (Begun begun) acts low formed lie =
    let act : Acted = record { origin = begun.chain.origin; index = begun.chain.index; hop = 0; place = place } in
    one_before place places act acts refl low formed.1.1.0.1 lie
before place places (Refused refused) acts low formed lie = none_before place places acts lie
before place places (Hop ran) acts low formed lie =
    let act : Acted = record { origin = ran.message.chain.origin; index = ran.message.chain.index; hop = ran.message.hop; place = place } in
    one_before place places act acts refl low formed.0.0.1 lie

pub lie_from : (place places : ℕ) (entries : History) → place + length entries ≤ places → AllByRecursion HasEncoding entries
    → Lie place places (acts_from place entries)
lie_from place places [] room formed = (tt, tt)
lie_from place places (entry ∷ entries) room formed =
    before place places entry (acts_from (place + 1) entries) (omega (arith, room)) formed.0
    (lie_from (place + 1) places entries (omega (arith, room)) formed.1)

pub lows : (from places : ℕ) (acts : List Acted) → AllByRecursion (Lies from places) acts → AllByRecursion (λ act. act.place < places) acts
lows from places [] all = tt
lows from places (act ∷ acts) all = (all.0.1.0, lows from places acts all.1)

fits : (from places : ℕ) (acts : List Acted) → AllByRecursion (Lies from places) acts → AllByRecursion (λ act. act.index < 2 ^ 64) acts
fits from places [] all = tt
fits from places (act ∷ acts) all = (all.0.1.1, fits from places acts all.1)

no_places : (places : ℕ) → ArePlaced [] places
no_places places = record { rise = tt; low = tt; fit = tt }

-- the hops of entries are placed
pub acts_placed : (version : StoreVersion) (entries : History) (places : ℕ) → places ≡ length entries → AllByRecursion HasEncoding entries
    → ArePlaced (acts_in (acted_of version entries)) places
acts_placed One entries places counted formed = no_places places
acts_placed Two entries places counted formed =
    let lie = lie_from 0 places entries (omega (arith, counted)) formed in
    record { rise = lie.1; low = lows 0 places (acts_from 0 entries) lie.0; fit = fits 0 places (acts_from 0 entries) lie.0 }

-- the hop of an entry has the entry's place
of_place : (place : ℕ) (entry : Entry) → IfSome (act_at place entry) (λ act. act.place ≡ place)
of_place place (Begun begun) = refl
of_place place (Refused refused) = tt
of_place place (Hop ran) = refl

pub at_place : (place : ℕ) (entry : Entry) (act : Option Acted) → act ≡ act_at place entry → IfSome act (λ found. found.place ≡ place)
at_place place entry act is = subst (λ found. IfSome found (λ own. own.place ≡ place)) (sym is) (of_place place entry)

-- ---- loops

below_or : (k n : ℕ) → k < n + 1 → (k < n) ⊎ (k ≡ n)
below_or zero zero less = inr refl
below_or zero (suc n) less = inl (omega arith)
below_or (suc k) zero less = absurd (omega (arith, less))
below_or (suc k) (suc n) less = elim (below_or k n (omega (arith, less))) [ inl below ↦ inl (omega (arith, below)) | inr same ↦ inr (ap suc same) ]

pub shows_next : (acts : List Acted) (rows : List Row) (n k : ℕ) → ((j : ℕ) → j < n → ShowsAt acts rows j) → ShowsAt acts rows n → k < n + 1 → ShowsAt acts rows k
shows_next acts rows n k before here less = elim (below_or k n less) [
  | inl below ↦ before k below
  | inr same ↦ subst (ShowsAt acts rows) (sym same) here
]

-- rows that show the hops one by one are theirs
pub all_shown : (acts : List Acted) (rows : List Row) → length acts ≡ length rows → ((k : ℕ) → k < length acts → ShowsAt acts rows k) → rows ≡ map shown_act acts
all_shown [] [] same each = refl
all_shown [] (r ∷ rows) same each = absurd (omega (arith, same))
all_shown (a ∷ acts) [] same each = absurd (omega (arith, same))
all_shown (a ∷ acts) (r ∷ rows) same each =
    let first : Some r ≡ Some (shown_act a) = each 0 (omega arith) a refl in
    let here : r ≡ shown_act a = cc in
    let more : rows ≡ map shown_act acts = all_shown acts rows (omega (arith, same)) (λ k less act there. each (suc k) (omega (arith, less)) act there) in
    ap (λ x. x ∷ rows) here ∙ ap (λ xs. shown_act a ∷ xs) more

pub shows_at : (acts : List Acted) (rows : List Row) (place : ℕ) (act : Acted) (row : Row) → slice_get acts place ≡ Some act → slice_get rows place ≡ Some row
    → row ≡ shown_act act → ShowsAt acts rows place
shows_at acts rows place act row there shown is = λ other same.
    let one : Some act ≡ Some other = sym there ∙ same in
    let own : act ≡ other = cc in
    shown ∙ ap Some (is ∙ ap shown_act own)

-- and the other way round
pub shown_there : (acts : List Acted) (rows : List Row) (place : ℕ) (act : Acted) (row : Row) → slice_get acts place ≡ Some act → slice_get rows place ≡ Some row
    → ShowsAt acts rows place → row ≡ shown_act act
shown_there acts rows place act row there shown shows =
    let same : Some row ≡ Some (shown_act act) = sym shown ∙ shows act there in cc

-- the rows of hops show each
pub each_shown : (acts : List Acted) (rows : List Row) → rows ≡ map shown_act acts → (place : ℕ) → ShowsAt acts rows place
each_shown acts rows is place = subst (λ all. ShowsAt acts all place) (sym is) (go acts place)
  where
    go : (some : List Acted) (at : ℕ) → ShowsAt some (map shown_act some) at
    go [] at act there = absurd (let e = there in cc)
    go (a ∷ more) zero act there = let same : Some a ≡ Some act = there in let one : a ≡ act = cc in ap (λ x. Some (shown_act x)) one
    go (a ∷ more) (suc at) act there = go more at act there

-- a store of version 1 shows no hops
pub none_shown : (version : StoreVersion) (entries : History) → version ≡ One → ShowActed None (acted_of version entries)
none_shown One entries is = tt
none_shown Two entries is = absurd (let e = is in cc)

-- one of version 2 shows those of its entries
pub some_shown : (version : StoreVersion) (rows : Vec Row Global) (entries : History) (acts : List Acted) (shown : List Row) → version ≢ One → shown ≡ rows.items
    → acts ≡ acts_from 0 entries → shown ≡ map shown_act acts → ShowActed (Some rows) (acted_of version entries)
some_shown One rows entries acts shown apart are whole is = absurd (apart refl)
some_shown Two rows entries acts shown apart are whole is = sym are ∙ is ∙ ap (map shown_act) whole
