-- Many entries with their cells, in one transaction.
use Rattle.std.proofs.Common.{◌≡◌, ℕ, ◌+◌, ◌<◌, ◌≤◌, ◌^◌, true, List, [], ◌∷◌, ◌++◌, length, take, get_or, Option, Some, None, IsTrue, append-nil, append_assoc, length-append, refl, sym, ap, subst, ◌∙◌, arith}
use Rattle.std.specs.Global.{Vec}
use Rattle.std.specs.List.{AllByRecursion}
use Rattle.std.proofs.lemmas.List.{length-map, length-take-le, map-append, take_more}
use Rattle.sqlite.specs.Tree.{put_row}
use Rattle.sqlite.specs.Store.{Ghosts}
use Rattle.sqlite.specs.Held.{Held, state}
use Rattle.sqlite.specs.State.{State}
use Rattle.sqlite_catalog.specs.Listing.{Lists}
use Rattle.sqlite_trees.specs.Objects.{catalog_tree}
use Rattle.sqlite_trees.proofs.ListLemmas.{all_weaker, all-append, ascending-append}
use Rattle.lynx_cells.specs.Database.{ChangeSet, applied}
use Rattle.lynx_sql.specs.declared.acts.Acted.{Acted}
use Rattle.lynx_sql.specs.declared.version.StoreVersion.{StoreVersion}
use Rattle.lynx_sql.specs.declared.version.StoreVersion.TheVariants.{One, Two}
use Rattle.lynx_sql.specs.Acts.{HoldsActed, ArePlaced, AreNext, acts_in, version_of, with_acts}
use Rattle.lynx_sql.specs.Cells.{HoldsCells}
use Rattle.lynx_sql.specs.Contents.{Contents, bodies_in, with_bodies}
use Rattle.lynx_sql.specs.Rows.{entry_row, entry_rows}
use Rattle.lynx_sql.specs.Tables.{store_schema, acted_tree}
use Rattle.lynx_sql.specs.Steps.{AddsEntry, AddsEntries, AddsActs, NotesActs, WritesCells, Holds, Keeps}
use Rattle.lynx_sql.proofs.ActLemmas.{goes_on_still}
use Rattle.lynx_sql.proofs.CommitLemmas.{place_end}
use Rattle.lynx_sql.proofs.MetaLemmas.{goes_on_then}
use Rattle.lynx_sql.proofs.Versions.{one_version}

-- ---- entries, one after another

pub entries_none : (s : State) (place : ℕ) → IsTrue s.is_open → IsTrue s.in_transaction → AddsEntries s s place []
entries_none s place up inside = record {
  on = goes_on_still s up inside;
  meta = refl;
  entries = λ before from has. has ∙ ap (entry_rows 0) (sym (append-nil before));
  cells = refl;
  acted = refl;
}

entries_then : (a b c : State) (place at : ℕ) (bodies : List (List ℕ)) (body : List ℕ) → at ≡ place + length bodies
    → AddsEntries a b place bodies → AddsEntry b c at body → AddsEntries a c place (bodies ++ body ∷ [])
entries_then a b c place at bodies body is p q = record {
  on = goes_on_then a b c p.on q.on;
  meta = q.meta ∙ p.meta;
  entries = λ before from has.
      q.entries ∙ ap (put_row (entry_row at body)) (p.entries before from has)
      ∙ place_end 0 at body (before ++ bodies) (omega (arith, is, from, length-append before bodies))
      ∙ ap (entry_rows 0) (append_assoc before bodies (body ∷ []));
  cells = q.cells ∙ p.cells;
  acted = q.acted ∙ p.acted;
}

bodies_more : (xs : List (Vec ℕ)) (i : ℕ) (item : Vec ℕ) → i < length xs → item ≡ get_or xs i item
    → bodies_in (take i xs) ++ item.items ∷ [] ≡ bodies_in (take (i + 1) xs)
bodies_more xs i item low is =
    sym (ap bodies_in (take_more xs i item low) ∙ map-append (λ (body : Vec ℕ). body.items) (take i xs) _
    ∙ ap (λ (x : Vec ℕ). bodies_in (take i xs) ++ x.items ∷ []) (sym is))

-- the next of the bodies
pub entries_next : (a b c : State) (place at : ℕ) (xs : List (Vec ℕ)) (i : ℕ) (item : Vec ℕ) (body : List ℕ) → i < length xs → item ≡ get_or xs i item
    → body ≡ item.items → at ≡ place + i → AddsEntries a b place (bodies_in (take i xs)) → AddsEntry b c at body
    → AddsEntries a c place (bodies_in (take (i + 1) xs))
entries_next a b c place at xs i item body low is same from p q =
    let counted : length (bodies_in (take i xs)) ≡ i =
    length-map (take i xs) (λ (body : Vec ℕ). body.items) ∙ length-take-le i xs (omega (arith, low)) in
    subst (AddsEntries a c place) (ap (λ b. bodies_in (take i xs) ++ b ∷ []) same ∙ bodies_more xs i item low is)
    (entries_then a b c place at (bodies_in (take i xs)) body (omega (arith, from, counted)) p q)

-- ---- the hops of entries

pub acts_first : (s : State) (acts : List Acted) → IsTrue s.is_open → IsTrue s.in_transaction → NotesActs s s One acts
acts_first s acts up inside = record {
  on = goes_on_still s up inside;
  meta = refl;
  entries = refl;
  cells = refl;
  acted = kept;
  fit = λ is. absurd (let e = is in cc);
}
  where
    kept : (before : Option (List Acted)) → version_of before ≡ One → HoldsActed (s.now.trees acted_tree) before → HoldsActed (s.now.trees acted_tree) (with_acts before acts)
    kept None is h = tt
    kept (Some others) is h = absurd (let e = is in cc)

pub acts_second : (old new : State) (acts : List Acted) → AddsActs old new acts → NotesActs old new Two acts
acts_second old new acts did = record {
  on = did.on;
  meta = did.meta;
  entries = did.entries;
  cells = did.cells;
  acted = more;
  fit = λ is. did.fit;
}
  where
    more : (before : Option (List Acted)) → version_of before ≡ Two → HoldsActed (old.now.trees acted_tree) before → HoldsActed (new.now.trees acted_tree) (with_acts before acts)
    more None is h = tt
    more (Some others) is h = did.acted others h

-- ---- all of them

-- more hops make no other version
one_kind : (acts : Option (List Acted)) (more : List Acted) → version_of (with_acts acts more) ≡ version_of acts
one_kind None more = refl
one_kind (Some acts) more = refl

-- the hops of the next entries come last
placed_after : (acts more : List Acted) (n count m : ℕ) → m ≡ n + count → AreNext more n count → AllByRecursion (λ (a : Acted). a.index < 2 ^ 64) more
    → ArePlaced acts n → ArePlaced (acts ++ more) m
placed_after acts more n count m total next fits placed = record {
  rise = ascending-append (λ (a later : Acted). a.place < later.place) acts more placed.rise next.rise
      (all_weaker (λ (a : Acted). a.place < n) (λ (a : Acted). AllByRecursion (λ (later : Acted). a.place < later.place) more) across acts placed.low);
  low = all-append (λ (a : Acted). a.place < m) acts more
      (all_weaker (λ (a : Acted). a.place < n) (λ (a : Acted). a.place < m) (λ a low. omega (arith, low, total)) acts placed.low)
      (all_weaker (λ (a : Acted). a.place < n + count) (λ (a : Acted). a.place < m) (λ a low. omega (arith, low, total)) more next.low);
  fit = all-append (λ (a : Acted). a.index < 2 ^ 64) acts more placed.fit fits;
}
  where
    across : (a : Acted) → a.place < n → AllByRecursion (λ (later : Acted). a.place < later.place) more
    across a low = all_weaker (λ (later : Acted). n ≤ later.place) (λ (later : Acted). a.place < later.place) (λ later high. omega (arith, low, high)) more next.high

placed_with : (acts : Option (List Acted)) (more : List Acted) (version : StoreVersion) (n count m : ℕ) → version_of acts ≡ version → AreNext more n count
    → (version ≡ Two → AllByRecursion (λ (a : Acted). a.index < 2 ^ 64) more) → m ≡ n + count → ArePlaced (acts_in acts) n → ArePlaced (acts_in (with_acts acts more)) m
placed_with None more version n count m is next fits total placed = record { rise = tt; low = tt; fit = tt }
placed_with (Some acts) more version n count m is next fits total placed = placed_after acts more n count m total next (fits (sym is)) placed

holds_with : (a b c d : State) (version : StoreVersion) (place : ℕ) (bodies : List (List ℕ)) (changes : ChangeSet) (acts : List Acted) (before : Contents)
    → AddsEntries a b place bodies → WritesCells b c (applied changes) → NotesActs c d version acts → version_of before.acted ≡ version
    → AreNext acts place (length bodies) → Holds a.now.trees before → place ≡ length before.bodies
    → Holds d.now.trees (with_bodies before bodies changes acts)
holds_with a b c d version place bodies changes acts before p q r is next h at = record {
  catalog = subst (λ v. Lists (d.now.trees catalog_tree) (store_schema v)) (sym (one_kind before.acted acts))
      (subst (λ rows. Lists rows (store_schema (version_of before.acted))) (sym (r.on.catalog ∙ q.on.catalog ∙ p.on.catalog)) h.catalog);
  meta = r.meta ∙ q.meta ∙ p.meta ∙ h.meta;
  entries = r.entries ∙ q.entries ∙ p.entries before.bodies at h.entries;
  cells = subst (λ rows. HoldsCells rows (applied changes before.cells)) (sym r.cells)
      (q.cells before.cells (subst (λ rows. HoldsCells rows before.cells) (sym p.cells) h.cells));
  acted = r.acted before.acted is (subst (λ rows. HoldsActed rows before.acted) (sym (q.acted ∙ p.acted)) h.acted);
  placed = placed_with before.acted acts version (length before.bodies) (length bodies) (length (before.bodies ++ bodies)) is
      (subst (λ n. AreNext acts n (length bodies)) at next) r.fit (length-append before.bodies bodies) h.placed;
}

-- what a transaction has seen: entries, then the changes of their cells, and then their hops
module _ {S : Type 0} (g : Ghosts S) (old tx mid late last : Held S) (begun : tx ≡ record old { in_transaction = true })
    (version : StoreVersion) (known : old.schema ≡ store_schema version) (place : ℕ) (vectors : List (Vec ℕ)) (changes : ChangeSet) (acts : List Acted)
    (next : AreNext acts place (length vectors))
    (one : IsTrue (state g tx).is_open → IsTrue tx.in_transaction → tx.schema ≡ store_schema version
    → AddsEntries (state g tx) (state g mid) place (bodies_in vectors))
    (two : IsTrue (state g mid).is_open → IsTrue mid.in_transaction → mid.schema ≡ store_schema version
    → WritesCells (state g mid) (state g late) (applied changes))
    (three : IsTrue (state g late).is_open → IsTrue late.in_transaction → late.schema ≡ store_schema version
    → NotesActs (state g late) (state g last) version acts) where
  pub all_made : (before : Contents) → Keeps (state g old) before → (state g old).now ≡ (state g old).committed → place ≡ length before.bodies
      → Holds (state g last).now.trees (with_bodies before (bodies_in vectors) changes acts)
      × ((state g last).now.schema ≡ store_schema (version_of (with_acts before.acted acts)))
  all_made before keeps settled at =
      let has : tx.schema ≡ store_schema version = ap (λ h. h.schema) begun ∙ known in
      let up : IsTrue (state g tx).is_open = ap (λ h. (state g h).is_open) begun ∙ keeps.is_open in
      let is : version_of before.acted ≡ version = one_version (version_of before.acted) version (sym keeps.schema ∙ known) in
      let first = one up (ap (λ h. h.in_transaction) begun) has in
      let second = two first.on.shown.is_open first.on.shown.mode (first.on.schema ∙ has) in
      let third = three second.on.shown.is_open second.on.shown.mode (second.on.schema ∙ first.on.schema ∙ has) in
      let now : (state g tx).now.trees ≡ (state g old).committed.trees =
      ap (λ h. (state g h).now.trees) begun ∙ ap (λ d. d.trees) settled in
      let held = subst (λ trees. Holds trees before) (sym now) keeps.tables in
      let counted : AreNext acts place (length (bodies_in vectors)) =
      subst (AreNext acts place) (sym (length-map vectors (λ (body : Vec ℕ). body.items))) next in (
        holds_with (state g tx) (state g mid) (state g late) (state g last) version place (bodies_in vectors) changes acts before first second third is counted held at,
        third.on.schema ∙ second.on.schema ∙ first.on.schema ∙ has ∙ ap store_schema (sym (one_kind before.acted acts ∙ is)),
      )
