-- An entry with its cells, in one transaction.
use Rattle.std.proofs.Common.{◌≡◌, ◌⊎◌, inl, inr, ℕ, suc, ◌+◌, ◌<◌, ◌^◌, pos, true, false, List, [], ◌∷◌, ◌++◌, length, length-append, Option, Some, None, IsTrue, IfSome, OnOk, Ok, Err, Result, Less, refl, sym, ap, subst, ◌∙◌, arith}
use Rattle.sqlite.specs.declared.types.Value.TheVariants.{Int}
use Rattle.sqlite.specs.Order.{Row}
use Rattle.sqlite.specs.Tree.{put_row}
use Rattle.sqlite.specs.Store.{Ghosts}
use Rattle.sqlite.specs.Held.{Held, state}
use Rattle.sqlite.specs.State.{State, Shows}
use Rattle.sqlite.specs.Effect.{Database as Found}
use Rattle.lynx_cells.specs.Database.{ChangeSet, applied}
use Rattle.lynx_sql.specs.Contents.{Contents, with_body}
use Rattle.lynx_sql.proofs.RowLemmas.{lower_id}
use Rattle.sqlite_catalog.specs.Listing.{Lists}
use Rattle.std.specs.List.{AllByRecursion}
use Rattle.sqlite_trees.specs.Tree.{IsAscending}
use Rattle.sqlite_trees.specs.Objects.{catalog_tree}
use Rattle.lynx_sql.specs.declared.acts.Acted.{Acted}
use Rattle.lynx_sql.specs.declared.version.StoreVersion.{StoreVersion}
use Rattle.lynx_sql.specs.Acts.{HoldsActed, ArePlaced, acts_in, version_of, with_acted, noted}
use Rattle.lynx_sql.specs.Tables.{store_schema}
use Rattle.lynx_sql.proofs.ActLemmas.{all_last}
use Rattle.lynx_sql.proofs.Versions.{one_version}
use Rattle.lynx_sql.specs.Rows.{entry_row, entry_rows}
use Rattle.lynx_sql.specs.Cells.{HoldsCells}
use Rattle.lynx_sql.specs.Steps.{AddsEntry, WritesCells, NotesActed, Holds, Keeps}

pub on_ok : {A E : Type 0} {P Q : Type 0} (r : Result A E) → (P → Q) → OnOk r P → OnOk r Q
on_ok (Ok x) f p = f p
on_ok (Err e) f p = tt

-- the row at the next place comes last
pub place_end : (k n : ℕ) (body : List ℕ) (bodies : List (List ℕ)) → n ≡ k + length bodies → put_row (entry_row n body) (entry_rows k bodies) ≡ entry_rows k (bodies ++ body ∷ [])
place_end k n body [] at = ap (λ m. entry_row m body ∷ []) (omega arith)
place_end k n body (b ∷ bodies) at =
    let low : k < n = omega arith in rw (lower_id k n low) (ap (λ rows. entry_row k b ∷ rows) (place_end (k + 1) n body bodies (omega arith)))

-- another hop makes no other version
one_kind : (acts : Option (List Acted)) (act : Option Acted) → version_of (with_acted acts act) ≡ version_of acts
one_kind None act = refl
one_kind (Some acts) None = refl
one_kind (Some acts) (Some act) = refl

-- the hop of the next entry comes last
placed_last : (acts : List Acted) (act : Acted) (n m : ℕ) → act.place ≡ n → m ≡ n + 1 → act.index < 2 ^ 64 → ArePlaced acts n → ArePlaced (acts ++ act ∷ []) m
placed_last acts act n m at next fits placed = record {
  rise = up acts placed.rise placed.low;
  low = all_last (λ (a : Acted). a.place < m) acts act (lower acts placed.low) (omega (arith, at, next));
  fit = all_last (λ (a : Acted). a.index < 2 ^ 64) acts act placed.fit fits;
}
  where
    lower : (xs : List Acted) → AllByRecursion (λ (a : Acted). a.place < n) xs → AllByRecursion (λ (a : Acted). a.place < m) xs
    lower [] h = tt
    lower (x ∷ xs) h = (let here = h.0 in omega (arith, next), lower xs h.1)

    up : (xs : List Acted) → IsAscending (λ (a later : Acted). a.place < later.place) xs → AllByRecursion (λ (a : Acted). a.place < n) xs
        → IsAscending (λ (a later : Acted). a.place < later.place) (xs ++ act ∷ [])
    up [] rise low = (tt, tt)
    up (x ∷ xs) rise low = (all_last (λ (later : Acted). x.place < later.place) xs act rise.0 (let here = low.0 in omega (arith, at)), up xs rise.1 low.1)

placed_still : (acts : List Acted) (n m : ℕ) → m ≡ n + 1 → ArePlaced acts n → ArePlaced acts m
placed_still acts n m next placed = record { rise = placed.rise; low = lower acts placed.low; fit = placed.fit }
  where
    lower : (xs : List Acted) → AllByRecursion (λ (a : Acted). a.place < n) xs → AllByRecursion (λ (a : Acted). a.place < m) xs
    lower [] h = tt
    lower (x ∷ xs) h = (let here = h.0 in omega (arith, next), lower xs h.1)

placed_with : (acts : Option (List Acted)) (act : Option Acted) (version : StoreVersion) (n m : ℕ) → version_of acts ≡ version → IfSome act (λ (a : Acted). a.place ≡ n)
    → AllByRecursion (λ (a : Acted). a.index < 2 ^ 64) (noted version act) → m ≡ n + 1 → ArePlaced (acts_in acts) n → ArePlaced (acts_in (with_acted acts act)) m
placed_with None act version n m is at fits next placed = placed_still [] n m next placed
placed_with (Some acts) None version n m is at fits next placed = placed_still acts n m next placed
placed_with (Some acts) (Some act) version n m is at fits next placed =
    placed_last acts act n m at next (subst (λ v. AllByRecursion (λ (a : Acted). a.index < 2 ^ 64) (noted v (Some act))) (sym is) fits).0 placed

holds_with : (a b c d : State) (version : StoreVersion) (place : ℕ) (body : List ℕ) (changes : ChangeSet) (acted : Option Acted) (before : Contents)
    → AddsEntry a b place body → WritesCells b c (applied changes) → NotesActed c d version acted → version_of before.acted ≡ version
    → IfSome acted (λ (act : Acted). act.place ≡ place) → Holds a.now.trees before → place ≡ length before.bodies
    → Holds d.now.trees (with_body before body changes acted)
holds_with a b c d version place body changes acted before p q r is own h at = record {
  catalog = subst (λ v. Lists (d.now.trees catalog_tree) (store_schema v)) (sym (one_kind before.acted acted))
      (subst (λ rows. Lists rows (store_schema (version_of before.acted))) (sym (r.on.catalog ∙ q.on.catalog ∙ p.on.catalog)) h.catalog);
  meta = r.meta ∙ q.meta ∙ p.meta ∙ h.meta;
  entries = r.entries ∙ q.entries ∙ p.entries ∙ ap (put_row (entry_row place body)) h.entries ∙ place_end 0 place body before.bodies (omega arith);
  cells = subst (λ rows. HoldsCells rows (applied changes before.cells)) (sym r.cells)
      (q.cells before.cells (subst (λ rows. HoldsCells rows before.cells) (sym p.cells) h.cells));
  acted = r.acted before.acted is (subst (λ rows. HoldsActed rows before.acted) (sym (q.acted ∙ p.acted)) h.acted);
  placed = placed_with before.acted acted version (length before.bodies) (length (before.bodies ++ body ∷ [])) is
      (subst (λ n. IfSome acted (λ (act : Acted). act.place ≡ n)) at own) r.fit (length-append before.bodies (body ∷ [])) h.placed;
}

-- what a transaction has seen: an entry, then the changes of its cells, and then its hop
module _ {S : Type 0} (g : Ghosts S) (old tx mid late last : Held S) (begun : tx ≡ record old { in_transaction = true })
    (version : StoreVersion) (known : old.schema ≡ store_schema version) (place : ℕ) (body : List ℕ) (changes : ChangeSet) (acted : Option Acted)
    (own : IfSome acted (λ (act : Acted). act.place ≡ place))
    (one : IsTrue tx.in_transaction → tx.schema ≡ store_schema version → AddsEntry (state g tx) (state g mid) place body)
    (two : IsTrue (state g mid).is_open → IsTrue mid.in_transaction → mid.schema ≡ store_schema version
    → WritesCells (state g mid) (state g late) (applied changes))
    (three : IsTrue (state g late).is_open → IsTrue late.in_transaction → late.schema ≡ store_schema version
    → NotesActed (state g late) (state g last) version acted) where
  pub made : (before : Contents) → Keeps (state g old) before → (state g old).now ≡ (state g old).committed → place ≡ length before.bodies
      → Holds (state g last).now.trees (with_body before body changes acted) × ((state g last).now.schema ≡ store_schema (version_of (with_acted before.acted acted)))
  made before keeps settled at =
      let has : tx.schema ≡ store_schema version = ap (λ h. h.schema) begun ∙ known in
      let is : version_of before.acted ≡ version = one_version (version_of before.acted) version (sym keeps.schema ∙ known) in
      let first = one (ap (λ h. h.in_transaction) begun) has in
      let second = two first.on.shown.is_open first.on.shown.mode (first.on.schema ∙ has) in
      let third = three second.on.shown.is_open second.on.shown.mode (second.on.schema ∙ first.on.schema ∙ has) in
      let now : (state g tx).now.trees ≡ (state g old).committed.trees =
      ap (λ h. (state g h).now.trees) begun ∙ ap (λ d. d.trees) settled in
      let held = subst (λ trees. Holds trees before) (sym now) keeps.tables in (
        holds_with (state g tx) (state g mid) (state g late) (state g last) version place body changes acted before first second third is own held at,
        third.on.schema ∙ second.on.schema ∙ first.on.schema ∙ has ∙ ap store_schema (sym (one_kind before.acted acted ∙ is)),
      )

-- what the commit leaves, from what the transaction saw last
pub kept_after : (last end : State) (contents : Contents) → Shows last end last.now last.now false
    → Holds last.now.trees contents × (last.now.schema ≡ store_schema (version_of contents.acted)) → Keeps end contents
kept_after last end contents shown there = record {
  is_open = shown.is_open;
  schema = ap (λ d. d.schema) shown.now_is ∙ there.1;
  tables = subst (λ (d : Found). Holds d.trees contents) (sym shown.committed_is) there.0;
}
