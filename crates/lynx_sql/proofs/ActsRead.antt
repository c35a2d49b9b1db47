-- What the query of the hops shows, and what it tells.
use Rattle.std.proofs.Common.{◌≡◌, ℕ, ℤ, ◌<◌, ◌^◌, ◌<ℤ◌, pos, List, [], ◌∷◌, map, drop, codes, true, false, ◌&&◌, Option, Some, None, IsTrue, refl, sym, ap, subst, ◌∙◌, Less}
use Rattle.std.specs.Int.{w64, to_be_bytes, from_be_bytes}
use Rattle.std.proofs.lemmas.Nat.{from_be_bytes-to_be_bytes_8}
use Rattle.std.specs.List.{AllByRecursion, flat_map}
use Rattle.std.specs.Cmp.{IsTotalOrder}
use Rattle.std.proofs.lemmas.Cmp.{on_total}
use Rattle.std.specs.List.Sorted.{IsPermutation}
use Rattle.std.proofs.lemmas.List.Sorted.{IsPermutation-map, IsPermutation-sym, IsPermutation-trans}
use Rattle.sqlite_trees.proofs.ListLemmas.{all-permutation}
use Rattle.sqlite_trees.specs.Tree.{Trees, rowid, IsAscending, IsTable}
use Rattle.sqlite_trees.specs.View.{is_int}
use Rattle.sqlite_sql.proofs.QueryLemmas.{key_cmp_total}
use Rattle.sqlite_keyed.proofs.SortLemmas.{sorted_unique}
use Rattle.sqlite_keyed.proofs.KeyedLemmas.{lt_from_Less}
use Rattle.sqlite_value.specs.declared.value.Value.TheVariants.{Null, Int, Blob}
use Rattle.sqlite_value.specs.Order.{Row, column, bytes, value_cmp}
use Rattle.sqlite_value.proofs.OrderLemmas.{value_cmp-Int}
use Rattle.sqlite_schema.specs.declared.schema.Constraint.TheVariants.{Datatype}
use Rattle.sqlite_schema.specs.Rules.{are_typed, suits}
use Rattle.sqlite_catalog.specs.Listing.{IsSound}
use Rattle.sqlite.specs.Kind.TheVariants.{Integer, Blob as BlobKind}
use Rattle.sqlite.specs.Program.{overlay}
use Rattle.sqlite.specs.Query.{IsAnswer, output, output_cmp, page, Output}
use Rattle.sqlite.specs.State.{State}
use Rattle.sqlite.specs.Listing.{understood}
use Rattle.sqlite.proofs.Callers.{IsPlain, reads_as}
use Rattle.lynx_sql.specs.declared.acts.Acted.{Acted}
use Rattle.lynx_sql.specs.declared.version.StoreVersion.TheVariants.{Two}
use Rattle.lynx_sql.specs.Contents.{Contents}
use Rattle.lynx_sql.specs.Tables.{acted, column_of, store_schema, acted_tree}
use Rattle.lynx_sql.specs.Texts.{places_text}
use Rattle.lynx_sql.specs.Acts.{StoredAct, act_row, shown_act, HoldsActs, HoldsActed, ArePlaced, acts_in, version_of}
use Rattle.lynx_sql.specs.Shown.{natural}
use Rattle.lynx_sql.specs.Steps.{Keeps}
use Rattle.lynx_sql.proofs.Understood.{places_query, places_is, places_plain, rising}
use Rattle.lynx_sql.proofs.RowLemmas.{lower_id}
use Rattle.lynx_sql.proofs.ReadLemmas.{picks, HasShown, OnlyReads}
use Rattle.lynx_sql.proofs.StoredBack.{left_true, right_true}
use Rattle.lynx_sql.proofs.CellsBack.{int_of, no_null}
use Rattle.lynx_sql.proofs.Versions.{one_version}

abbrev act_of : StoredAct → Acted
act_of s = s.act

-- ---- what is kept is shown, by place

abbrev out_of : Acted → Output
out_of act = (Int (pos act.place) ∷ [], shown_act act)

places_total : IsTotalOrder (output_cmp places_query)
places_total = on_total (λ (o : Output). o.0) (key_cmp_total (rising ∷ []) 0)

above : (act : Acted) (acts : List Acted) → AllByRecursion (λ (later : Acted). act.place < later.place) acts
    → AllByRecursion (λ o. output_cmp places_query (out_of act) o ≡ Less) (map out_of acts)
above act [] low = tt
above act (x ∷ xs) low = (rw (lower_id act.place x.place low.0) refl, above act xs low.1)

strict : (acts : List Acted) → IsAscending (λ (act later : Acted). act.place < later.place) acts
    → IsAscending (λ a b. output_cmp places_query a b ≡ Less) (map out_of acts)
strict [] up = tt
strict (x ∷ xs) up = (above x xs up.0, strict xs up.1)

staged_acts : (stored : List StoredAct) → map (output places_query) (flat_map picks (map act_row stored)) ≡ map out_of (map act_of stored)
staged_acts [] = refl
staged_acts (s ∷ more) = ap (λ os. out_of s.act ∷ os) (staged_acts more)

shown_outs : (acts : List Acted) → map (λ (o : Output). o.1) (map out_of acts) ≡ map shown_act acts
shown_outs [] = refl
shown_outs (x ∷ xs) = ap (λ rows. shown_act x ∷ rows) (shown_outs xs)

answers : (db : Trees) (rows : List Row) (acts : List Acted) (places : ℕ) → IsAnswer places_query (overlay db []) [] rows → HoldsActs (db 4) acts → ArePlaced acts places
    → rows ≡ map shown_act acts
answers db rows acts places a h placed =
    let staged : a.staged ≡ flat_map picks (map act_row h.stored) = a.grouped ∙ ap (flat_map picks) h.rows_are in
    let kept : a.kept ≡ map out_of (map act_of h.stored) = a.distinct ∙ ap (map (output places_query)) staged ∙ staged_acts h.stored in
    let all : IsPermutation (map out_of (map act_of h.stored)) (map out_of acts) = IsPermutation-map out_of (map act_of h.stored) acts h.same in
    let same : IsPermutation (map out_of acts) a.ordered =
    IsPermutation-trans _ _ _ (IsPermutation-sym _ _ all) (subst (λ k. IsPermutation k a.ordered) kept a.same) in
    let ordered : a.ordered ≡ map out_of acts =
    sorted_unique (output_cmp places_query) places_total (map out_of acts) a.ordered (strict acts placed.rise) same a.sorted in
    a.shown ∙ ap (λ os. page places_query [] (map (λ (o : Output). o.1) os)) ordered ∙ shown_outs acts

-- in a store of version 2 the query only reads
pub places_only_read : (s : State) → s.now.schema ≡ store_schema Two → OnlyReads s places_text
places_only_read s second version is = subst (λ v. IsPlain (understood (store_schema v) places_text)) (one_version Two version (sym second ∙ is)) places_plain

pub places_answer : (old new : State) (rows : List Row) → old.now.schema ≡ store_schema Two → HasShown places_text old new rows → IsAnswer places_query (overlay old.now.trees []) [] rows
places_answer old new rows second it = (reads_as places_text [] old new (store_schema Two) second _ places_is.0 places_plain places_is.1 rows it.3).answer Null

pub places_shown : (old new : State) (rows : List Row) → old.now.schema ≡ store_schema Two → HasShown places_text old new rows → (contents : Contents) → Keeps old contents
    → rows ≡ map shown_act (acts_in contents.acted)
places_shown old new rows second it contents keeps =
    go contents.acted (one_version (version_of contents.acted) Two (sym keeps.schema ∙ second))
    (subst (λ d. HoldsActed (d.trees acted_tree) contents.acted) (sym (it.1 keeps.is_open)) keeps.tables.acted) keeps.tables.placed
  where
    go : {n : ℕ} (kept : Option (List Acted)) → version_of kept ≡ Two → HoldsActed (old.now.trees acted_tree) kept → ArePlaced (acts_in kept) n → rows ≡ map shown_act (acts_in kept)
    go None two held placed = absurd (let e = two in cc)
    go {n} (Some acts) two held placed = answers old.now.trees rows acts n (places_answer old new rows second it) held placed

-- ---- what is shown is kept

-- what the query shows of a row of `acted`
abbrev quad_shown : Row → Row
quad_shown row = column row 1 ∷ column row 2 ∷ column row 3 ∷ column row 4 ∷ []

abbrev act_in : Row → Acted
act_in row = record {
  origin = natural (column row 0);
  index = from_be_bytes w64 (bytes (column row 1));
  hop = natural (column row 2);
  place = natural (column row 3);
}

-- a row that shows a hop
record ShowsAct (row : Row) : Type 0 where
  pub act : Acted
  pub is : row ≡ shown_act act
  pub fits : act.index < 2 ^ 64

abbrev HasIndex : Acted → Type 0
HasIndex act = act.index < 2 ^ 64

shows_each : (acts : List Acted) → AllByRecursion HasIndex acts → AllByRecursion ShowsAct (map shown_act acts)
shows_each [] fit = tt
shows_each (x ∷ xs) fit = (record { act = x; is = refl; fits = fit.0 }, shows_each xs fit.1)

shows_all : (rows : List Row) → AllByRecursion ShowsAct (map quad_shown rows) → AllByRecursion (λ row. ShowsAct (quad_shown row)) rows
shows_all [] h = tt
shows_all (r ∷ rows) h = (h.0, shows_all rows h.1)

-- a hop that was shown is read back
back_again : (act : Acted) → HasIndex act → act_in (shown_act act) ≡ act
back_again act fits = ap (λ n. record act { index = n }) (from_be_bytes-to_be_bytes_8 act.index fits)

all_again : (acts : List Acted) → AllByRecursion HasIndex acts → map act_in (map shown_act acts) ≡ acts
all_again [] fit = refl
all_again (x ∷ xs) fit = ap (λ a. a ∷ map act_in (map shown_act xs)) (back_again x fit.0) ∙ ap (λ all. x ∷ all) (all_again xs fit.1)

-- a row that shows a hop is that of the hop
one_row : (row : Row) (act : Acted) (id : ℤ) → are_typed None 0 acted.columns (drop 1 row) ≡ true → rowid row ≡ Int id
    → column row 1 ≡ Int (pos act.origin) → column row 2 ≡ Blob (to_be_bytes w64 act.index) → column row 3 ≡ Int (pos act.hop) → column row 4 ≡ Int (pos act.place)
    → row ≡ Int id ∷ shown_act act
one_row [] act id typed number origin index hop place = no_null act.place place
one_row (a ∷ []) act id typed number origin index hop place = no_null act.place place
one_row (a ∷ b ∷ []) act id typed number origin index hop place = no_null act.place place
one_row (a ∷ b ∷ c ∷ []) act id typed number origin index hop place = no_null act.place place
one_row (a ∷ b ∷ c ∷ d ∷ []) act id typed number origin index hop place = no_null act.place place
one_row (a ∷ b ∷ c ∷ d ∷ e ∷ []) act id typed number origin index hop place =
    ap (λ x. x ∷ b ∷ c ∷ d ∷ e ∷ []) number ∙ ap (λ x. Int id ∷ x ∷ c ∷ d ∷ e ∷ []) origin
    ∙ ap (λ x. Int id ∷ Int (pos act.origin) ∷ x ∷ d ∷ e ∷ []) index
    ∙ ap (λ x. Int id ∷ Int (pos act.origin) ∷ Blob (to_be_bytes w64 act.index) ∷ x ∷ e ∷ []) hop
    ∙ ap (λ x. Int id ∷ Int (pos act.origin) ∷ Blob (to_be_bytes w64 act.index) ∷ Int (pos act.hop) ∷ x ∷ []) place
one_row (a ∷ b ∷ c ∷ d ∷ e ∷ f ∷ more) act id typed number origin index hop place =
    absurd (let end : false ≡ true =
    right_true (suits (column_of (codes "place") Integer) e) false (right_true (suits (column_of (codes "hop") Integer) d) _
    (right_true (suits (column_of (codes "idx") BlobKind) c) _ (right_true (suits (column_of (codes "origin") Integer) b) _ typed))) in cc)

-- the hops of the rows, under the numbers of the rows
record AreStoredActs (rows : List Row) : Type 0 where
  pub stored : List StoredAct
  pub rows_are : rows ≡ map act_row stored
  pub acts_are : map act_of stored ≡ map act_in (map quad_shown rows)

stored_for : (rows : List Row) → AllByRecursion (λ row. are_typed None 0 acted.columns (drop 1 row) ≡ true) rows
    → AllByRecursion (λ r. IsTrue (is_int (rowid r))) rows → AllByRecursion (λ row. ShowsAct (quad_shown row)) rows → AreStoredActs rows
stored_for [] typed ints shows = record { stored = []; rows_are = refl; acts_are = refl }
stored_for (r ∷ rows) typed ints shows =
    let more = stored_for rows typed.1 ints.1 shows.1 in
    let id = int_of (rowid r) ints.0 in
    let one = shows.0 in
    let same : quad_shown r ≡ shown_act one.act = one.is in
    let origin : column r 1 ≡ Int (pos one.act.origin) = cc in
    let index : column r 2 ≡ Blob (to_be_bytes w64 one.act.index) = cc in
    let hop : column r 3 ≡ Int (pos one.act.hop) = cc in
    let place : column r 4 ≡ Int (pos one.act.place) = cc in
    let s : StoredAct = record { id = id.0; act = one.act } in
    record {
      stored = s ∷ more.stored;
      rows_are = ap (λ x. x ∷ rows) (one_row r one.act id.0 typed.0 id.1 origin index hop place) ∙ ap (λ xs. act_row s ∷ xs) more.rows_are;
      acts_are = ap (λ a. a ∷ map act_of more.stored) (sym (ap act_in same ∙ back_again one.act one.fits))
          ∙ ap (λ all. act_in (quad_shown r) ∷ all) more.acts_are;
    }

later_ids : (s : StoredAct) (xs : List StoredAct) → AllByRecursion (λ r. value_cmp (rowid (act_row s)) (rowid r) ≡ Less) (map act_row xs)
    → AllByRecursion (λ (x : StoredAct). s.id <ℤ x.id) xs
later_ids s [] below = tt
later_ids s (x ∷ xs) below = (lt_from_Less s.id x.id (sym (value_cmp-Int s.id x.id) ∙ below.0), later_ids s xs below.1)

ids_rise : (stored : List StoredAct) → IsTable (map act_row stored) → IsAscending (λ (s later : StoredAct). s.id <ℤ later.id) stored
ids_rise [] up = tt
ids_rise (s ∷ more) up = (later_ids s more up.0, ids_rise more up.1)

staged_quads : (rows : List Row) → map (λ (o : Output). o.1) (map (output places_query) (flat_map picks rows)) ≡ map quad_shown rows
staged_quads [] = refl
staged_quads (r ∷ rows) = ap (λ rs. quad_shown r ∷ rs) (staged_quads rows)

quads_answered : (db : Trees) (rows : List Row) → IsAnswer places_query (overlay db []) [] rows → IsPermutation (map quad_shown (db 4)) rows
quads_answered db rows a =
    let kept : a.kept ≡ map (output places_query) (flat_map picks (db 4)) = a.distinct ∙ ap (map (output places_query)) a.grouped in
    let front : map (λ (o : Output). o.1) a.kept ≡ map quad_shown (db 4) = ap (map (λ (o : Output). o.1)) kept ∙ staged_quads (db 4) in
    let all = IsPermutation-map (λ (o : Output). o.1) a.kept a.ordered a.same in
    subst (IsPermutation (map quad_shown (db 4))) (sym a.shown) (subst (λ xs. IsPermutation xs (map (λ (o : Output). o.1) a.ordered)) front all)

acts_typed : (rows : List Row) → AllByRecursion (λ row. (are_typed None 0 acted.columns (drop 1 row) && true) ≡ true) rows
    → AllByRecursion (λ row. are_typed None 0 acted.columns (drop 1 row) ≡ true) rows
acts_typed [] h = tt
acts_typed (r ∷ rows) h = (left_true _ _ h.0, acts_typed rows h.1)

pub acts_held : (db : Trees) → IsSound (store_schema Two) db → IsTable (db 4) × AllByRecursion (λ r. IsTrue (is_int (rowid r))) (db 4)
    → (rows : List Row) → IsAnswer places_query (overlay db []) [] rows → (acts : List Acted) (places : ℕ) → ArePlaced acts places → rows ≡ map shown_act acts
    → HoldsActs (db 4) acts
acts_held db sound rise rows a acts places placed shown =
    let same : IsPermutation (map quad_shown (db 4)) (map shown_act acts) = subst (IsPermutation (map quad_shown (db 4))) shown (quads_answered db rows a) in
    let shows = shows_all (db 4) (all-permutation ShowsAct (map shown_act acts) (map quad_shown (db 4)) (IsPermutation-sym _ _ same) (shows_each acts placed.fit)) in
    let it = stored_for (db 4) (acts_typed (db 4) (sound.obeys.rules Datatype).1.1.1.0) rise.1 shows in
    let read : IsPermutation (map act_in (map quad_shown (db 4))) (map act_in (map shown_act acts)) =
    IsPermutation-map act_in (map quad_shown (db 4)) (map shown_act acts) same in
    record {
      stored = it.stored;
      rows_are = it.rows_are;
      rise = ids_rise it.stored (subst IsTable it.rows_are rise.0);
      same = subst (λ xs. IsPermutation xs acts) (sym it.acts_are) (subst (IsPermutation (map act_in (map quad_shown (db 4)))) (all_again acts placed.fit) read);
    }
