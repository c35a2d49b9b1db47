-- What a commit of many entries keeps, and what a stop leaves of it.
use Rattle.std.proofs.Common.{◌≡◌, ◌⊎◌, inl, inr, ℕ, ◌+◌, ◌<◌, ◌≤◌, true, List, [], ◌∷◌, ◌++◌, length, take, get_or, Option, Some, None, refl, sym, ap, subst, ◌∙◌, arith, length-append}
use Rattle.std.specs.Global.{Vec}
use Rattle.std.specs.List.{AllByRecursion}
use Rattle.std.proofs.lemmas.List.{length-map, length-take-le, map-append}
use Rattle.sqlite.specs.Tree.{Trees}
use Rattle.sqlite.specs.State.{State}
use Rattle.sqlite_trees.proofs.ListLemmas.{all-append}
use Rattle.lynx_cells.specs.Database.{ChangeSet, applied}
use Rattle.lynx_entry.specs.declared.entry.Entry.{Entry}
use Rattle.lynx_entry.specs.Entry.{History}
use Rattle.lynx_keep.specs.Kept.{KeptState, with_entries}
use Rattle.lynx_keep.specs.Stored.{encoding_of, HasEncoding}
use Rattle.lynx_sql.specs.declared.acts.Acted.{Acted}
use Rattle.lynx_sql.specs.declared.version.StoreVersion.{StoreVersion}
use Rattle.lynx_sql.specs.declared.version.StoreVersion.TheVariants.{One, Two}
use Rattle.lynx_sql.specs.Acts.{AreNext, version_of, with_acts}
use Rattle.lynx_sql.specs.Contents.{Contents, bodies_in, with_bodies}
use Rattle.lynx_sql.specs.Steps.{Holds, Keeps}
use Rattle.lynx_store.specs.Acts.{act_at, acted_of, acts_from, added, with_act}
use Rattle.lynx_store.specs.Stored.{bodies_of, contents_of, title_for, Owner, IsKept}
use Rattle.lynx_store.proofs.ActLemmas.{Lies, acts-append, lie_from, lows}
use Rattle.lynx_store.proofs.Kept.{bodies-append, length-bodies, version_kept}
use Rattle.lynx_store.proofs.RowsRead.{take_next}

-- ---- loops

-- the hops of one more of the entries
pub acts_more : (place : ℕ) (entries : History) (i : ℕ) (entry : Entry) (at : ℕ) → at ≡ place + i → i < length entries → entry ≡ get_or entries i entry
    → added (acts_from place (take i entries)) (act_at at entry) ≡ acts_from place (take (i + 1) entries)
acts_more place entries i entry at from low is =
    let counted : length (take i entries) ≡ i = length-take-le i entries (omega (arith, low)) in
    sym (ap (acts_from place) (take_next entries i entry low is) ∙ acts-append place (take i entries) entry at (omega (arith, from, counted)))

-- the encodings of one more of them
pub encodings_more : (entries : History) (i : ℕ) (entry : Entry) (vectors more : List (Vec ℕ)) (body : Vec ℕ) → i < length entries → entry ≡ get_or entries i entry
    → more ≡ vectors ++ body ∷ [] → body.items ≡ encoding_of entry → bodies_in vectors ≡ bodies_of (take i entries) → bodies_in more ≡ bodies_of (take (i + 1) entries)
encodings_more entries i entry vectors more body low is pushed encoding so_far =
    ap bodies_in pushed ∙ map-append (λ (b : Vec ℕ). b.items) vectors (body ∷ [])
    ∙ ap (λ bodies. bodies ++ body.items ∷ []) so_far ∙ ap (λ b. bodies_of (take i entries) ++ b ∷ []) encoding
    ∙ bodies-append (take i entries) entry ∙ ap bodies_of (sym (take_next entries i entry low is))

-- ---- hops

before_all : (act : Option Acted) (acts more : List Acted) → with_act act (acts ++ more) ≡ with_act act acts ++ more
before_all None acts more = refl
before_all (Some act) acts more = refl

-- the hops of more entries
acts-append_all : (place : ℕ) (entries more : History) (at : ℕ) → at ≡ place + length entries
    → acts_from place (entries ++ more) ≡ acts_from place entries ++ acts_from at more
acts-append_all place [] more at is = ap (λ p. acts_from p more) (omega (arith, is))
acts-append_all place (e ∷ entries) more at is =
    ap (with_act (act_at place e)) (acts-append_all (place + 1) entries more at (omega (arith, is)))
    ∙ before_all (act_at place e) (acts_from (place + 1) entries) (acts_from at more)

-- what a store keeps of them
acted-append_all : (version : StoreVersion) (entries more : History) (at : ℕ) → at ≡ length entries
    → with_acts (acted_of version entries) (acts_from at more) ≡ acted_of version (entries ++ more)
acted-append_all One entries more at is = refl
acted-append_all Two entries more at is = ap Some (sym (acts-append_all 0 entries more at (omega (arith, is))))

highs : (from places : ℕ) (acts : List Acted) → AllByRecursion (Lies from places) acts → AllByRecursion (λ act. from ≤ act.place) acts
highs from places [] all = tt
highs from places (act ∷ acts) all = (all.0.0, highs from places acts all.1)

-- ---- a commit of entries, whose bodies are their encodings, and of their hops

all_counted : (entries : History) (vectors : List (Vec ℕ)) → bodies_in vectors ≡ bodies_of entries → length vectors ≡ length entries
all_counted entries vectors encodings = sym (length-map vectors (λ (body : Vec ℕ). body.items)) ∙ ap length encodings ∙ length-bodies entries

are_next : (count : ℕ) (entries : History) (vectors : List (Vec ℕ)) (acts : List Acted) → bodies_in vectors ≡ bodies_of entries
    → AllByRecursion HasEncoding entries → acts ≡ acts_from count entries → AreNext acts count (length vectors)
are_next count entries vectors acts encodings formed hops =
    let places : ℕ = count + length vectors in
    let lie = lie_from count places entries (omega (arith, all_counted entries vectors encodings)) formed in
    subst (λ some. AreNext some count (length vectors)) (sym hops)
    (record { rise = lie.1; high = highs count places (acts_from count entries) lie.0; low = lows count places (acts_from count entries) lie.0 })

module _ (old new : State) (owner : Owner) (count : ℕ) (entries : History) (vectors : List (Vec ℕ)) (changes : ChangeSet) (acts : List Acted)
    (encodings : bodies_in vectors ≡ bodies_of entries) (formed : AllByRecursion HasEncoding entries) (hops : acts ≡ acts_from count entries) where
  own_next : AreNext acts count (length vectors)
  own_next = are_next count entries vectors acts encodings formed hops

  same_contents : (before : KeptState) → count ≡ length before.entries
      → with_bodies (contents_of owner before) (bodies_in vectors) changes acts ≡ contents_of owner (with_entries before entries changes)
  same_contents before counted =
      let all : bodies_of before.entries ++ bodies_in vectors ≡ bodies_of (before.entries ++ entries) =
      ap (λ bodies. bodies_of before.entries ++ bodies) encodings ∙ sym (map-append encoding_of before.entries entries) in
      let own : with_acts (acted_of owner.version before.entries) acts ≡ acted_of owner.version (before.entries ++ entries) =
      ap (with_acts (acted_of owner.version before.entries)) hops ∙ acted-append_all owner.version before.entries entries count counted in
      λ i. record { title = title_for owner; bodies = all i; cells = applied changes before.cells; acted = own i }

  pub kept_with_all : (all : ℕ) → all ≡ count + length entries
      → (AreNext acts count (length vectors) → (contents : Contents) → Keeps old contents → version_of contents.acted ≡ owner.version → count ≡ length contents.bodies
      → Keeps new (with_bodies contents (bodies_in vectors) changes acts))
      → (before : KeptState) → IsKept old owner count before → IsKept new owner all (with_entries before entries changes)
  kept_with_all all total wrote before kept = record {
    tables = subst (Keeps new) (same_contents before kept.counted)
        (wrote own_next (contents_of owner before) kept.tables (version_kept owner.version before.entries) (kept.counted ∙ sym (length-bodies before.entries)));
    counted = omega (arith, total, kept.counted, length-append before.entries entries);
    formed = all-append HasEncoding before.entries entries kept.formed formed;
  }

  pub left_with_all : (AreNext acts count (length vectors) → (contents : Contents) → Keeps old contents → version_of contents.acted ≡ owner.version → count ≡ length contents.bodies
      → (db : Trees) → new.may_leave db
      → old.may_leave db ⊎ Holds db (with_bodies contents (bodies_in vectors) changes acts))
      → ((db : Trees) → old.is_open ≡ true → old.may_leave db → db ≡ old.committed.trees) → (before : KeptState) → IsKept old owner count before
      → (db : Trees) → new.may_leave db → Holds db (contents_of owner before) ⊎ Holds db (contents_of owner (with_entries before entries changes))
  left_with_all stop settled before kept db may =
      elim (stop own_next (contents_of owner before) kept.tables (version_kept owner.version before.entries) (kept.counted ∙ sym (length-bodies before.entries)) db may) [
        | inl earlier ↦ inl (subst (λ trees. Holds trees (contents_of owner before)) (sym (settled db kept.tables.is_open earlier)) kept.tables.tables)
        | inr whole ↦ inr (subst (Holds db) (same_contents before kept.counted) whole)
      ]
