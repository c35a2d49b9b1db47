-- What a stop leaves is what the next opening finds.
use Rattle.std.proofs.Common.{◌≡◌, ◌⊎◌, inl, inr, ℕ, IsTrue, length, refl, sym, ap, subst, ◌∙◌, arith}
use Rattle.std.specs.Prelude.{◌<◌, ◌^◌}
use Rattle.std.proofs.Math.Logic.{∥∥₁_elim, ∥∥₁_map}
use Rattle.std.specs.List.{AllByRecursion}
use Rattle.sqlite_disk.specs.declared.Disk.{Ghosts}
use Rattle.sqlite_wal.specs.Recovery.{Image}
use Rattle.sqlite_store.specs.declared.store.FileStore.{FileStore}
use Rattle.sqlite_store.specs.FileStore.{state as files_of, view, recovers}
use Rattle.sqlite.specs.Tree.{Trees}
use Rattle.sqlite.specs.Held.{Held, AreDatabases}
use Rattle.sqlite.specs.Files.{HoldsDatabase, file_state, IsOpened}
use Rattle.sqlite.specs.Start.{FindsIn}
use Rattle.sqlite.specs.State.{State}
use Rattle.sqlite.proofs.Theorems.{opens_again}
use Rattle.lynx_keep.specs.Kept.{KeptState}
use Rattle.lynx_keep.specs.Stored.{HasEncoding}
use Rattle.sqlite.specs.Schema.{Schema}
use Rattle.lynx_sql.specs.Acts.{version_of}
use Rattle.lynx_sql.specs.Tables.{no_schema, store_schema}
use Rattle.lynx_sql.specs.Steps.{Holds}
use Rattle.lynx_sql.proofs.SchemaLemmas.{keeps_found}
use Rattle.lynx_store.specs.Crashes.{FindsEither, HoldsEither, IsEither, KeepsEither}
use Rattle.lynx_store.specs.declared.fault.StoreFault.{StoreFault}
use Rattle.lynx_store.specs.declared.fault.StoreFault.TheVariants.{OtherSet, OtherVersion, Damaged, Store, Memory as NoMemory}
use Rattle.lynx_store.specs.Stored.{IsKept, IsOther, KeepsNothing, LeavesOneOf, Owner, contents_of}

pub left_in : {D : Type 0} {g : Ghosts D} (it : FileStore D g) → IsTrue (view it).is_numbered → AreDatabases (recovers it)
    → (owner : Owner) (one other : KeptState) (image : Image) → LeavesOneOf (recovers it) owner one other → (files_of it).may_leave image
    → HoldsEither image owner one other
left_in it numbered sound owner one other image leaves may =
    ∥∥₁_map (opens_again it numbered sound image may) (λ found.
    let r : (db : Trees) × HoldsDatabase image db × (Holds db (contents_of owner one) ⊎ Holds db (contents_of owner other)) =
    (found.0, found.2, leaves found.0 found.1) in r)

found_one : {D : Type 0} {g : Ghosts D} (next : Held (FileStore D g)) (owner : Owner) (kept : KeptState) → IsOpened next → AllByRecursion HasEncoding kept.entries
    → Holds (file_state next).committed.trees (contents_of owner kept) → IsKept (file_state next) owner (length kept.entries) kept
found_one next owner kept opened formed holds = record {
  tables = keeps_found (file_state next) (contents_of owner kept) opened.0.is_open opened.1 opened.0.clean holds;
  counted = refl;
  formed = formed;
}

pub found_in_next : {D : Type 0} {g : Ghosts D} (next : Held (FileStore D g)) (owner : Owner) (one other : KeptState) (image : Image)
    → IsOpened next → FindsIn image (file_state next) → AllByRecursion HasEncoding one.entries → AllByRecursion HasEncoding other.entries
    → HoldsEither image owner one other → FindsEither (file_state next) owner one other
found_in_next next owner one other image opened finds formed others holds =
    ∥∥₁_map holds (λ found.
    let same : found.0 ≡ (file_state next).committed.trees = sym (finds.holds found.0 found.1) in
    let r : IsKept (file_state next) owner (length one.entries) one ⊎ IsKept (file_state next) owner (length other.entries) other =
    elim found.2 [
      | inl first ↦ inl (found_one next owner one opened formed (subst (λ trees. Holds trees (contents_of owner one)) same first))
      | inr second ↦ inr (found_one next owner other opened others (subst (λ trees. Holds trees (contents_of owner other)) same second))
    ] in r)

pub load_is_either : (s : State) (owner : Owner) (count : ℕ) (one other told : KeptState) → KeepsEither s owner count one other
    → ((kept : KeptState) → IsKept s owner count kept → kept ≡ told) → IsEither told one other
load_is_either s owner count one other told keeps all =
    ∥∥₁_map keeps (λ found.
    let r : (told ≡ one) ⊎ (told ≡ other) = elim found [ inl first ↦ inl (sym (all one first)) | inr second ↦ inr (sym (all other second)) ] in r)

-- an open that keeps what was kept keeps one of the two
pub opened_either : (old new : State) (owner : Owner) (now : ℕ) (one other : KeptState)
    → ((count : ℕ) (kept : KeptState) → IsKept old owner count kept → IsKept new owner now kept)
    → FindsEither old owner one other → KeepsEither new owner now one other
opened_either old new owner now one other same finds =
    ∥∥₁_map finds (λ found.
    let r : IsKept new owner now one ⊎ IsKept new owner now other =
    elim found [ inl first ↦ inl (same (length one.entries) one first) | inr second ↦ inr (same (length other.entries) other second) ] in r)

-- an empty database keeps neither
empty_keeps_none : {A : Type 0} (s : State) (owner : Owner) (count : ℕ) (kept : KeptState) → s.now.schema ≡ no_schema → IsKept s owner count kept → A
empty_keeps_none s owner count kept empty was = absurd (let n : 0 ≡ length (store_schema (version_of (contents_of owner kept).acted)).tables = ap (λ (schema : Schema). length schema.tables) (sym empty ∙ was.tables.schema) in omega (arith, n))

pub none_found : (old new : State) (owner : Owner) (now : ℕ) (one other : KeptState) → old.now.schema ≡ no_schema → FindsEither old owner one other → KeepsEither new owner now one other
none_found old new owner now one other empty finds =
    ∥∥₁_map finds (λ found.
    let r : IsKept new owner now one ⊎ IsKept new owner now other =
    elim found [ inl first ↦ empty_keeps_none old owner _ one empty first | inr second ↦ empty_keeps_none old owner _ other empty second ] in r)

none_of_two : (s : State) (owner : Owner) (one other : KeptState) → ((count : ℕ) (kept : KeptState) → (kept ≡ one) ⊎ (kept ≡ other) → IsKept s owner count kept → ⊥)
    → FindsEither s owner one other → ⊥
none_of_two s owner one other none finds =
    ∥∥₁_elim finds (λ (a b : ⊥). absurd a) (λ found.
    let r : ⊥ = elim found [ inl first ↦ none _ one (inl refl) first | inr second ↦ none _ other (inr refl) second ] in r)

few_of : (one other kept : KeptState) (s : State) (owner : Owner) (count : ℕ) → length one.entries < 2 ^ 32 → length other.entries < 2 ^ 32
    → (kept ≡ one) ⊎ (kept ≡ other) → IsKept s owner count kept → count < 2 ^ 32
few_of one other kept s owner count few less (inl is) was = omega (arith, few, was.counted, ap (λ (k : KeptState). length k.entries) is)
few_of one other kept s owner count few less (inr is) was = omega (arith, less, was.counted, ap (λ (k : KeptState). length k.entries) is)

-- what a stop left is refused for want of memory, or for the database, alone
pub refused_for : (s : State) (owner : Owner) (fault : StoreFault) → (fault ≡ Damaged → KeepsNothing s owner)
    → (IsOther fault → (count : ℕ) (kept : KeptState) → IsKept s owner count kept → ⊥)
    → (one other : KeptState) → length one.entries < 2 ^ 32 → length other.entries < 2 ^ 32 → FindsEither s owner one other → (fault ≡ Store) ⊎ (fault ≡ NoMemory)
refused_for s owner Store damaged others one other few less finds = inl refl
refused_for s owner NoMemory damaged others one other few less finds = inr refl
refused_for s owner Damaged damaged others one other few less finds =
    absurd (none_of_two s owner one other (λ count kept which was. damaged refl count kept (few_of one other kept s owner count few less which was) was) finds)
refused_for s owner OtherSet damaged others one other few less finds =
    absurd (none_of_two s owner one other (λ count kept which was. others (inl refl) count kept was) finds)
refused_for s owner OtherVersion damaged others one other few less finds =
    absurd (none_of_two s owner one other (λ count kept which was. others (inr refl) count kept was) finds)
