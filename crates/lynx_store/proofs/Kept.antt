-- What a commit keeps, and what a stop leaves of it.
use Rattle.std.proofs.Common.{Option, ◌≡◌, ◌⊎◌, inl, inr, ℕ, suc, ◌+◌, true, List, [], ◌∷◌, ◌++◌, length, refl, sym, ap, subst, ◌∙◌, arith, length-append}
use Rattle.std.specs.List.{AllByRecursion}
use Rattle.std.specs.Prelude.{IfErr, Result, Ok, Err}
use Rattle.sqlite.specs.Tree.{Trees}
use Rattle.sqlite.specs.State.{State}
use Rattle.lynx_cells.specs.Database.{ChangeSet, applied}
use Rattle.lynx_entry.specs.declared.entry.Entry.{Entry}
use Rattle.lynx_entry.specs.Entry.{History}
use Rattle.lynx_keep.specs.Kept.{KeptState, nothing_kept, with_entry}
use Rattle.lynx_keep.specs.Stored.{encoding_of, HasEncoding}
use Rattle.lynx_sql.specs.declared.acts.Acted.{Acted}
use Rattle.lynx_sql.specs.declared.version.StoreVersion.{StoreVersion}
use Rattle.lynx_sql.specs.declared.version.StoreVersion.TheVariants.{One, Two}
use Rattle.lynx_sql.specs.Acts.{ArePlaced, acts_in, version_of, with_acted}
use Rattle.lynx_sql.specs.Contents.{Contents, title_of, titled, with_body}
use Rattle.lynx_sql.specs.Steps.{Holds, Keeps}
use Rattle.lynx_store.specs.Acts.{act_at, acted_of}
use Rattle.lynx_store.specs.Stored.{bodies_of, contents_of, version_text, title_for, Owner, IsKept}
use Rattle.lynx_store.proofs.ActLemmas.{acted-append, acts_placed}

pub bodies-append : (entries : History) (entry : Entry) → bodies_of entries ++ encoding_of entry ∷ [] ≡ bodies_of (entries ++ entry ∷ [])
bodies-append [] entry = refl
bodies-append (e ∷ es) entry = ap (λ bodies. encoding_of e ∷ bodies) (bodies-append es entry)

pub length-bodies : (entries : History) → length (bodies_of entries) ≡ length entries
length-bodies [] = refl
length-bodies (e ∷ es) = ap suc (length-bodies es)

pub formed-append : (entries : History) (entry : Entry) → AllByRecursion HasEncoding entries → HasEncoding entry → AllByRecursion HasEncoding (entries ++ entry ∷ [])
formed-append [] entry all formed = (formed, tt)
formed-append (e ∷ es) entry all formed = (all.0, formed-append es entry all.1 formed)

-- a store of a version keeps hops as that does
pub version_kept : (version : StoreVersion) (entries : History) → version_of (acted_of version entries) ≡ version
version_kept One entries = refl
version_kept Two entries = refl

-- a commit of one entry, whose body is its encoding, and of its hop
module _ (old new : State) (owner : Owner) (count : ℕ) (entry : Entry) (body : List ℕ) (changes : ChangeSet) (acted : Option Acted)
    (is : body ≡ encoding_of entry) (hop : acted ≡ act_at count entry) where
  same_contents : (before : KeptState) → count ≡ length before.entries
      → with_body (contents_of owner before) body changes acted ≡ contents_of owner (with_entry before entry changes)
  same_contents before counted =
      let all : bodies_of before.entries ++ body ∷ [] ≡ bodies_of (before.entries ++ entry ∷ []) =
      ap (λ b. bodies_of before.entries ++ b ∷ []) is ∙ bodies-append before.entries entry in
      let acts : with_acted (acted_of owner.version before.entries) acted ≡ acted_of owner.version (before.entries ++ entry ∷ []) =
      ap (with_acted (acted_of owner.version before.entries)) hop ∙ acted-append owner.version before.entries entry count counted in
      λ i. record { title = title_for owner; bodies = all i; cells = applied changes before.cells; acted = acts i }

  pub kept_with : ((contents : Contents) → Keeps old contents → version_of contents.acted ≡ owner.version → count ≡ length contents.bodies → Keeps new (with_body contents body changes acted))
      → HasEncoding entry → (before : KeptState) → IsKept old owner count before → IsKept new owner (count + 1) (with_entry before entry changes)
  kept_with wrote formed before kept = record {
    tables = subst (Keeps new) (same_contents before kept.counted)
        (wrote (contents_of owner before) kept.tables (version_kept owner.version before.entries) (kept.counted ∙ sym (length-bodies before.entries)));
    counted = omega (arith, kept.counted, length-append before.entries (entry ∷ []));
    formed = formed-append before.entries entry kept.formed formed;
  }

  pub left_with : ((contents : Contents) → Keeps old contents → version_of contents.acted ≡ owner.version → count ≡ length contents.bodies → (db : Trees) → new.may_leave db
      → old.may_leave db ⊎ Holds db (with_body contents body changes acted))
      → ((db : Trees) → old.is_open ≡ true → old.may_leave db → db ≡ old.committed.trees) → (before : KeptState) → IsKept old owner count before
      → (db : Trees) → new.may_leave db → Holds db (contents_of owner before) ⊎ Holds db (contents_of owner (with_entry before entry changes))
  left_with stop settled before kept db may =
      elim (stop (contents_of owner before) kept.tables (version_kept owner.version before.entries) (kept.counted ∙ sym (length-bodies before.entries)) db may) [
        | inl earlier ↦ inl (subst (λ trees. Holds trees (contents_of owner before)) (sym (settled db kept.tables.is_open earlier)) kept.tables.tables)
        | inr whole ↦ inr (subst (Holds db) (same_contents before kept.counted) whole)
      ]

-- what a new store holds is nothing
new_contents : (version : StoreVersion) (server set : List ℕ) → titled version (title_of (version_text version) server set)
    ≡ contents_of (record { version = version; server = server; set = set }) nothing_kept
new_contents One server set = refl
new_contents Two server set = refl

-- hops of entries that have encodings are placed among their bodies
pub placed : (version : StoreVersion) (entries : History) → AllByRecursion HasEncoding entries
    → ArePlaced (acts_in (acted_of version entries)) (length (bodies_of entries))
placed version entries formed = acts_placed version entries (length (bodies_of entries)) (length-bodies entries) formed

-- a new store keeps nothing
pub new_kept : (s : State) (version : StoreVersion) (own_server server own_set set text : List ℕ) → server ≡ own_server → set ≡ own_set
    → text ≡ version_text version → Keeps s (titled version (title_of text server set))
    → IsKept s (record { version = version; server = own_server; set = own_set }) 0 nothing_kept
new_kept s version own_server server own_set set text same_server same_set same_text keeps = record {
  tables = subst (Keeps s) (new_contents version own_server own_set)
      (subst (λ other. Keeps s (titled version (title_of (version_text version) own_server other))) same_set
      (subst (λ other. Keeps s (titled version (title_of (version_text version) other set))) same_server
      (subst (λ other. Keeps s (titled version (title_of other server set))) same_text keeps)));
  counted = refl;
  formed = tt;
}

-- the same owner
pub reowned : (s : State) (count : ℕ) (kept : KeptState) (own other : Owner) → own ≡ other → IsKept s other count kept → IsKept s own count kept
reowned s count kept own other same is = subst (λ owner. IsKept s owner count kept) (sym same) is

pub same_owner : (own_version version : StoreVersion) (own_server server own_set set : List ℕ)
    → own_version ≡ version → own_server ≡ server → own_set ≡ set
    → ◌≡◌ {A = Owner} (record { version = own_version; server = own_server; set = own_set }) (record { version = version; server = server; set = set })
same_owner own_version version own_server server own_set set same_version same_server same_set =
    λ i. record { version = same_version i; server = same_server i; set = same_set i }

-- a text of neither version
pub neither_version : (text : List ℕ) → (text ≡ version_text One → ⊥) → (text ≡ version_text Two → ⊥) → (version : StoreVersion) → text ≡ version_text version → ⊥
neither_version text first second One = first
neither_version text first second Two = second

-- a fault of one kind
pub err_of : {A E : Type 0} {Q : E → Type 0} (r : Result A E) → ((e : E) → r ≡ Err e → Q e) → IfErr r Q
err_of (Ok x) f = tt
err_of (Err e) f = f e refl

pub every_err : {A E : Type 0} {Q : E → Type 0} (r : Result A E) → ((e : E) → Q e) → IfErr r Q
every_err (Ok x) f = tt
every_err (Err e) f = f e

-- what is kept goes on
pub goes_on : (old new : State) → ((contents : Contents) → Keeps old contents → Keeps new contents)
    → (owner : Owner) (count : ℕ) (kept : KeptState) → IsKept old owner count kept → IsKept new owner count kept
goes_on old new on owner count kept was = record { tables = on (contents_of owner kept) was.tables; counted = was.counted; formed = was.formed }
