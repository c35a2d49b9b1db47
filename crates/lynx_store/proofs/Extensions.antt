-- What an extension keeps.
use Rattle.std.proofs.Common.{◌≡◌, ◌⊎◌, inl, inr, ℕ, ◌<◌, ◌^◌, true, List, length, Option, None, Some, refl, sym, ap, subst, ◌∙◌, arith}
use Rattle.std.specs.Prelude.{◌≢◌, ◌↔◌, IsTrue, Vec}
use Rattle.std.proofs.lemmas.Fmt.{decimal_injective}
use Rattle.std.specs.Fmt.{decimal}
use Rattle.std.specs.declared.alloc.Global.{Global}
use Rattle.sqlite.specs.Tree.{Trees}
use Rattle.sqlite.specs.State.{State}
use Rattle.lynx_keep.specs.Kept.{KeptState}
use Rattle.lynx_set.specs.Set.{Set}
use Rattle.lynx_set.specs.Text.{text_of}
use Rattle.lynx_set.specs.declared.version.Version.{Version}
use Rattle.lynx_set.specs.declared.version.Version.TheVariants as sets
use Rattle.lynx_extend.specs.Extends.{Extends, StaysOrRises}
use Rattle.lynx_sql.specs.declared.acts.Acted.{Acted}
use Rattle.lynx_sql.specs.declared.version.StoreVersion.TheVariants.{Two}
use Rattle.lynx_sql.specs.Acts.{ArePlaced}
use Rattle.lynx_sql.specs.Contents.{Contents, title_of}
use Rattle.lynx_sql.specs.Steps.{Holds, Keeps}
use Rattle.lynx_text.proofs.OneSet.{one_set}
use Rattle.lynx_store.specs.declared.extending.Extended.{Extended}
use Rattle.lynx_store.specs.Acts.{acted_of, acts_from}
use Rattle.lynx_store.specs.Extensions.{AreActsFor, CanExtend, CanGet, ExtendsStore, IsExtendable, IsForeign, IsOfLaterVersion, IsOfSet, KeepsFor, LeavesExtended, MayExtend, Rises, TellsOld, given}
use Rattle.lynx_store.specs.Stored.{IsKept, IsServerOf, Owner, bodies_of, contents_of, owner_for, version_for, version_text}
use Rattle.lynx_store.proofs.ActLemmas.{acts_placed}
use Rattle.lynx_store.proofs.Kept.{length-bodies}

-- ---- what is found of a store

-- where what was kept was told, of one server of one set
abbrev IsAll : State → ℕ → Set → KeptState → Type 0
IsAll s server held told =
    (owner : Owner) (count : ℕ) (kept : KeptState) → IsKept s owner count kept → (owner ≡ owner_for server held) × (kept ≡ told)

-- the versions don't rise where they are the same
pub never_rises : (old new : Version) → old ≡ new → Rises old new → ⊥
never_rises old new same rises = let e : sets.One ≡ sets.Two = sym rises.0 ∙ same ∙ rises.1 in cc

-- one that stays or rises, and doesn't rise, stays
pub stays : (old new : Version) → StaysOrRises old new → (Rises old new → ⊥) → old ≡ new
stays sets.One sets.One fits never = refl
stays sets.One sets.Two fits never = absurd (never (refl, refl))
stays sets.Two sets.One fits never = absurd fits
stays sets.Two sets.Two fits never = refl

module _ (s : State) (server : ℕ) (held : Set) (told : KeptState) (of : IsServerOf server held) (all : IsAll s server held told) where
  -- whatever set it is kept for is the one that was told
  pub same_set : (other : ℕ) (chains : Set) (count : ℕ) (kept : KeptState) → KeepsFor s other chains count kept → chains ≡ held
  same_set other chains count kept keeps =
      one_set chains held keeps.server_of.set of.set (ap (λ (owner : Owner). owner.set) (all (owner_for other chains) count kept keeps.keeps).0)

  pub same_state : (other : ℕ) (chains : Set) (count : ℕ) (kept : KeptState) → KeepsFor s other chains count kept → kept ≡ told
  same_state other chains count kept keeps = (all (owner_for other chains) count kept keeps.keeps).1

  same_number : (other : ℕ) (chains : Set) (count : ℕ) (kept : KeptState) → KeepsFor s other chains count kept → decimal other ≡ decimal server
  same_number other chains count kept keeps = ap (λ (owner : Owner). owner.server) (all (owner_for other chains) count kept keeps.keeps).0

  may_so : (set : Set) → MayExtend held set told → (other : ℕ) (chains : Set) (count : ℕ) (kept : KeptState) → KeepsFor s other chains count kept → MayExtend chains set kept
  may_so set may other chains count kept keeps =
      subst (MayExtend chains set) (sym (same_state other chains count kept keeps))
      (subst (λ (c : Set). MayExtend c set told) (sym (same_set other chains count kept keeps)) may)

  pub same_server : (other : ℕ) (chains : Set) (count : ℕ) (kept : KeptState) → KeepsFor s other chains count kept → other ≡ server
  same_server other chains count kept keeps =
      let its = keeps.server_of.server_is in
      let few = keeps.server_of.set.0.1 in
      let own = of.server_is in
      let own_few = of.set.0.1 in
      decimal_injective other server (omega arith) (omega arith) (same_number other chains count kept keeps)

  pub extendable : (new : State) (set : Set) (entries : ℕ) → MayExtend held set told → IsKept new (owner_for server held) entries told → IsExtendable s new server set entries
  extendable new set entries may now other chains before kept keeps = (
    same_server other chains before kept keeps,
    may_so set may other chains before kept keeps,
    subst (λ k. IsKept new (owner_for server chains) entries k) (sym (same_state other chains before kept keeps))
        (subst (λ (c : Set). IsKept new (owner_for server c) entries told) (sym (same_set other chains before kept keeps)) now),
  )

  pub extends_store : (new : State) (set : Set) (entries : ℕ) → MayExtend held set told → IsKept new (owner_for server set) entries told → ExtendsStore s new server set entries
  extends_store new set entries may now other chains before kept keeps = (
    same_server other chains before kept keeps,
    may_so set may other chains before kept keeps,
    subst (λ k. IsKept new (owner_for server set) entries k) (sym (same_state other chains before kept keeps)) now,
  )

  pub tells_old : (set : Set) (found : Extended) → IsTrue found.was_same ↔ (held ≡ set) → found.servers ≡ held.servers → TellsOld s set found
  tells_old set found is servers other chains count kept keeps =
      let one = same_set other chains count kept keeps in
      ((λ yes. one ∙ is.0 yes, λ it. is.1 (sym one ∙ it)), servers ∙ ap (λ (c : Set). c.servers) (sym one))

  pub later_version : (set : Set) → (StaysOrRises held.version set.version → ⊥) → IsOfLaterVersion s set
  later_version set never other chains count kept keeps fits =
      never (subst (λ (c : Set). StaysOrRises c.version set.version) (same_set other chains count kept keeps) fits)

  pub foreign : (own : ℕ) (set : Set) → (server ≢ own) ⊎ (StaysOrRises held.version set.version × (Extends held set → ⊥)) → IsForeign s own set
  foreign own set (inl never) other chains count kept keeps = inl (λ same. never (sym (same_server other chains count kept keeps) ∙ same))
  foreign own set (inr why) other chains count kept keeps =
      inr (subst (λ (c : Set). StaysOrRises c.version set.version × (Extends c set → ⊥)) (sym (same_set other chains count kept keeps)) why)

  -- what the new set may have is what was told
  pub told_may : (set : Set) (other : ℕ) (chains : Set) (count : ℕ) (kept : KeptState) → CanExtend s other chains set count kept →
      (length told.entries < 2 ^ 32) × MayExtend held set told
  told_may set other chains count kept can =
      let alike = same_state other chains count kept can.keeps in
      let many : count ≡ length told.entries = can.keeps.keeps.counted ∙ ap (λ (state : KeptState). length state.entries) alike in (
        omega (arith, many, can.few),
        subst (λ (c : Set). MayExtend c set told) (same_set other chains count kept can.keeps) (subst (MayExtend chains set) alike can.may),
      )

  -- a stop leaves what was kept, or the whole store of the new set
  pub leaves_extended : (new : State) (set : Set) → MayExtend held set told
      → ((db : Trees) → new.may_leave db → s.may_leave db ⊎ Holds db (contents_of (owner_for server set) told))
      → ((db : Trees) → s.is_open ≡ true → s.may_leave db → db ≡ s.committed.trees) → LeavesExtended s new set
  leaves_extended new set may stop settled other chains before kept keeps db left = elim (stop db left) [
    | inl was ↦ inl (subst (λ trees. Holds trees (contents_of (owner_for other chains) kept)) (sym (settled db keeps.keeps.tables.is_open was)) keeps.keeps.tables.tables)
    | inr whole ↦ inr (
      may_so set may other chains before kept keeps,
      subst (λ k. Holds db (contents_of (owner_for other set) k)) (sym (same_state other chains before kept keeps))
          (subst (λ own. Holds db (contents_of (owner_for own set) told)) (sym (same_server other chains before kept keeps)) whole),
    )
  ]

-- where nothing was written, a stop leaves what was kept
pub leaves_kept : (old new : State) (set : Set) → ((db : Trees) → new.may_leave db → old.may_leave db)
    → ((db : Trees) → old.is_open ≡ true → old.may_leave db → db ≡ old.committed.trees) → LeavesExtended old new set
leaves_kept old new set earlier settled other chains before kept keeps db may =
    inl (subst (λ trees. Holds trees (contents_of (owner_for other chains) kept)) (sym (settled db keeps.keeps.tables.is_open (earlier db may))) keeps.keeps.tables.tables)

-- ---- what the tables hold then

retitled_so : (server : ℕ) (held set : Set) (told : KeptState) (text : List ℕ) → text ≡ text_of set → held.version ≡ set.version →
    given (contents_of (owner_for server held) told) text None ≡ contents_of (owner_for server set) told
retitled_so server held set told text is same = λ i. record {
  title = title_of (version_text (version_for (same i))) (decimal server) (is i);
  bodies = bodies_of told.entries;
  cells = told.cells;
  acted = acted_of (version_for (same i)) told.entries;
}

upgraded_so : (server : ℕ) (held set : Set) (told : KeptState) (text : List ℕ) (acts : Vec Acted Global) → text ≡ text_of set → set.version ≡ sets.Two → acts.items ≡ acts_from 0 told.entries →
    given (contents_of (owner_for server held) told) text (Some acts) ≡ contents_of (owner_for server set) told
upgraded_so server held set told text acts is second are =
    (λ i. record {
      title = title_of (version_text Two) (decimal server) (is i);
      bodies = bodies_of told.entries;
      cells = told.cells;
      acted = Some (are i);
    })
    ∙ (λ i. contents_of (record { version = version_for (sym second i); server = decimal server; set = text_of set }) told)

pub given_so : (server : ℕ) (held set : Set) (told : KeptState) (text : List ℕ) (acts : Option (Vec Acted Global)) → text ≡ text_of set →
    AreActsFor held.version set.version told.entries acts → given (contents_of (owner_for server held) told) text acts ≡ contents_of (owner_for server set) told
given_so server held set told text None is are = retitled_so server held set told text is are
given_so server held set told text (Some acts) is are = upgraded_so server held set told text acts is are.0.1 are.1

pub can_get : (s : State) (server count : ℕ) (held set : Set) (told : KeptState) (acts : Option (Vec Acted Global)) → AreActsFor held.version set.version told.entries acts →
    IsKept s (owner_for server held) count told → CanGet (contents_of (owner_for server held) told) acts
can_get s server count held set told None are kept = tt
can_get s server count held set told (Some acts) are kept = (
  ap (λ version. acted_of (version_for version) told.entries) are.0.0,
  subst (λ some. ArePlaced some (length (bodies_of told.entries))) (sym are.1)
      (acts_placed Two told.entries (length (bodies_of told.entries)) (length-bodies told.entries) kept.formed),
)

-- the tables hold what is kept for the new set
pub given_kept : (mid new : State) (server count : ℕ) (held set : Set) (told : KeptState) (text : List ℕ) (acts : Option (Vec Acted Global)) → text ≡ text_of set →
    AreActsFor held.version set.version told.entries acts → IsKept mid (owner_for server held) count told →
    ((before : Contents) → Keeps mid before → CanGet before acts → Keeps new (given before text acts)) → IsKept new (owner_for server set) count told
given_kept mid new server count held set told text acts is are now wrote = record {
  tables = subst (Keeps new) (given_so server held set told text acts is are)
      (wrote (contents_of (owner_for server held) told) now.tables (can_get mid server count held set told acts are now));
  counted = now.counted;
  formed = now.formed;
}

-- the server keeps so many entries for the new set, which has it
pub of_set : (new : State) (server : ℕ) (held set : Set) (told : KeptState) (entries : ℕ) → IsServerOf server held → Extends held set →
    IsKept new (owner_for server set) entries told → IsOfSet new server set entries
of_set new server held set told entries of extends now =
    let own = of.server_is in
    let more = extends.head.servers in
    (told, omega (arith, own, more), now)

-- what a stop leaves: what it could leave before anything was read, or the whole store of the new set
pub left_so : (old mid new : State) (server count : ℕ) (held set : Set) (told : KeptState) (text : List ℕ) (acts : Option (Vec Acted Global)) → text ≡ text_of set →
    AreActsFor held.version set.version told.entries acts → IsKept mid (owner_for server held) count told →
    ((before : Contents) → Keeps mid before → CanGet before acts → (db : Trees) → new.may_leave db → mid.may_leave db ⊎ Holds db (given before text acts)) →
    ((db : Trees) → mid.may_leave db → old.may_leave db) → (db : Trees) → new.may_leave db → old.may_leave db ⊎ Holds db (contents_of (owner_for server set) told)
left_so old mid new server count held set told text acts is are now stop earlier db may =
    elim (stop (contents_of (owner_for server held) told) now.tables (can_get mid server count held set told acts are now) db may) [
      | inl left ↦ inl (earlier db left)
      | inr whole ↦ inr (subst (Holds db) (given_so server held set told text acts is are) whole)
    ]
