-- What an upgrade keeps.
use Rattle.std.proofs.Common.{◌≡◌, ◌⊎◌, inl, inr, ℕ, ◌<◌, ◌^◌, true, List, ◌∷◌, [], ◌++◌, length, None, Some, refl, sym, ap, subst, ◌∙◌, arith}
use Rattle.std.specs.Prelude.{codes, drop}
use Rattle.std.specs.Fmt.{decimal}
use Rattle.sqlite.specs.Tree.{Trees}
use Rattle.sqlite.specs.State.{State}
use Rattle.lynx_keep.specs.Kept.{KeptState}
use Rattle.lynx_set.specs.Set.{Set}
use Rattle.lynx_set.specs.Text.{text, text_of, version_words, tables_lines, programs_lines}
use Rattle.lynx_lex.specs.Lines.{line}
use Rattle.lynx_set.specs.declared.version.Version.{Version}
use Rattle.lynx_set.specs.declared.version.Version.TheVariants as sets
use Rattle.lynx_sql.specs.declared.acts.Acted.{Acted}
use Rattle.lynx_sql.specs.declared.version.StoreVersion.TheVariants.{One, Two}
use Rattle.lynx_sql.specs.Acts.{ArePlaced}
use Rattle.lynx_sql.specs.Contents.{Contents, title_of, upgraded}
use Rattle.lynx_sql.specs.Steps.{Holds, Keeps}
use Rattle.lynx_store.specs.Acts.{AreApart, acted_of, acts_from}
use Rattle.lynx_text.proofs.OneSet.{one_set}
use Rattle.lynx_store.specs.Stored.{AreInTables, IsKept, IsServerOf, Owner, bodies_of, contents_of, owner_for, version_for, version_text}
use Rattle.lynx_store.specs.Upgrades.{CanUpgrade, LeavesUpgraded, MayUpgrade, Upgrades, second_of}
use Rattle.lynx_store.proofs.ActLemmas.{acts_placed}
use Rattle.lynx_store.proofs.Kept.{length-bodies}

-- ---- texts of sets at version 2

-- the lines below the first
abbrev lines_below : Set → List (List (List ℕ))
lines_below set = (codes "servers" ∷ decimal set.servers ∷ []) ∷ (tables_lines set.tables set.shards ++ programs_lines set.tables set.programs)

below : (version : Version) (rest : List (List (List ℕ))) → drop 7 (text (version_words version ∷ rest)) ≡ text rest
below sets.One rest = refl
below sets.Two rest = refl

same_text : (a b : Set) → text_of a ≡ text_of b → text_of (second_of a) ≡ text_of (second_of b)
same_text a b same = ap (λ bytes. line (version_words sets.Two) ++ bytes)
    (sym (below a.version (lines_below a)) ∙ ap (drop 7) same ∙ below b.version (lines_below b))

same_second : (server other : ℕ) (a b : Set) → owner_for server a ≡ owner_for other b → owner_for server (second_of a) ≡ owner_for other (second_of b)
same_second server other a b same =
    let set = same_text a b (ap (λ owner. owner.set) same) in
    λ i. record { version = Two; server = (same i).server; set = set i }

first_alike : (version : Version) → version_for version ≡ One → version ≡ sets.One
first_alike sets.One same = refl
first_alike sets.Two same = absurd (let e = same in cc)

-- a set with the text of one of version 1 is of version 1
pub same_first : (server other : ℕ) (a b : Set) → owner_for server a ≡ owner_for other b → b.version ≡ sets.One → a.version ≡ sets.One
same_first server other a b same first = first_alike a.version (ap (λ owner. owner.version) same ∙ ap version_for first)

-- what was told of a set of version 1 can be upgraded, where its cells and hops can
pub told_may : (held : Set) (told : KeptState) (acts : List Acted) → acts ≡ acts_from 0 told.entries
    → held.version ≡ sets.One → AreInTables held told.cells → AreApart acts → MayUpgrade held told
told_may held told acts are_acts first tables apart =
    record { version = first; tables = (held, refl, tables); apart = subst AreApart are_acts apart }

-- and so can what is kept of each set with that text
same_may : (server other : ℕ) (a b : Set) (kept told : KeptState) → owner_for server a ≡ owner_for other b → kept ≡ told
    → MayUpgrade b told → MayUpgrade a kept
same_may server other a b kept told same alike may =
    let tables = may.tables in
    subst (MayUpgrade a) (sym alike) (record {
      version = same_first server other a b same may.version;
      tables = (tables.0, tables.1 ∙ sym (ap (λ owner. owner.set) same), tables.2);
      apart = may.apart;
    })

-- ---- the tables

-- what is added to the tables of a store of version 1
module _ (server : ℕ) (held : Set) (told : KeptState) (version set : List ℕ) (acts : List Acted)
    (is_version : version ≡ version_text Two) (is_set : set ≡ text_of (second_of held)) (are_acts : acts ≡ acts_from 0 told.entries) where
  pub same_contents : upgraded (contents_of (owner_for server held) told) version set acts ≡ contents_of (owner_for server (second_of held)) told
  same_contents = λ i. record {
    title = title_of (is_version i) (decimal server) (is_set i);
    bodies = bodies_of told.entries;
    cells = told.cells;
    acted = Some (are_acts i);
  }

  placed : (s : State) (count : ℕ) → IsKept s (owner_for server held) count told → ArePlaced acts (length (bodies_of told.entries))
  placed s count kept = subst (λ some. ArePlaced some (length (bodies_of told.entries))) (sym are_acts)
      (acts_placed Two told.entries (length (bodies_of told.entries)) (length-bodies told.entries) kept.formed)

none_kept : (held : Set) (told : KeptState) → held.version ≡ sets.One → acted_of (version_for held.version) told.entries ≡ None
none_kept held told first = ap (λ version. acted_of (version_for version) told.entries) first

-- the tables of a store of version 2 are kept: of the set that was told, and of each that had its text
module _ (old mid new : State) (server : ℕ) (held : Set) (told : KeptState) (count : ℕ) (version set : List ℕ) (acts : List Acted)
    (is_version : version ≡ version_text Two) (is_set : set ≡ text_of (second_of held)) (are_acts : acts ≡ acts_from 0 told.entries)
    (can : MayUpgrade held told)
    (now : IsKept mid (owner_for server held) count told)
    (all : (owner : Owner) (before : ℕ) (kept : KeptState) → IsKept old owner before kept → (owner ≡ owner_for server held) × (kept ≡ told)) where
  pub second_kept : ((before : Contents) → Keeps mid before → before.acted ≡ None → ArePlaced acts (length before.bodies)
      → Keeps new (upgraded before version set acts)) → IsKept new (owner_for server (second_of held)) count told
  second_kept wrote = record {
    tables = subst (Keeps new) (same_contents server held told version set acts is_version is_set are_acts)
        (wrote (contents_of (owner_for server held) told) now.tables (none_kept held told can.version)
        (placed server held told version set acts is_version is_set are_acts mid count now));
    counted = now.counted;
    formed = now.formed;
  }

  pub upgrades : IsKept new (owner_for server (second_of held)) count told → Upgrades old new count
  upgrades kept_now other chains before kept was =
      let same = all (owner_for other chains) before kept was in (
        same_may other server chains held kept told same.0 same.1 can,
        subst (λ k. IsKept new (owner_for other (second_of chains)) count k) (sym same.1)
            (subst (λ owner. IsKept new owner count told) (sym (same_second other server chains held same.0)) kept_now),
      )

  pub leaves_second : ((before : Contents) → Keeps mid before → before.acted ≡ None → ArePlaced acts (length before.bodies)
      → (db : Trees) → new.may_leave db → mid.may_leave db ⊎ Holds db (upgraded before version set acts))
      → ((db : Trees) → mid.may_leave db → old.may_leave db)
      → ((db : Trees) → old.is_open ≡ true → old.may_leave db → db ≡ old.committed.trees)
      → LeavesUpgraded old new
  leaves_second stop earlier settled other chains before kept was db may =
      let same = all (owner_for other chains) before kept was in
      let left_over : mid.may_leave db ⊎ Holds db (upgraded (contents_of (owner_for server held) told) version set acts) =
      stop (contents_of (owner_for server held) told) now.tables (none_kept held told can.version)
      (placed server held told version set acts is_version is_set are_acts mid count now) db may in
      elim left_over [
        | inl left ↦ inl (subst (λ trees. Holds trees (contents_of (owner_for other chains) kept))
            (sym (settled db was.tables.is_open (earlier db left))) was.tables.tables)
        | inr whole ↦ inr (
          same_may other server chains held kept told same.0 same.1 can,
          subst (λ k. Holds db (contents_of (owner_for other (second_of chains)) k)) (sym same.1)
              (subst (λ owner. Holds db (contents_of owner told)) (sym (same_second other server chains held same.0))
              (subst (Holds db) (same_contents server held told version set acts is_version is_set are_acts) whole)),
        )
      ]

-- where nothing was written, a stop leaves what was kept
pub leaves_first : (old new : State) → ((db : Trees) → new.may_leave db → old.may_leave db)
    → ((db : Trees) → old.is_open ≡ true → old.may_leave db → db ≡ old.committed.trees) → LeavesUpgraded old new
leaves_first old new earlier settled other chains before kept was db may =
    inl (subst (λ trees. Holds trees (contents_of (owner_for other chains) kept)) (sym (settled db was.tables.is_open (earlier db may))) was.tables.tables)

-- what was kept is kept, where all of it was told
pub still_kept : (old new : State) (server : ℕ) (held : Set) (told : KeptState) (count : ℕ) → IsKept new (owner_for server held) count told
    → ((owner : Owner) (before : ℕ) (kept : KeptState) → IsKept old owner before kept → (owner ≡ owner_for server held) × (kept ≡ told))
    → (owner : Owner) (before : ℕ) (kept : KeptState) → IsKept old owner before kept → IsKept new owner before kept
still_kept old new server held told count now all owner before kept was =
    let same = all owner before kept was in
    let tables : Keeps new (contents_of owner kept) =
    subst (λ k. Keeps new (contents_of owner k)) (sym same.1) (subst (λ own. Keeps new (contents_of own told)) (sym same.0) now.tables) in
    record { tables = tables; counted = was.counted; formed = was.formed }

-- what some server of a set keeps that can be upgraded is what was told, and that can be upgraded
pub told_can : (s : State) (server other : ℕ) (held chains : Set) (told kept : KeptState) (count : ℕ) → IsServerOf server held → CanUpgrade s other chains count kept
    → ((owner : Owner) (before : ℕ) (state : KeptState) → IsKept s owner before state → (owner ≡ owner_for server held) × (state ≡ told))
    → (length told.entries < 2 ^ 32) × AreInTables held told.cells × AreApart (acts_from 0 told.entries)
told_can s server other held chains told kept count of can all =
    let same = all (owner_for other chains) count kept can.keeps in
    let one : chains ≡ held = one_set chains held can.server_of.set of.set (ap (λ (owner : Owner). owner.set) same.0) in
    let many : count ≡ length told.entries = can.keeps.counted ∙ ap (λ (state : KeptState). length state.entries) same.1 in (
      omega (arith, many, can.few),
      subst (λ (set : Set). AreInTables set told.cells) one (subst (λ (state : KeptState). AreInTables chains state.cells) same.1 can.tables),
      subst (λ (state : KeptState). AreApart (acts_from 0 state.entries)) same.1 can.apart,
    )
