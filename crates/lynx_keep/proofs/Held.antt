-- What a keeper that holds entries back keeps, and what a stop leaves of it.
use Rattle.std.proofs.Common.{◌≡◌, inl, [], ◌∷◌, ◌++◌, Result, Ok, Err, sym, ap, subst, ◌∙◌}
use Rattle.std.specs.Prelude.{IfOk, IsErrOf}
use Rattle.std.proofs.lemmas.List.{append_assoc}
use Rattle.std.specs.FinMap as map
use Rattle.lynx_cells.specs.Database.{Database, ChangeSet, applied}
use Rattle.lynx_entry.specs.declared.entry.Entry.{Entry}
use Rattle.lynx_entry.specs.Entry.{History}
use Rattle.lynx_keep.specs.Kept.{KeptState, Terms, with_entries, with_entry}
use Rattle.lynx_keep.specs.declared.fault.KeepFault.{KeepFault}
use Rattle.lynx_keep.specs.declared.keeper.Loaded.{Loaded}
use Rattle.lynx_keep.specs.HeldBack.{Holding, IsHolding, IsFront, KeepsBehind, LeavesFront, RestsBehind}
use Rattle.lynx_keep.specs.HeldLaws.{with-nothing, front_itself, front_behind, settled_front, weaker_front}

-- ---- where nothing waits

no_more : (base : KeptState) (waiting : History) (changes : ChangeSet) → IsHolding waiting changes → waiting ≡ [] → with_entries base waiting changes ≡ base
no_more base waiting changes holds idle =
    ap (λ (es : History). with_entries base es changes) idle
    ∙ ap (λ (ch : ChangeSet). with_entries base [] ch) (holds.idle idle)
    ∙ with-nothing base

-- all that is kept is settled
pub idle_kept : {K : Type 0} (terms : Terms K) (holding : Holding K) (kept : KeptState) → IsHolding holding.waiting holding.changes → holding.waiting ≡ [] →
    KeepsBehind terms holding kept → terms.keeps holding.inner kept
idle_kept terms holding kept holds idle behind =
    subst (terms.keeps holding.inner) (sym (behind.kept_is ∙ no_more behind.base holding.waiting holding.changes holds idle)) behind.keeps

-- .. and what is settled is all
pub kept_idle : {K : Type 0} (terms : Terms K) (holding : Holding K) (kept : KeptState) → IsHolding holding.waiting holding.changes → holding.waiting ≡ [] →
    terms.keeps holding.inner kept → KeepsBehind terms holding kept
kept_idle terms holding kept holds idle keeps =
    record { base = kept; keeps = keeps; kept_is = sym (no_more kept holding.waiting holding.changes holds idle) }

-- .. where nothing is said of what waits but that it is nothing
pub kept_nothing : {K : Type 0} (terms : Terms K) (holding : Holding K) (kept : KeptState) → holding.waiting ≡ [] → holding.changes ≡ map.empty →
    terms.keeps holding.inner kept → KeepsBehind terms holding kept
kept_nothing terms holding kept idle same keeps = record {
  base = kept;
  keeps = keeps;
  kept_is = sym (ap (λ (es : History). with_entries kept es holding.changes) idle ∙ ap (λ (ch : ChangeSet). with_entries kept [] ch) same ∙ with-nothing kept);
}

-- ---- a keeper under it that keeps what it kept

pub keeps_still : {K : Type 0} (terms : Terms K) (old new : Holding K) (kept : KeptState) → new.waiting ≡ old.waiting → new.changes ≡ old.changes →
    ((base : KeptState) → terms.keeps old.inner base → terms.keeps new.inner base) → KeepsBehind terms old kept → KeepsBehind terms new kept
keeps_still terms old new kept same same_changes keeps behind = record {
  base = behind.base;
  keeps = keeps behind.base behind.keeps;
  kept_is = behind.kept_is
      ∙ ap (λ (es : History). with_entries behind.base es old.changes) (sym same)
      ∙ ap (λ (ch : ChangeSet). with_entries behind.base new.waiting ch) (sym same_changes);
}

-- ---- one more waits

same_state : (entries others : History) (cells more : Database) → entries ≡ others → cells ≡ more →
    ◌≡◌ {A = KeptState} (record { entries = entries; cells = cells }) (record { entries = others; cells = more })
same_state entries others cells more same same_cells =
    ap (λ (es : History). record { entries = es; cells = cells }) same
    ∙ ap (λ (db : Database). record { entries = others; cells = db }) same_cells

pub one_more : (base : KeptState) (waiting : History) (changes more all : ChangeSet) (entry : Entry) →
    ((db : Database) → applied all db ≡ applied more (applied changes db)) →
    with_entry (with_entries base waiting changes) entry more ≡ with_entries base (waiting ++ entry ∷ []) all
one_more base waiting changes more all entry merged =
    same_state _ _ _ _ (append_assoc base.entries waiting (entry ∷ [])) (sym (merged base.cells))

one_behind : {K : Type 0} (base : KeptState) (old new : Holding K) (before : KeptState) (entry : Entry) (more : ChangeSet) →
    new.waiting ≡ old.waiting ++ entry ∷ [] → ((db : Database) → applied new.changes db ≡ applied more (applied old.changes db)) →
    before ≡ with_entries base old.waiting old.changes → with_entry before entry more ≡ with_entries base new.waiting new.changes
one_behind base old new before entry more waits merged is =
    ap (λ (kept : KeptState). with_entry kept entry more) is
    ∙ one_more base old.waiting old.changes more new.changes entry merged
    ∙ ap (λ (es : History). with_entries base es new.changes) (sym waits)

pub waits_behind : {K : Type 0} (terms : Terms K) (old new : Holding K) (before : KeptState) (entry : Entry) (more : ChangeSet) → new.inner ≡ old.inner →
    new.waiting ≡ old.waiting ++ entry ∷ [] → ((db : Database) → applied new.changes db ≡ applied more (applied old.changes db)) →
    KeepsBehind terms old before → KeepsBehind terms new (with_entry before entry more)
waits_behind {K} terms old new before entry more same waits merged behind = record {
  base = behind.base;
  keeps = subst (λ (k : K). terms.keeps k behind.base) (sym same) behind.keeps;
  kept_is = one_behind behind.base old new before entry more waits merged behind.kept_is;
}

-- .. and what was settled is so still
pub rests_behind : {K : Type 0} (terms : Terms K) (old new : Holding K) (settled before : KeptState) (entry : Entry) (more : ChangeSet) → new.inner ≡ old.inner →
    new.waiting ≡ old.waiting ++ entry ∷ [] → ((db : Database) → applied new.changes db ≡ applied more (applied old.changes db)) →
    RestsBehind terms old settled before → RestsBehind terms new settled (with_entry before entry more)
rests_behind {K} terms old new settled before entry more same waits merged rests = record {
  keeps = subst (λ (k : K). terms.keeps k settled) (sym same) rests.keeps;
  kept_is = one_behind settled old new before entry more waits merged rests.kept_is;
}

-- a stop leaves what it could leave before
pub untouched_front : {K : Type 0} (terms : Terms K) → ((keeper : K) (kept : KeptState) → terms.sound keeper → terms.keeps keeper kept → terms.leaves keeper kept kept) →
    (old : Holding K) (inner : K) (before other : KeptState) → inner ≡ old.inner → terms.sound inner → KeepsBehind terms old before → LeavesFront terms inner before other
untouched_front {K} terms settled old inner before other same sound behind =
    subst (λ (k : K). LeavesFront terms k before other) (sym same)
    (weaker_front terms old.inner before other
    (settled_front terms settled old before (subst terms.sound same sound) behind))

-- ---- all is handed on

-- a stop leaves what was settled, or all
pub handed_front : {K : Type 0} (terms : Terms K) (old : Holding K) (inner : K) (kept : KeptState) →
    ((base : KeptState) → terms.keeps old.inner base → terms.leaves inner base (with_entries base old.waiting old.changes)) →
    KeepsBehind terms old kept → LeavesFront terms inner kept kept
handed_front terms old inner kept stop behind = record {
  base = behind.base;
  after = with_entries behind.base old.waiting old.changes;
  leaves = stop behind.base behind.keeps;
  base_front = front_behind terms old kept behind;
  after_front = inl (subst (λ (k : KeptState). IsFront k kept) behind.kept_is (front_itself kept));
}

-- all is settled
pub whole_front : {K : Type 0} (terms : Terms K) (inner : K) (kept : KeptState) → terms.leaves inner kept kept → LeavesFront terms inner kept kept
whole_front terms inner kept leaves = record { base = kept; after = kept; leaves = leaves; base_front = front_itself kept; after_front = inl (front_itself kept) }

-- ---- what was read

pub read_so : (result : Result Loaded KeepFault) (P Q : Loaded → Type 0) → ((loaded : Loaded) → P loaded → Q loaded) → IfOk result P → IfOk result Q
read_so (Ok loaded) P Q gives has = gives loaded has
read_so (Err fault) P Q gives has = tt

-- a fault is handed up
same_fault : {T : Type 0} (fault other : KeepFault) → ◌≡◌ {A = Result T KeepFault} (Err fault) (Err other) → fault ≡ other
same_fault fault other same = cc

pub fault_up : {T U : Type 0} (fault other : KeepFault) → IsErrOf {T = T} {E = KeepFault} (Err fault) other → IsErrOf {T = U} {E = KeepFault} (Err fault) other
fault_up {T} {U} fault other is = ap (λ (f : KeepFault). Err f) (same_fault {T = T} fault other is)
