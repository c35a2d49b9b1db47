-- What commands tell of stores, whatever keepers the copies of these have.
use Rattle.std.proofs.Common.{ℕ, List, Option, Result, Ok, Err}
use Rattle.std.specs.Prelude.{IfOk}
use Rattle.sqlite.specs.State.{State}
use Rattle.lynx_entry.specs.Entry.{History}
use Rattle.lynx_keep.specs.Kept.{Terms}
use Rattle.lynx_set.specs.Set.{Set}
use Rattle.lynx_audit.specs.Audits.{AreOpenedTo}
use Rattle.lynx_cli.specs.Copied.{AreHistoriesIn}
use Rattle.lynx_cli.specs.Folders.{HasAuditedFolder, HasAuditedKeepers, HasListedOwed, HasListedOwedIn}

-- an audit was told
pub audit_told : {C K E : Type 0} (copied_from : List ℕ → C → Type 0) (state_of : C → State) (folder : List ℕ) (r : Result ℕ E) (terms : Terms K) (set : Set)
    (keepers : List K) (old new : Option (List ℕ)) →
    ((histories : List History) → AreOpenedTo terms set keepers histories → AreHistoriesIn copied_from state_of folder set histories) →
    IfOk r (HasAuditedKeepers terms set keepers old new) → IfOk r (HasAuditedFolder copied_from state_of folder old new)
audit_told copied_from state_of folder (Err fault) terms set keepers old new are audited = tt
audit_told copied_from state_of folder (Ok status) terms set keepers old new are audited = record {
  set = set;
  histories = audited.audited.kept.histories;
  are = are audited.audited.kept.histories audited.audited.kept.opened;
  world = audited.audited.world;
  woven = audited.audited.kept.woven;
  promises = audited.audited.promises;
  explained = audited.explained;
  right = audited.audited.right;
  ordered = audited.audited.ordered;
  sizes = audited.audited.sizes;
  told = audited.audited.told;
  written = audited.audited.written;
  status_is = audited.status_is;
}

-- what is owed was told
pub owed_told : {C K E : Type 0} (copied_from : List ℕ → C → Type 0) (state_of : C → State) (folder : List ℕ) (r : Result ℕ E) (terms : Terms K) (set : Set)
    (keepers : List K) (old new : Option (List ℕ)) →
    ((histories : List History) → AreOpenedTo terms set keepers histories → AreHistoriesIn copied_from state_of folder set histories) →
    IfOk r (HasListedOwed terms set keepers old new) → IfOk r (HasListedOwedIn copied_from state_of folder old new)
owed_told copied_from state_of folder (Err fault) terms set keepers old new are listed = tt
owed_told copied_from state_of folder (Ok status) terms set keepers old new are listed = record {
  set = set;
  histories = listed.told.kept.histories;
  are = are listed.told.kept.histories listed.told.kept.opened;
  world = listed.told.world;
  woven = listed.told.kept.woven;
  owed = listed.told.owed;
  all = listed.told.all;
  written = listed.told.written;
  status_is = listed.status_is;
}
