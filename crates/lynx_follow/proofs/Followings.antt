-- What was kept, with the entries that follow.
use Rattle.std.proofs.Common.{◌≡◌, ◌++◌, ◌∙◌, ap, fold, sym}
use Rattle.std.proofs.lemmas.List.Sums.{fold-append}
use Rattle.std.specs.FinMap as map
use Rattle.lynx_cells.specs.Database.{ChangeSet, Database, applied, empty_database}
use Rattle.lynx_entry.specs.Entry.{History}
use Rattle.lynx_hops.proofs.Outcomes.{applied_none}
use Rattle.lynx_keep.specs.Kept.{KeptState, with_entries}
use Rattle.lynx_rules.specs.Tables.{after_entry, tables_of}
use Rattle.lynx_server.specs.Keeping.{kept_of}
use Rattle.lynx_set.specs.Set.{Set}
use Rattle.lynx_follow.specs.Following.{Notes}

-- the cells after the entries that follow are those of all
pub tables_on : (set : Set) (front entries : History) (before after : Database) → before ≡ tables_of set front →
    after ≡ fold (after_entry set) before entries → after ≡ tables_of set (front ++ entries)
tables_on set front entries before after is done =
    done ∙ ap (λ db. fold (after_entry set) db entries) is ∙ sym (fold-append (after_entry set) empty_database front entries)

-- what is kept with the changes that were noted since is what all leave
pub kept_on : (set : Set) (front entries : History) (noted changes : ChangeSet) (before after : Database) → noted ≡ map.empty →
    before ≡ tables_of set front → after ≡ fold (after_entry set) before entries → Notes noted changes before after →
    with_entries (kept_of set front) entries changes ≡ kept_of set (front ++ entries)
kept_on set front entries noted changes before after none is done notes =
    let start : applied noted (tables_of set front) ≡ before =
    ap (λ (c : ChangeSet). applied c (tables_of set front)) none ∙ applied_none (tables_of set front) ∙ sym is in
    let cells : applied changes (tables_of set front) ≡ tables_of set (front ++ entries) =
    notes (tables_of set front) start ∙ tables_on set front entries before after is done in
    ap (λ db. let kept : KeptState = record { entries = front ++ entries; cells = db } in kept) cells
