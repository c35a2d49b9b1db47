use Rattle.std.proofs.Common.{◌∙◌, ap, sym}
use Rattle.lynx_cells.specs.Database.{ChangeSet, applied}
use Rattle.lynx_cells.proofs.Writes.{applied-empty}
use Rattle.lynx_rules.specs.Tables.{after_entry}
use Rattle.lynx_resting.proofs.redoing.changes_of.Goals as goal

-- a refused chain changes nothing
pub returns-in-Refused : goal.returns-in-Refused
returns-in-Refused c =
    let db = c.args.cells.now.database in
    ap (λ (changes : ChangeSet). applied changes db) c.new.ensures ∙ applied-empty db
    ∙ sym (ap (after_entry c.args.set.now db) c.in-Refused.is)
