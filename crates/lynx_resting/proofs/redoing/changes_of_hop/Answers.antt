use Rattle.std.proofs.Common.{◌∙◌, ap, sym}
use Rattle.lynx_cells.specs.Database.{ChangeSet, applied}
use Rattle.lynx_cells.proofs.Writes.{applied-empty}
use Rattle.lynx_hops.specs.Meaning.{HopOutcome}
use Rattle.lynx_rules.specs.Tables.{database_after}
use Rattle.lynx_resting.proofs.redoing.changes_of_hop.Goals as goal

-- the hop refused
pub returns-in-Err-Refused : goal.returns-in-Err-Refused
returns-in-Err-Refused c =
    let db = c.args.cells.now.database in
    ap (λ (changes : ChangeSet). applied changes db) c.new.ensures ∙ applied-empty db
    ∙ sym (ap (λ (outcome : HopOutcome). database_after outcome db)
    (c.run_hop.ensures.refused c.in-Err-Refused.field-0-0 (let is = c.in-Err-Refused.is in let fault = c.in-Err-Refused.field-0-is in cc)))
