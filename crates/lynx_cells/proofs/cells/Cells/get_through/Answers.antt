use Rattle.std.proofs.Common.{ℕ, Option, sym, ap, ◌∙◌}
use Rattle.std.specs.Option.{unwrap_or}
use Rattle.lynx_cells.specs.Database.{value_at}
use Rattle.lynx_cells.proofs.Writes.{value_at-applied}
use Rattle.lynx_cells.proofs.cells.Cells.get_through.Goals as goal

pub returns-in-Some : goal.returns-in-Some
returns-in-Some c =
    ap (λ (o : Option ℕ). unwrap_or o (value_at c.args.self.now.database c.args.table c.args.key)) c.in-Some.ensures
    ∙ sym (value_at-applied c.args.changes.now c.args.self.now.database c.args.table c.args.key)

pub returns-in-None : goal.returns-in-None
returns-in-None c =
    c.get-in-None.ensures.value
    ∙ ap (λ (o : Option ℕ). unwrap_or o (value_at c.args.self.now.database c.args.table c.args.key)) c.in-None.ensures
    ∙ sym (value_at-applied c.args.changes.now c.args.self.now.database c.args.table c.args.key)
