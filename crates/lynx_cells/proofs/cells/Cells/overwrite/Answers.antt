use Rattle.std.proofs.Common.{ℕ, is_some, sym, ap, ◌∙◌}
use Rattle.std.proofs.lemmas.Bool.{false≢true}
use Rattle.std.specs.FinSet as set
use Rattle.lynx_cells.specs.Database.{with_value}
use Rattle.lynx_cells.specs.Contents.{Contents, contents_of}
use Rattle.lynx_cells.proofs.Slots.{contains-staged, database-overwrite}
use Rattle.lynx_cells.proofs.cells.Cells.overwrite.Goals as goal
use Rattle.lynx_cells.proofs.cells.Cells.overwrite.Goals.{in-Some, in_default}

pub returns-clause-database : goal.returns-clause-database
returns-clause-database c =
    let slots = c.self.inside.slots in
    let cell : ℕ × ℕ = (c.args.table, c.args.key) in
    elim c.match-get_mut.branch [
      | in-Some w ↦
          let new = c.get_mut.follows.lender c.args.value in
          let updates = (c.get_mut.follows.holds c.args.value).3 (sym (ap is_some w.in-Some.ensures.value)) in
          ap (λ inside. (contents_of inside.slots.entries).database) w.self-inside-is
          ∙ database-overwrite slots new c.args.table c.args.key c.args.value updates
          ∙ ap (λ (contents : Contents). with_value contents.database c.args.table c.args.key c.args.value) c.self.view_is
      | in_default w ↦
          absurd (false≢true (ap is_some w.in_default.ensures.value
          ∙ sym (contains-staged slots.entries cell)
          ∙ ap (λ (contents : Contents). set.contains contents.staged cell) c.self.view_is
          ∙ c.requires))
    ]
