use Rattle.std.proofs.Common.{◌≡◌, ℕ, true, false, Option, Some, None, is_some, refl, sym, ap, ◌∙◌, subst}
use Rattle.std.proofs.lemmas.Bool.{false≢true}
use Rattle.std.specs.FinSet as set
use Rattle.lynx_cells.specs.Contents.{Contents}
use Rattle.lynx_cells.proofs.Slots.{contains-staged, database-add_slot, staged-update, insert-staged}
use Rattle.lynx_cells.proofs.cells.Cells.stage_cell.Goals as goal

none_of : (o : Option ℕ) → false ≡ is_some o → o ≡ None
none_of None h = refl
none_of (Some value) h = cc

pub returns-in_ok-insert-clause-database : goal.returns-in_ok-insert-clause-database
returns-in_ok-insert-clause-database c =
    let cell : ℕ × ℕ = (c.args.table, c.args.key) in
    database-add_slot c.self.inside.slots c.insert.new.self cell (none_of _ c.if-not-contains_key.ensures) c.in_ok-insert.ensures.updates
    ∙ ap (λ (contents : Contents). contents.database) c.self.view_is

pub returns-in_ok-insert-clause-staged : goal.returns-in_ok-insert-clause-staged
returns-in_ok-insert-clause-staged c =
    let cell : ℕ × ℕ = (c.args.table, c.args.key) in
    staged-update c.self.inside.slots c.insert.new.self cell 0 c.in_ok-insert.ensures.updates
    ∙ ap (λ (contents : Contents). set.insert contents.staged cell) c.self.view_is

pub returns-else-not-contains_key-clause-staged : goal.returns-else-not-contains_key-clause-staged
returns-else-not-contains_key-clause-staged c =
    let cell : ℕ × ℕ = (c.args.table, c.args.key) in
    let slots = c.self.inside.slots.entries in
    insert-staged c.args.self.now.staged cell
    (subst (λ (contents : Contents). set.contains contents.staged cell ≡ true) c.self.view_is (contains-staged slots cell ∙ sym c.if-not-contains_key.ensures))

-- memory fails only for a cell that had no slot
pub returns-in_err-insert-clause-staged_already : goal.returns-in_err-insert-clause-staged_already
returns-in_err-insert-clause-staged_already c has =
    let cell : ℕ × ℕ = (c.args.table, c.args.key) in
    absurd (false≢true (c.if-not-contains_key.ensures
    ∙ sym (contains-staged c.self.inside.slots.entries cell)
    ∙ ap (λ (contents : Contents). set.contains contents.staged cell) c.self.view_is
    ∙ has))
