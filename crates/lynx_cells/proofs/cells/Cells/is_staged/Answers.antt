use Rattle.std.proofs.Common.{ℕ, IsTrue, take_all, refl, sym, ap, ◌∙◌, subst}
use Rattle.std.proofs.lemmas.Bool.{false≢true}
use Rattle.std.proofs.lemmas.List.Elements.{All-more}
use Rattle.std.specs.FinSet as set
use Rattle.lynx_cells.specs.Contents.{Contents}
use Rattle.lynx_cells.proofs.Slots.{contains-staged}
use Rattle.lynx_cells.proofs.Staging.{HaveSlots, HaveSlots-from_staged, IsStaged-from_slots}
use Rattle.lynx_cells.proofs.cells.Cells.is_staged.Goals as goal

-- the change of this turn has no slot
pub returns-then-not-contains_key : goal.returns-then-not-contains_key
returns-then-not-contains_key c = (
  λ yes. absurd (false≢true yes),
  λ staged.
      let slots = HaveSlots-from_staged c.args.self.now c.args.changes.now c.list-table-items.result.now c.list-table-items.ensures staged in
      let here = slots c.loop-table.table-index c.loop-table-item.result c.loop-table-test.true in
      let item = subst (λ (t : ℕ × ℕ × ℕ). IsTrue (set.contains c.args.self.now.staged (t.0, t.1))) (sym c.loop-table-item.is) here in
      let cell : ℕ × ℕ = (c.loop-table-item.result.0, c.loop-table-item.result.1) in
      c.if-not-contains_key.ensures
      ∙ sym (contains-staged c.self.inside.slots.entries cell)
      ∙ ap (λ (contents : Contents). set.contains contents.staged cell) c.self.view_is
      ∙ item,
)

-- it has one
pub loop-table-preserved : goal.loop-table-preserved
loop-table-preserved c =
    let cell : ℕ × ℕ = (c.loop-table-item.result.0, c.loop-table-item.result.1) in
    let item : IsTrue (set.contains c.args.self.now.staged cell) =
    sym (ap (λ (contents : Contents). set.contains contents.staged cell) c.self.view_is)
    ∙ contains-staged c.self.inside.slots.entries cell
    ∙ sym c.if-not-contains_key.ensures in
    All-more (λ (t : ℕ × ℕ × ℕ). IsTrue (set.contains c.args.self.now.staged (t.0, t.1))) c.list-table-items.result.now c.loop-table.table-index c.loop-table-item.result c.loop-table-test.true c.loop-table.invariant
    (subst (λ (t : ℕ × ℕ × ℕ). IsTrue (set.contains c.args.self.now.staged (t.0, t.1))) c.loop-table-item.is item)

-- each change has one
pub returns : goal.returns
returns c =
    let items = c.list-table-items.result.now in
    let slots : HaveSlots c.args.self.now.staged items =
    subst (HaveSlots c.args.self.now.staged) (take_all c.loop-table.table-index items c.loop-table-test.false) c.loop-table.invariant in
    (λ _. IsStaged-from_slots c.args.self.now c.args.changes.now items c.list-table-items.ensures slots, λ _. refl)
