use Rattle.std.proofs.Common.{arith, ◌≡◌, ◌≤◌, ◌++◌, ℕ, List, take, length, map, sym, ap, ◌∙◌, subst, append-nil}
use Rattle.std.specs.declared.ops.Bound.TheVariants.{Included}
use Rattle.std.specs.BTreeMap.Range.{entries_between}
use Rattle.std.specs.FinMap as maps
use Rattle.std.proofs.lemmas.List.{take_all}
use Rattle.std.proofs.Math.Seq.{take-append_seam}
use Rattle.lynx_cells.specs.Contents.{Contents}
use Rattle.lynx_cells.specs.Database.{cell_cmp}
use Rattle.lynx_cells.specs.Ranges.{cells_between, key_and_value}
use Rattle.lynx_cells.proofs.Filters.{filters_swap}
use Rattle.lynx_cells.proofs.Slots.{shown, entries-database}
use Rattle.lynx_cells.proofs.cells.Cells.list_between.Goals.{in-None, in-Some+then-len-most}
use Rattle.lynx_cells.proofs.cells.Cells.list_between.Goals as goal

pub returns : goal.returns
returns c =
    let low = ap (λ (cell : ℕ × ℕ). entries_between cell_cmp (Included cell) (Included (c.args.table, c.args.last)) c.self.inside.slots.entries) c.new.ensures.start in
    let high = ap (λ (cell : ℕ × ℕ). entries_between cell_cmp (Included c.new.result.start) (Included cell) c.self.inside.slots.entries) c.new.ensures.end in
    let between = c.range-key-items.ensures.between c.new.ensures.exhausted in
    let all = ap (λ (slots : List ((ℕ × ℕ) × ℕ)). map key_and_value (shown slots)) (c.into_iter-key-iterator.ensures.into_iter_gives ∙ between ∙ high ∙ low)
    ∙ ap (map key_and_value) (filters_swap _ _ c.self.inside.slots.entries)
    ∙ ap (λ (entries : List ((ℕ × ℕ) × ℕ)). map key_and_value (entries_between cell_cmp (Included (c.args.table, c.args.first)) (Included (c.args.table, c.args.last)) entries))
    (sym (entries-database c.self.inside.slots c.range-key-items.ensures.ordered)
    ∙ ap (λ (contents : Contents). maps.entries contents.database) c.self.view_is) in
    let wanted = cells_between c.args.table c.args.first c.args.last c.args.self.now.database in
    elim c.match-next.branch [
      | in-None w ↦
          let whole = sym (append-nil c.loop-key.list.items)
          ∙ ap (λ (rest : List ((ℕ × ℕ) × ℕ)). c.loop-key.list.items ++ map key_and_value (shown rest)) (sym w.in-None.ensures.steps.0)
          ∙ c.loop-key.invariant.0 ∙ all in
          whole ∙ sym (take_all c.args.most wanted (subst (λ (list : List (ℕ × ℕ)). length list ≤ c.args.most) whole c.loop-key.invariant.1))
      | in-Some+then-len-most w ↦
          let full : length c.loop-key.list.items ≡ c.args.most = omega (arith, c.loop-key.list.ok, w.len.ensures, w.if-len-most.true) in
          sym (take-append_seam c.loop-key.list.items (map key_and_value (shown c.loop-key.key-iterator)))
          ∙ ap (λ (count : ℕ). take count (c.loop-key.list.items ++ map key_and_value (shown c.loop-key.key-iterator))) full
          ∙ ap (take c.args.most) (c.loop-key.invariant.0 ∙ all)
    ]
