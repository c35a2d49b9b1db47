use Rattle.std.proofs.Common.{◌∙◌, ◌++◌, List, Option, ap, arith, get_or, length, sym, take_all}
use Rattle.std.specs.List.{filter_map}
use Rattle.std.specs.Prelude.{option_to_list}
use Rattle.lynx_carry.proofs.Takes.{filter_map_take_next}
use Rattle.lynx_carry.proofs.Wholes.{whole_named}
use Rattle.lynx_carry.specs.Naming.{named_cell}
use Rattle.lynx_carry.specs.declared.naming.NamedCell.{NamedCell}
use Rattle.lynx_carry.proofs.naming.named_cells.Goals as goal

pub loop-cell-preserved : goal.loop-cell-preserved
loop-cell-preserved c =
    let name = named_cell c.args.set.now in
    let cells = c.args.cells.now in
    let index = c.loop-cell.cell-index in
    let item = c.cell-item.result in
    c.in_ok-add.ensures
    ∙ ap (λ (one : Option NamedCell). c.loop-cell.named.items ++ option_to_list one) (c.named_cell.ensures ∙ ap name c.cell-item.is)
    ∙ ap (λ (named : List NamedCell). named ++ option_to_list (name (get_or cells index item))) c.loop-cell.invariant
    ∙ sym (filter_map_take_next name cells index item (omega (arith, c.loop-cell-test.true)))

pub returns-clause-whole : goal.returns-clause-whole
returns-clause-whole c =
    let name = named_cell c.args.set.now in
    let cells = c.args.cells.now in
    let all = c.loop-cell.invariant ∙ ap (filter_map name) (take_all c.loop-cell.cell-index cells (omega (arith, c.loop-cell-test.false))) in
    λ len. all ∙ whole_named c.args.set.now cells (sym (ap length all) ∙ len)
