use Rattle.std.proofs.Common.{◌++◌, sym, ap, ◌∙◌, append_assoc}
use Rattle.std.specs.List.{flat_map, range_with_len}
use Rattle.lynx_graph.proofs.Lists.{flat_map-range_more}
use Rattle.lynx_audit.specs.Sizes.{table_text}
use Rattle.lynx_audit.proofs.sizes.put_cells_lines.Goals as goal

pub loop-table-preserved : goal.loop-table-preserved
loop-table-preserved c =
    let text = table_text c.args.set.now c.args.cells.now in
    let table = c.loop-table.table in
    let before = c.args.text.now.items in
    c.in_ok-put_table.ensures
    ∙ ap (λ written. written ++ text table) c.loop-table.invariant
    ∙ append_assoc before (flat_map text (range_with_len 0 table)) (text table)
    ∙ ap (λ later. before ++ later) (sym (flat_map-range_more text table))
