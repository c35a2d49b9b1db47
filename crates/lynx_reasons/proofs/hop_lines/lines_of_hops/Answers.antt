use Rattle.std.proofs.Common.{ap, arith}
use Rattle.std.proofs.lemmas.List.Sums.{sum_by-drop_more}
use Rattle.lynx_reasons.specs.inner.Counts.{lines_of_hop}
use Rattle.lynx_reasons.proofs.hop_lines.lines_of_hops.Goals as goal

pub overflow_add-lines : goal.overflow_add-lines
overflow_add-lines c =
    let left = sum_by-drop_more lines_of_hop c.args.hops.now c.loop-hop.hop-index c.hop-item.result c.loop-hop-test.true in
    let own = ap lines_of_hop c.hop-item.is in
    let whole = c.loop-hop.invariant in
    omega (arith, left, own, whole, c.requires, c.lines_of_hop-lines.ensures)

pub loop-hop-preserved : goal.loop-hop-preserved
loop-hop-preserved c =
    let left = sum_by-drop_more lines_of_hop c.args.hops.now c.loop-hop.hop-index c.hop-item.result c.loop-hop-test.true in
    let own = ap lines_of_hop c.hop-item.is in
    let whole = c.loop-hop.invariant in
    omega (arith, left, own, whole, c.lines_of_hop-lines.ensures)
