use Rattle.std.proofs.Common.{◌+◌, drop, ap, sym, length, arith}
use Rattle.std.proofs.lemmas.Bool.{ltb-true}
use Rattle.lynx_text.proofs.Texts.{tables_lines-past}
use Rattle.lynx_reasons.proofs.HopLines.{tables_one_less}
use Rattle.lynx_reasons.proofs.hop_lines.lines_of_tables.Goals as goal
use Rattle.lynx_reasons.proofs.hop_lines.lines_of_tables.Goals.{in-Some, in_default}

pub overflow_add-lines : goal.overflow_add-lines
overflow_add-lines c =
    let found = c.in-Some.ensures.lookup in
    let shards = c.in-Some.shards.now in
    let left = tables_one_less c.args.names.now c.args.tables.now c.loop-place.place shards c.loop-place-test.true (ltb-true _ _ (sym found.0)) (found.3.1 shards) in
    let whole = c.loop-place.invariant in
    omega (arith, left, whole, c.requires, c.len.ensures)

pub overflow_add-lines-in-Some : goal.overflow_add-lines-in-Some
overflow_add-lines-in-Some c =
    let found = c.in-Some.ensures.lookup in
    let shards = c.in-Some.shards.now in
    let left = tables_one_less c.args.names.now c.args.tables.now c.loop-place.place shards c.loop-place-test.true (ltb-true _ _ (sym found.0)) (found.3.1 shards) in
    let whole = c.loop-place.invariant in
    omega (arith, left, whole, c.requires, c.len.ensures)

pub loop-place-preserved : goal.loop-place-preserved
loop-place-preserved c =
    let names = c.args.names.now in
    let tables = c.args.tables.now in
    let i = c.loop-place.place in
    let whole = c.loop-place.invariant in
    elim c.match-get.branch [
      | in-Some w ↦
          let found = w.in-Some.ensures.lookup in
          let shards = w.in-Some.shards.now in
          let left = tables_one_less names tables i shards c.loop-place-test.true (ltb-true _ _ (sym found.0)) (found.3.1 shards) in
          omega (arith, left, whole, w.lines-is, w.len.ensures)
      | in_default w ↦
          let left = ap length (tables_lines-past (drop i names) (drop (i + 1) names) tables i w.in_default.ensures.lookup.3) in
          omega (arith, left, whole, w.lines-is)
    ]
