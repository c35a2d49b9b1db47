use Rattle.std.proofs.Common.{◌≡◌, ◌+◌, ◌-◌, ◌≤◌, ap, refl, sym, ◌∙◌, length, arith}
use Rattle.std.proofs.lemmas.Result.{err_from_is_err_and}
use Rattle.lynx_set.specs.Plain.{plain_program}
use Rattle.lynx_text.specs.Parts.{parts}
use Rattle.lynx_text.specs.Ranges.{goes_range, next_parameter, next_range}
use Rattle.lynx_text.proofs.Loops.{parts_more, parts_fail, parts_done, Fails-from}
use Rattle.lynx_text.proofs.reading.read_ranges.Goals as goal

pub range_lines-init : goal.range_lines-init
range_lines-init c = record {
  count = omega (arith, ap length c.requires.none);
  names = refl;
  hops = refl;
  shrinks = omega arith;
  rest = ap (λ n. parts (goes_range c.args.version) next_range (8 - n) (plain_program c.args.program.now) c.args.lines.now) (ap length c.requires.none);
}

pub range_lines-preserved : goal.range_lines-preserved
range_lines-preserved c =
    let added = c.in_ok-add_range.ensures in
    let names : c.add_range.new.program.names ≡ c.args.program.now.names = added.names ∙ c.range_lines.invariant.names in
    let count : length c.add_range.new.program.ranges ≤ next_parameter c.add_range.new.program.ranges = omega (arith, added.count, added.behind, c.range_lines.invariant.count) in
    record {
      count = count;
      names = names;
      hops = added.hops ∙ c.range_lines.invariant.hops;
      shrinks = omega (arith, added.shrinks, c.range_lines.invariant.shrinks);
      rest = parts_more (goes_range c.args.version) next_range 8 (length c.range_lines.program.ranges) (length c.add_range.new.program.ranges) (plain_program c.range_lines.program) (plain_program c.add_range.new.program) c.range_lines.lines c.add_range.new.lines _
          (sym c.is_range_next.ensures ∙ c.range_lines-test.true) added.value added.count (omega (arith, count, added.within, ap length names, c.requires.few)) c.range_lines.invariant.rest;
    }

pub returns-in_err-add_range-clause-value : goal.returns-in_err-add_range-clause-value
returns-in_err-add_range-clause-value c =
    let p = err_from_is_err_and c.from_residual.result c.from_residual.ensures.1 in
    rw (p.1, p.2) (Fails-from c.in_err-add_range.field-0.0 (next_range (plain_program c.range_lines.program) c.range_lines.lines) _
    (λ none. parts_fail (goes_range c.args.version) next_range _ (plain_program c.range_lines.program) c.range_lines.lines _ (sym c.is_range_next.ensures ∙ c.range_lines-test.true) none c.range_lines.invariant.rest)
    c.in_err-add_range.ensures.value)

pub returns-clause-value : goal.returns-clause-value
returns-clause-value c =
    parts_done (goes_range c.args.version) next_range _ (plain_program c.range_lines.program) c.range_lines.lines _ (sym c.is_range_next.ensures ∙ c.range_lines-test.false) c.range_lines.invariant.rest
