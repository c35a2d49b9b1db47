use Rattle.std.proofs.Common.{◌≡◌, ◌+◌, ap, sym, ◌∙◌, length, arith}
use Rattle.std.proofs.lemmas.Result.{err_from_is_err_and}
use Rattle.lynx_text.specs.Pieces.{begins}
use Rattle.lynx_set.specs.Plain.{plain_set, plain_program}
use Rattle.lynx_text.specs.Parts.{goes_hop, next_hop}
use Rattle.lynx_text.proofs.Sets.{hops_plain}
use Rattle.lynx_text.proofs.Loops.{parts_more, parts_fail, parts_done, Fails-from}
use Rattle.lynx_text.proofs.reading.read_hops.Goals as goal
use Rattle.lynx_text.proofs.reading.read_hops.Goals.{After-begins_with}

asked : (c : After-begins_with) → c.begins_with.result ≡ goes_hop c.hops.lines
asked c = c.begins_with.ensures ∙ ap (begins c.hops.lines) c.as_slice.ensures

pub hops-preserved : goal.hops-preserved
hops-preserved c = record {
  shrinks = omega (arith, c.in_ok-read_hop.ensures.shrinks, c.hops.invariant.shrinks);
  rest = parts_more goes_hop (next_hop (plain_set c.args.set.now)) 8 (length (plain_program c.hops.program).hops) (length (plain_program c.read_hop.new.program).hops) (plain_program c.hops.program) (plain_program c.read_hop.new.program) c.hops.lines c.read_hop.new.lines _
      (sym (asked (goal.at.hops-preserved c).After-begins_with) ∙ c.hops-test.true) c.in_ok-read_hop.ensures.value (hops_plain c.read_hop.new.program.hops ∙ c.in_ok-read_hop.ensures.count ∙ ap (λ n. n + 1) (sym (hops_plain c.hops.program.hops))) (omega (arith, hops_plain c.read_hop.new.program.hops, c.in_ok-read_hop.ensures.few)) c.hops.invariant.rest;
}

pub returns-in_err-read_hop-clause-value : goal.returns-in_err-read_hop-clause-value
returns-in_err-read_hop-clause-value c =
    let p = err_from_is_err_and c.from_residual.result c.from_residual.ensures.1 in
    rw (p.1, p.2) (Fails-from c.in_err-read_hop.field-0.0 ((next_hop (plain_set c.args.set.now)) (plain_program c.hops.program) c.hops.lines) _
    (λ none. parts_fail goes_hop (next_hop (plain_set c.args.set.now)) _ (plain_program c.hops.program) c.hops.lines _ (sym (asked (goal.at.returns-in_err-read_hop-clause-value c).After-begins_with) ∙ c.hops-test.true) none c.hops.invariant.rest)
    c.in_err-read_hop.ensures.value)

pub returns-clause-value : goal.returns-clause-value
returns-clause-value c =
    parts_done goes_hop (next_hop (plain_set c.args.set.now)) _ (plain_program c.hops.program) c.hops.lines _ (sym (asked (goal.at.returns-clause-value c).After-begins_with) ∙ c.hops-test.false) c.hops.invariant.rest
