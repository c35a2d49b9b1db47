use Rattle.std.proofs.Common.{◌≡◌, ap, sym, ◌∙◌, length}
use Rattle.std.proofs.lemmas.Result.{err_from_is_err_and}
use Rattle.lynx_text.specs.Pieces.{begins}
use Rattle.lynx_set.specs.Plain.{plain_set}
use Rattle.lynx_text.specs.Parts.{goes_program, next_program}
use Rattle.lynx_text.proofs.Loops.{parts_more, parts_fail, parts_done, Fails-from}
use Rattle.lynx_text.proofs.reading.read_programs.Goals as goal
use Rattle.lynx_text.proofs.reading.read_programs.Goals.{After-begins_with}

asked : (c : After-begins_with) → c.begins_with.result ≡ goes_program c.programs.lines
asked c = c.begins_with.ensures ∙ ap (begins c.programs.lines) c.as_slice.ensures

pub programs-preserved : goal.programs-preserved
programs-preserved c = record {
  few = c.in_ok-read_program.ensures.few;
  rest = parts_more goes_program next_program 64 (length c.programs.set.programs) (length c.read_program.new.set.programs) (plain_set c.programs.set) (plain_set c.read_program.new.set) c.programs.lines c.read_program.new.lines _
      (sym (asked (goal.at.programs-preserved c).After-begins_with) ∙ c.programs-test.true) c.in_ok-read_program.ensures.value c.in_ok-read_program.ensures.count c.in_ok-read_program.ensures.few c.programs.invariant.rest;
}

pub returns-in_err-read_program : goal.returns-in_err-read_program
returns-in_err-read_program c =
    let p = err_from_is_err_and c.from_residual.result c.from_residual.ensures.1 in
    rw (p.1, p.2) (Fails-from c.in_err-read_program.field-0.0 (next_program (plain_set c.programs.set) c.programs.lines) _
    (λ none. parts_fail goes_program next_program _ (plain_set c.programs.set) c.programs.lines _ (sym (asked (goal.at.returns-in_err-read_program c).After-begins_with) ∙ c.programs-test.true) none c.programs.invariant.rest)
    c.in_err-read_program.ensures.value)

pub returns : goal.returns
returns c =
    parts_done goes_program next_program _ (plain_set c.programs.set) c.programs.lines _ (sym (asked (goal.at.returns c).After-begins_with) ∙ c.programs-test.false) c.programs.invariant.rest
