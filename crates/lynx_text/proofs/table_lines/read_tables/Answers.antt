use Rattle.std.proofs.Common.{◌≡◌, ap, sym, ◌∙◌, length}
use Rattle.std.proofs.lemmas.Result.{err_from_is_err_and}
use Rattle.lynx_text.specs.Pieces.{begins}
use Rattle.lynx_set.specs.Plain.{plain_set}
use Rattle.lynx_text.specs.Parts.{goes_table, next_table}
use Rattle.lynx_text.proofs.Loops.{parts_more, parts_fail, parts_done, Fails-from}
use Rattle.lynx_text.proofs.table_lines.read_tables.Goals as goal
use Rattle.lynx_text.proofs.table_lines.read_tables.Goals.{After-begins_with}

asked : (c : After-begins_with) → c.begins_with.result ≡ goes_table c.tables.lines
asked c = c.begins_with.ensures ∙ ap (begins c.tables.lines) c.as_slice.ensures

pub tables-preserved : goal.tables-preserved
tables-preserved c = record {
  few = c.in_ok-read_table.ensures.few;
  programs = c.in_ok-read_table.ensures.programs ∙ c.tables.invariant.programs;
  rest = parts_more goes_table next_table 64 (length c.tables.set.tables) (length c.read_table.new.set.tables) (plain_set c.tables.set) (plain_set c.read_table.new.set) c.tables.lines c.read_table.new.lines _
      (sym (asked (goal.at.tables-preserved c).After-begins_with) ∙ c.tables-test.true) c.in_ok-read_table.ensures.value c.in_ok-read_table.ensures.count c.in_ok-read_table.ensures.few c.tables.invariant.rest;
}

pub returns-in_err-read_table-clause-value : goal.returns-in_err-read_table-clause-value
returns-in_err-read_table-clause-value c =
    let p = err_from_is_err_and c.from_residual.result c.from_residual.ensures.1 in
    rw (p.1, p.2) (Fails-from c.in_err-read_table.field-0.0 (next_table (plain_set c.tables.set) c.tables.lines) _
    (λ none. parts_fail goes_table next_table _ (plain_set c.tables.set) c.tables.lines _ (sym (asked (goal.at.returns-in_err-read_table-clause-value c).After-begins_with) ∙ c.tables-test.true) none c.tables.invariant.rest)
    c.in_err-read_table.ensures.value)

pub returns-clause-value : goal.returns-clause-value
returns-clause-value c =
    parts_done goes_table next_table _ (plain_set c.tables.set) c.tables.lines _ (sym (asked (goal.at.returns-clause-value c).After-begins_with) ∙ c.tables-test.false) c.tables.invariant.rest
