use Rattle.std.proofs.Common.{◌++◌, ◌∷◌, [], List, ℕ, sym, ap, ◌∙◌, append_assoc}
use Rattle.std.proofs.lemmas.Result.{err_from_is_err_and}
use Rattle.lynx_lex.specs.Lines.{texts, joined}
use Rattle.lynx_lines.specs.Scripts.{event_words}
use Rattle.lynx_lines.proofs.EventLemmas.{event_line, event_are_words, no_words}
use Rattle.lynx_lex.proofs.NextLine.{same_line, line_taken}
use Rattle.lynx_lines.proofs.SpelledLemmas.{fails_so}
use Rattle.lynx_lines.proofs.script.read_line.Goals as goal
use Rattle.lynx_lex.proofs.Equal.{some_is, some_none}
use Rattle.lynx_set.specs.Lookups.{program_names}

pub returns-in_default-clause-only : goal.returns-in_default-clause-only
returns-in_default-clause-only c =
    rw c.new.ensures (λ event more fits is. some_none (sym (event_line c.args.set.now event c.args.text.now more fits is) ∙ sym c.in_default.ensures.value))

pub returns-in_err-words-clause-only : goal.returns-in_err-words-clause-only
returns-in_err-words-clause-only c =
    let p = err_from_is_err_and c.from_residual.result c.from_residual.ensures.1 in
    rw (p.1, p.2) (fails_so c.in_err-words.field-0.0 _ _
    (λ none event more fits is. none (event_words (program_names c.args.set.now) event) (event_are_words c.args.set.now event fits)
    (same_line c.args.text.now (sym c.in-Some.ensures.value) (event_line c.args.set.now event c.args.text.now more fits is)).0)
    (no_words c.in_err-words.field-0.0 c.in-Some.line.now c.in_err-words.ensures.exact c.in_err-words.ensures.only))

pub returns-in_err-event-clause-only : goal.returns-in_err-event-clause-only
returns-in_err-event-clause-only c =
    let p = err_from_is_err_and c.from_residual-in_err-event.result c.from_residual-in_err-event.ensures.1 in
    rw (p.1, p.2) (fails_so c.in_err-event.field-0.0 _ _
    (λ none event more fits is. none event fits (ap texts c.as_slice.ensures.value ∙ sym (some_is (event_words (program_names c.args.set.now) event) (texts c.in_ok-words.words.items)
    (c.in_ok-words.ensures.only (event_words (program_names c.args.set.now) event) (event_are_words c.args.set.now event fits)
    (same_line c.args.text.now (sym c.in-Some.ensures.value) (event_line c.args.set.now event c.args.text.now more fits is)).0))))
    c.in_err-event.ensures)

pub returns-clause-found : goal.returns-clause-found
returns-clause-found c =
    let words : List (List ℕ) = event_words (program_names c.args.set.now) c.in_ok-event.event in (
      c.in_ok-event.event,
      c.in_ok-event.ensures.0,
      c.in_ok-push.ensures.items,
      (line_taken c.args.text.now c.in-Some.line.now c.in-Some.rest.now (sym c.in-Some.ensures.value)).0
          ∙ ap (λ (bytes : List ℕ). bytes ++ 10 ∷ c.in-Some.rest.now) (c.in_ok-words.ensures.found.1 ∙ ap joined (sym (ap texts c.as_slice.ensures.value) ∙ c.in_ok-event.ensures.1))
          ∙ sym (append_assoc (joined words) (10 ∷ []) c.in-Some.rest.now),
    )
