use Rattle.std.proofs.Common.{◌∙◌, ◌++◌, ◌∷◌, [], List, ap, sym, append_assoc}
use Rattle.lynx_entry.specs.declared.event.Event.{Event}
use Rattle.lynx_lines.proofs.Parts.{on_err}
use Rattle.lynx_report.proofs.RunLemmas.{lines_on, world_on}
use Rattle.lynx_report.proofs.Stops.{lines_cut}
use Rattle.lynx_report.proofs.run.run_events.Goals as goal

pub loop-event-preserved : goal.loop-event-preserved
loop-event-preserved g c =
    let done = c.loop-event.yielded in
    let event = c.in-Some.event in
    let is = c.loop-event.invariant in
    record {
      worlds = world_on _ _ _ done event is.worlds c.in_ok-run_and_write.ensures.worlds;
      lines = lines_on _ _ _ c.args.world.now _ done event is.worlds is.lines c.in_ok-run_and_write.ensures.lines;
      split = is.split ∙ ap (λ (rest : List Event). done ++ rest) c.in-Some.ensures.steps.0 ∙ sym (append_assoc done (event ∷ []) c.next.new.self.rest.items);
    }

pub returns-in_err-run_and_write-clause-part : goal.returns-in_err-run_and_write-clause-part
returns-in_err-run_and_write-clause-part g c =
    let done = c.loop-event.yielded in
    let is = c.loop-event.invariant in
    on_err c.from_residual.result
    (lines_cut _ _ _ c.args.world.now c.loop-event.world c.args.events.items done c.next.new.self.rest.items c.in-Some.event is.worlds
    (is.split ∙ ap (λ (rest : List Event). done ++ rest) c.in-Some.ensures.steps.0)
    is.lines c.in_err-run_and_write.ensures.part)
