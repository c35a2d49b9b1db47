use Rattle.std.proofs.Common.{◌∙◌, ◌++◌, ◌∷◌, [], List, ap, sym, append_assoc}
use Rattle.lynx_entry.specs.declared.event.Event.{Event}
use Rattle.lynx_report.proofs.RunLemmas.{outcomes_on, world_on}
use Rattle.lynx_report.proofs.running.run_events.Goals as goal

pub loop-event-preserved : goal.loop-event-preserved
loop-event-preserved c =
    let done = c.loop-event.yielded in
    let event = c.in-Some.event in
    let is = c.loop-event.invariant in
    record {
      worlds = world_on _ _ _ done event is.worlds c.in_ok-outcome.ensures.worlds;
      outcomes = outcomes_on _ _ done event _ _ _ is.worlds is.outcomes c.in_ok-outcome.ensures.outcome c.in_ok-push.ensures.ok;
      split = is.split ∙ ap (λ (rest : List Event). done ++ rest) c.in-Some.ensures.steps.0 ∙ sym (append_assoc done (event ∷ []) c.next.new.self.rest.items);
    }
