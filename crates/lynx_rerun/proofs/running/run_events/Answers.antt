use Rattle.std.proofs.Common.{◌∙◌, ◌++◌, ◌∷◌, [], List, ap, sym, append_assoc}
use Rattle.lynx_entry.specs.declared.event.Event.{Event}
use Rattle.lynx_rerun.proofs.Lines.{has_run_more}
use Rattle.lynx_rerun.proofs.running.run_events.Goals as goal

pub loop-event-preserved : goal.loop-event-preserved
loop-event-preserved g c =
    let done = c.loop-event.yielded in
    let event = c.in-Some.event in
    let is = c.loop-event.invariant in
    record {
      ran = has_run_more g.K.Keeper.terms c.args.set.now done event _ _ _ _ _ _ is.ran c.in_ok-run_and_write.ensures;
      split = is.split ∙ ap (λ (rest : List Event). done ++ rest) c.in-Some.ensures.steps.0 ∙ sym (append_assoc done (event ∷ []) c.next.new.self.rest.items);
    }
