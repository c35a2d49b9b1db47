use Rattle.std.proofs.Common.{true, ◌∙◌, sym, subst}
use Rattle.std.specs.Prelude.{IfErr, OnOk, is_ok}
use Rattle.lynx_store_files.specs.Closed.{AreClosed, FailsAt}
use Rattle.lynx_store_files.proofs.Closings.{at_next, fails_now, not_ok, one_more}
use Rattle.lynx_store_files.proofs.closing.close_all.Goals.{in-Ok, in-Err, in-Err+else-is_first}
use Rattle.lynx_store_files.proofs.closing.close_all.Goals as goal

pub loop-keeper-preserved : goal.loop-keeper-preserved
loop-keeper-preserved g c =
    let Closed = g.S.Stores.store_terms.closed in
    let all = c.args.keepers.items in
    let loop = c.loop-keeper in
    let is = loop.invariant in
    let items = c.in-Some.ensures.steps.0 in
    let left = c.next.new.self.rest.items in
    let keeper = c.in-Some.keeper in
    let Well = AreClosed Closed left → AreClosed Closed all in
    let place = at_next all loop.keeper-iterator.rest.items left loop.number c.saturating_add-number.result keeper items c.saturating_add-number.ensures is.place in
    elim c.match-close.branch [
      | in-Ok w ↦
          let well = subst (λ r. Closed keeper (is_ok r)) w.in-Ok.is c.close.ensures.told in
          record {
            well = subst (λ r. OnOk r Well) (sym w.closed-is) (one_more (λ k. Closed k true) all loop.keeper-iterator.rest.items left keeper loop.closed items well is.well);
            failed = subst (λ r. IfErr r (λ told. FailsAt Closed all told.0)) (sym w.closed-is) is.failed;
            place = place;
          }
      | in-Err w ↦
          let failed = subst (λ r. Closed keeper (is_ok r)) w.in-Err.is c.close.ensures.told in
          record {
            well = subst (λ r. OnOk r Well) (sym w.closed-is) tt;
            failed = subst (λ r. IfErr r (λ told. FailsAt Closed all told.0)) (sym w.closed-is)
                (fails_now Closed all loop.keeper-iterator.rest.items left loop.number w.at.result keeper items (w.at.ensures ∙ w.min.ensures) is.place failed);
            place = place;
          }
      | in-Err+else-is_first w ↦ record {
        well = subst (λ r. OnOk r Well) (sym w.closed-is) (not_ok Well loop.closed (sym c.is_ok-is_first.ensures.value ∙ w.if-is_first.false));
        failed = subst (λ r. IfErr r (λ told. FailsAt Closed all told.0)) (sym w.closed-is) is.failed;
        place = place;
      }
    ]
