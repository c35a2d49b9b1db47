use Rattle.std.proofs.Common.{◌∙◌, Some, sym, ap, subst, arith}
use Rattle.std.proofs.lemmas.Option.{slice_get-get_or}
use Rattle.lynx_weave.specs.inner.Judging.{AreMarked, AreWellTold, IsBadAt, JudgesItems, marks_at}
use Rattle.lynx_weave.specs.Rebuilt.{told_in}
use Rattle.lynx_weave.specs.Servers.{histories_of}
use Rattle.lynx_weave.proofs.Marking.{all_well, bad_in, counted_more, well_before_more}
use Rattle.lynx_weave.proofs.Servings.{many_told, told_there}
use Rattle.lynx_weave.proofs.judging.judge_all.Goals as goal

pub returns-in-Some : goal.returns-in-Some
returns-in-Some c =
    let histories = histories_of c.args.servers.now in
    let items = c.index-told-session.result in
    bad_in histories c.args.starts.now (told_in c.args.told.now) c.loop-session.session c.in-Some.place items.items c.loop-session.marks
    (told_there c.args.told.now c.loop-session.session items
    (slice_get-get_or c.args.told.now c.loop-session.session items (omega arith) ∙ ap Some (sym c.index-told-session.is)))
    c.loop-session.invariant.counted
    (subst (λ i. IsBadAt histories c.args.starts.now (marks_at c.loop-session.marks) i c.in-Some.place) c.as_slice.ensures.value
    (subst (JudgesItems histories c.args.starts.now c.as_slice.result.now c.loop-session.marks c.judge_items.new.marks) c.in-Some.is c.in_ok-place.ensures))

pub loop-session-preserved : goal.loop-session-preserved
loop-session-preserved c =
    let histories = histories_of c.args.servers.now in
    let items = c.index-told-session.result in
    let there = told_there c.args.told.now c.loop-session.session items
    (slice_get-get_or c.args.told.now c.loop-session.session items (omega arith) ∙ ap Some (sym c.index-told-session.is)) in
    let judged = subst (JudgesItems histories c.args.starts.now c.as_slice.result.now c.loop-session.marks c.judge_items.new.marks) c.in_default.is c.in_ok-place.ensures in
    record {
      well = well_before_more histories c.args.starts.now (told_in c.args.told.now) c.loop-session.session items.items there c.loop-session.invariant.well
          (subst (AreWellTold histories c.args.starts.now) c.as_slice.ensures.value judged.0);
      counted = counted_more histories (told_in c.args.told.now) c.loop-session.session items.items c.loop-session.marks c.judge_items.new.marks there
          c.loop-session.invariant.counted
          (subst (λ i. AreMarked histories c.loop-session.marks i c.judge_items.new.marks) c.as_slice.ensures.value judged.1);
    }

pub returns : goal.returns
returns c =
    all_well (histories_of c.args.servers.now) c.args.starts.now (told_in c.args.told.now) c.loop-session.session c.loop-session.marks
    (let many = many_told c.args.told.now in omega arith) c.loop-session.invariant.well c.loop-session.invariant.counted
