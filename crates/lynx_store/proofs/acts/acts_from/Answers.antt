use Rattle.std.proofs.Common.{ap, take, ◌∙◌, arith}
use Rattle.lynx_store.specs.Acts.{added, acts_from}
use Rattle.lynx_store.proofs.Batches.{acts_more}
use Rattle.lynx_store.proofs.RowsRead.{take_whole}
use Rattle.lynx_store.proofs.acts.acts_from.Goals as goal

pub loop-entry-preserved : goal.loop-entry-preserved
loop-entry-preserved c =
    let so_far = c.loop-entry.invariant in
    let pushed = c.in_ok-push_act.ensures in
    record {
      next = omega (arith, so_far.next);
      acts = pushed ∙ ap (λ acts. added acts c.act_at.result) so_far.acts
          ∙ ap (added (acts_from c.args.place (take c.loop-entry.entry-index c.args.entries.now))) c.act_at.ensures
          ∙ acts_more c.args.place c.args.entries.now c.loop-entry.entry-index c.entry-item.result c.loop-entry.next so_far.next c.loop-entry-test.true c.entry-item.is;
    }

pub returns : goal.returns
returns c =
    let past = c.loop-entry-test.false in
    c.loop-entry.invariant.acts ∙ ap (acts_from c.args.place) (take_whole c.args.entries.now c.loop-entry.entry-index (omega arith))
