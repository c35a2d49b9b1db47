use Rattle.lynx_link.specs.EndLists.{with_sender, with_receiver}
use Rattle.lynx_link.proofs.Adding.{set_changed}
use Rattle.lynx_link.proofs.linking.connect.Goals as goal

pub returns : goal.returns
returns c =
    let old = c.args.ends.now in
    let to = c.in_ok-to.to in
    let from = c.in_ok-to.from in
    record {
      sending = to;
      receiving = from;
      is_new = c.in_ok-to.ensures;
      added = rw (
        c.in_ok-add_sender.ensures,
        c.in_ok-add_receiver.ensures,
        c.in_ok-add_sender.ensures,
        set_changed (with_sender to) old c.args.sender c.index-ends-sender.result,
      )
          (set_changed (with_receiver from) _ c.args.receiver c.index-ends-receiver.result);
    }
