use Rattle.std.proofs.Common.{ap}
use Rattle.lynx_keep.specs.HeldBack.{held_terms}
use Rattle.lynx_resting.specs.Resting.{RestingState}
use Rattle.lynx_cluster.proofs.Dones.{names_sender, notes_done, waking_leaves}
use Rattle.lynx_cluster.proofs.worker_share.wake_next.Goals as goal

pub returns : goal.returns
returns g c =
    let state = c.args.state.now.here in
    let after = c.wake.new.self.here in
    let woken = c.in-Some.woken in
    record {
      done = notes_done state.history after.history c.args.batch.now.handled.acknowledgements.items c.note_done.new.handled.acknowledgements.items _ woken.chain woken.hop woken.delivered
          (waking_leaves (held_terms g.K.Keeper.terms) state woken after
          (λ stopped. let was = c.in-Some.ensures.stopped stopped in (was.0, ap (λ (r : RestingState g.row.K.Denot). r.here) was.1)) c.in-Some.ensures.wakes) c.note_done.ensures.notes;
      sender = names_sender after _ woken.chain woken.hop woken.delivered c.args.batch.now.handled.acknowledgements.items c.note_done.new.handled.acknowledgements.items
          c.note_done.ensures.notes c.sender_of-to.ensures;
    }
