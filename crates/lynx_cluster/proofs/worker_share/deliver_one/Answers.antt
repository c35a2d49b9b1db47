use Rattle.std.proofs.Common.{ap}
use Rattle.lynx_keep.specs.HeldBack.{held_terms}
use Rattle.lynx_resting.specs.Resting.{RestingState}
use Rattle.lynx_cluster.proofs.Dones.{delivery_leaves, notes_done}
use Rattle.lynx_cluster.proofs.worker_share.deliver_one.Goals as goal

pub returns-clause-serves : goal.returns-clause-serves
returns-clause-serves g c = (
  λ stopped. ap (λ (r : RestingState g.row.K.Denot). r.here) (c.deliver-delivered.ensures.stopped stopped).1,
  λ runs. (c.deliver-delivered.result, c.deliver-delivered.ensures.delivers runs),
)

pub returns-clause-done : goal.returns-clause-done
returns-clause-done g c =
    let state = c.args.state.now.here in
    let after = c.deliver-delivered.new.self.here in
    notes_done state.history after.history c.args.batch.now.handled.acknowledgements.items c.note_done-is_done.new.handled.acknowledgements.items _ c.args.message.chain c.args.message.hop
    c.deliver-delivered.result
    (delivery_leaves (held_terms g.K.Keeper.terms) state c.args.message c.deliver-delivered.result after
    (λ stopped. let was = c.deliver-delivered.ensures.stopped stopped in (was.0, ap (λ (r : RestingState g.row.K.Denot). r.here) was.1)) c.deliver-delivered.ensures.delivers)
    c.note_done-is_done.ensures.notes
