use Rattle.std.proofs.Common.{◌+◌, sym, ap, ◌∙◌, List, drop}
use Rattle.lynx_world.specs.Placed.{Placed}
use Rattle.lynx_chart.specs.Messages.{sent_behind}
use Rattle.lynx_chart.specs.declared.messages.Sent.{Sent}
use Rattle.lynx_chart.proofs.Rests.{rest_at}
use Rattle.lynx_chart.proofs.messages.sent_in.Goals as goal

pub loop-place-preserved : goal.loop-place-preserved
loop-place-preserved c =
    let set = c.args.world.now.set in
    let list = c.args.world.now.list in
    let stamps = c.args.stamps.now in
    let place = c.loop-place.place in
    let before = c.loop-place.messages.items in
    let placed : Placed = record { server = c.listed_at-listed.result.server; entry = c.listed_at-listed.result.entry.now } in
    ap (λ (b : List Sent). sent_behind set stamps b (drop (place + 1) list)) c.in_ok-add_sent.ensures
    ∙ sym (ap (sent_behind set stamps before) (rest_at list place placed (sym c.listed_at-listed.ensures)))
    ∙ c.loop-place.invariant
