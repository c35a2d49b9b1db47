use Rattle.std.proofs.Common.{◌+◌, sym, ap, ◌∙◌, drop}
use Rattle.lynx_world.specs.Placed.{Placed}
use Rattle.lynx_chart.specs.Rows.{stamps_behind, with_stamp}
use Rattle.lynx_chart.proofs.Rests.{rest_at}
use Rattle.lynx_chart.proofs.rows.stamps_of.Goals as goal

pub loop-place-preserved : goal.loop-place-preserved
loop-place-preserved c =
    let list = c.args.world.now.list in
    let place = c.loop-place.place in
    let stamps = c.loop-place.stamps.items in
    let placed : Placed = record { server = c.listed_at.result.server; entry = c.listed_at.result.entry.now } in
    ap (λ s. stamps_behind s (drop (place + 1) list)) (c.in_ok-add_stamp.ensures ∙ ap (with_stamp stamps) (c.time.ensures.value ∙ c.stamp.ensures))
    ∙ sym (ap (stamps_behind stamps) (rest_at list place placed (sym c.listed_at.ensures)))
    ∙ c.loop-place.invariant
