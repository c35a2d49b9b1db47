use Rattle.std.proofs.Common.{List, ◌∙◌, ap}
use Rattle.lynx_chart.specs.Charts.{chart_of}
use Rattle.lynx_entry.specs.declared.event.Outcome.{Outcome}
use Rattle.lynx_report.proofs.Charted.{is_chart}
use Rattle.lynx_report.proofs.charting.chart_of.Goals as goal

pub returns : goal.returns
returns c =
    let world = c.in_ok-ran.ran.world in
    let explained = c.in_ok-explained.explained in
    let explains = c.in_ok-explained.ensures in
    is_chart c.args.set c.args.events.items world c.in_ok-ran.ran.outcomes explained _ _ c.in_ok-ran.ensures.worlds c.in_ok-ran.ensures.outcomes
    (record { order = explains.order; cycle = explains.cycle; accepted = explains.accepted }) c.ending_of.ensures
    (c.in_ok-drawn.ensures.text ∙ ap (λ (outcomes : List Outcome). chart_of world.set world.list outcomes explained) c.as_slice.ensures)
    (c.in_ok-drawn.ensures.links explains.cycle)
