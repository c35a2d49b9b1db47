use Rattle.std.proofs.Common.{◌∙◌, ap}
use Rattle.lynx_set.specs.Set.{Set}
use Rattle.lynx_world.specs.Worlds.{new_world}
use Rattle.lynx_report.specs.Runs.{world_after}
use Rattle.lynx_sample.proofs.Judging.{ends_as_they}
use Rattle.lynx_sample.proofs.judged.run_ends_well.Goals as goal

pub returns : goal.returns
returns c =
    let events = c.args.events.items in
    ends_as_they c.args.cycle c.args.set.now events c.in_ok-ran.ran.world c.ends_well.result
    (c.in_ok-ran.ensures.worlds ∙ ap (λ (own : Set). world_after (new_world own) events) c.in_ok-own.ensures) c.ends_well.ensures
