use Rattle.std.proofs.Common.{rules}
use Rattle.lynx_sample.specs.Samples.{OwesNothing}
use Rattle.lynx_sample.proofs.Judging.{ends_owing_nothing, ends_with_cycle}
use Rattle.lynx_sample.proofs.judged.ends_well.Goals as goal

pub returns-then-cycle : goal.returns-then-cycle
returns-then-cycle c =
    let nothing : OwesNothing c.args.world.now.set c.args.world.now.list = c.in_ok-owes_nothing.ensures (search rules) in
    ends_with_cycle c.args.cycle c.args.world.now.set c.args.world.now.list c.has_cycle.result c.if-cycle.true nothing c.has_cycle.ensures

pub returns-else-cycle : goal.returns-else-cycle
returns-else-cycle c =
    let nothing : OwesNothing c.args.world.now.set c.args.world.now.list = c.in_ok-owes_nothing.ensures (search rules) in
    λ is. ends_owing_nothing c.args.cycle c.args.world.now.set c.args.world.now.list c.if-cycle.false nothing
