use Rattle.std.proofs.Common.{◌≡◌}
use Rattle.std.proofs.lemmas.Bool.Decides.{Decides-at}
use Rattle.lynx_foot.specs.Feet.{touches_of}
use Rattle.lynx_foot.specs.Tests.{some_collide}
use Rattle.lynx_foot.proofs.Decides.{Decides-some_collide}
use Rattle.lynx_foot.proofs.collision.conflict.Goals as goal

pub returns : goal.returns
returns c =
    let lefts = touches_of c.args.set.now c.args.left_program c.args.left_hop c.args.left_args.now in
    let rights = touches_of c.args.set.now c.args.right_program c.args.right_hop c.args.right_args.now in
    let tested : c.any_collide.result ≡ some_collide lefts rights = rw (← c.actions_of-lefts.ensures, ← c.actions_of-rights.ensures) c.any_collide.ensures in
    Decides-at _ _ tested (Decides-some_collide lefts rights)
