use Rattle.std.proofs.Common.{◌≡◌, Some, sym, ◌∙◌, ap, option_copied}
use Rattle.std.proofs.lemmas.Bool.{eqb-true}
use Rattle.std.proofs.lemmas.Bool.Decides.{Decides-at}
use Rattle.lynx_foot.specs.Reaches.{reaches_of}
use Rattle.lynx_foot.specs.Tests.{some_may_collide}
use Rattle.lynx_foot.proofs.Decides.{Decides-MayConflict}
use Rattle.lynx_foot.proofs.may_collide.may_conflict.Goals as goal
use Rattle.lynx_set.specs.Lookups.{hop_at, server_at}

pub returns-then-eq : goal.returns-then-eq
returns-then-eq c =
    let left : hop_at c.args.set.now c.args.left_program c.args.left_hop ≡ Some c.in-Some-Some.left.now = sym c.hop-left.ensures ∙ ap option_copied c.in-Some-Some.is-0 in
    let right : hop_at c.args.set.now c.args.right_program c.args.right_hop ≡ Some c.in-Some-Some.right.now = sym c.hop-right.ensures ∙ ap option_copied c.in-Some-Some.is-1 in
    let same : server_at c.args.set.now c.args.left_program c.args.left_hop ≡ server_at c.args.set.now c.args.right_program c.args.right_hop = rw (left, right) (ap Some (eqb-true _ _ (sym c.if-eq.ensures))) in
    let tested : c.any_may_collide.result ≡ some_may_collide (reaches_of c.args.set.now c.args.left_program c.args.left_hop) (reaches_of c.args.set.now c.args.right_program c.args.right_hop) = rw (left, right, ← c.as_slice.ensures, ← c.as_slice-then-eq.ensures, ← c.ranges-then-eq.ensures, ← c.ranges-then-eq-2.ensures) c.any_may_collide.ensures in
    Decides-at _ _ tested (Decides-MayConflict c.args.set.now c.args.left_program c.args.left_hop c.args.right_program c.args.right_hop same)
