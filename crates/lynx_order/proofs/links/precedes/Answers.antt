use Rattle.std.proofs.Common.{rules, ◌≢◌, ◌∙◌, ap, sym, slice_get}
use Rattle.lynx_foot.specs.Tests.{some_collide}
use Rattle.lynx_order.specs.inner.Links.{touches_of_placed}
use Rattle.lynx_order.proofs.Certified.{precedes_by}
use Rattle.lynx_order.proofs.links.precedes.Goals as goal

pub returns : goal.returns
returns c = λ holds.
    let differ : c.args.one.now ≢ c.args.other.now = search rules in
    let lefts = c.as_slice.ensures.value ∙ c.in_ok-lefts.ensures in
    let rights = c.as_slice-2.ensures.value ∙ c.in_ok-rights.ensures in
    precedes_by c.args.set.now c.args.world.now.list c.args.one.now c.args.other.now c.args.own c.args.next differ c.if-own-next.false
    (sym (ap (λ xs. some_collide xs c.as_slice-2.result.now) lefts
    ∙ ap (some_collide (touches_of_placed c.args.set.now c.args.one.now (slice_get c.args.world.now.list c.args.own))) rights) ∙ sym c.any_collide.ensures ∙ holds)
