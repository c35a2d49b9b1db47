use Rattle.std.proofs.Common.{◌+◌, ◌++◌, ◌∙◌, ap, sym, subst, arith}
use Rattle.lynx_order.specs.inner.Listing.{chain_touches}
use Rattle.lynx_order.proofs.Certified.{HasBelow, has_all, more_none, more_own}
use Rattle.lynx_order.proofs.listing.all_touches.Goals as goal

pub loop-place-preserved-in_default : goal.loop-place-preserved-in_default
loop-place-preserved-in_default c =
    more_none c.args.set.now c.args.world.now.list c.args.chains.now c.loop-place.place c.loop-place.all.items c.entry_at-entry.result.now c.loop-place.invariant
    c.entry_at-entry.ensures (sym c.chain_in.ensures ∙ c.in_default.is)

pub loop-place-preserved : goal.loop-place-preserved
loop-place-preserved c =
    let place = c.loop-place.place in
    let number = c.in-Some-place_of.number in
    subst (HasBelow c.args.set.now c.args.world.now.list c.args.chains.now (place + 1))
    (sym (c.in_ok-add_touches.ensures
    ∙ ap (λ touches. c.loop-place.all.items ++ chain_touches number place touches) (c.as_slice-in-loop-place.ensures.value ∙ c.in_ok-touches.ensures)))
    (more_own c.args.set.now c.args.world.now.list c.args.chains.now place number c.loop-place.all.items c.entry_at-entry.result.now c.in-Some.chain c.loop-place.invariant
    c.entry_at-entry.ensures (sym c.chain_in.ensures ∙ c.in-Some.is) c.in-Some-place_of.ensures)

pub returns : goal.returns
returns c =
    let whole = c.len-place-end.ensures in
    has_all c.args.set.now c.args.world.now.list c.args.chains.now c.loop-place.place c.loop-place.all.items (let end = c.loop-place-test.false in omega arith) c.loop-place.invariant
