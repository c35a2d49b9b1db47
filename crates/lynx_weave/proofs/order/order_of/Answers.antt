use Rattle.std.proofs.Common.{◌∙◌, None, Some, refl, sym, ap, subst, arith}
use Rattle.std.proofs.lemmas.Option.{slice_get-get_or}
use Rattle.lynx_weave.specs.inner.Orders.{IsLeastNext, IsNextAt}
use Rattle.lynx_weave.specs.Servers.{histories_of}
use Rattle.lynx_weave.proofs.Ordered.{going_on, least_within, order_end, place_few}
use Rattle.lynx_weave.proofs.order.order_of.Goals as goal

pub overflow_add-place : goal.overflow_add-place
overflow_add-place c =
    let few = place_few c.args.set.now c.args.servers.now c.loop-number.places.items c.in-Some.number c.index-place.result.now
    (subst (λ p. IsLeastNext (histories_of c.args.servers.now) p c.in-Some.number) c.as_slice.ensures.value c.in-Some.ensures)
    c.requires.servers c.index-place.ensures in
    omega (arith, few)

pub loop-number-preserved : goal.loop-number-preserved
loop-number-preserved c =
    let servers = c.args.servers.now in
    let number = c.in-Some.number in
    let least = subst (λ p. IsLeastNext (histories_of servers) p number) c.as_slice.ensures.value c.in-Some.ensures in
    let within = least_within servers c.loop-number.places.items number least in
    let there = slice_get-get_or servers number c.index-servers-number.result within.0 ∙ ap Some (sym c.index-servers-number.is) in
    let near = going_on c.args.set.now servers c.loop-number.order.items c.push.new.self.items c.loop-number.places.items _ number
    c.server-server.result c.index-place.result.now c.requires.servers c.requires.sent c.loop-number.invariant.going least c.index-place.ensures
    (c.server-server.ensures ∙ (c.requires.servers.each number c.index-servers-number.result there).server_is)
    c.in_ok-push.ensures.items refl in
    record { going = near.going }

pub loop-number-smaller : goal.loop-number-smaller
loop-number-smaller c =
    let servers = c.args.servers.now in
    let number = c.in-Some.number in
    let least = subst (λ p. IsLeastNext (histories_of servers) p number) c.as_slice.ensures.value c.in-Some.ensures in
    let within = least_within servers c.loop-number.places.items number least in
    let there = slice_get-get_or servers number c.index-servers-number.result within.0 ∙ ap Some (sym c.index-servers-number.is) in
    let near = going_on c.args.set.now servers c.loop-number.order.items c.push.new.self.items c.loop-number.places.items _ number
    c.server-server.result c.index-place.result.now c.requires.servers c.requires.sent c.loop-number.invariant.going least c.index-place.ensures
    (c.server-server.ensures ∙ (c.requires.servers.each number c.index-servers-number.result there).server_is)
    c.in_ok-push.ensures.items refl in
    near.nearer

pub returns : goal.returns
returns c =
    order_end c.args.set.now c.args.servers.now c.loop-number.order.items c.loop-number.places.items c.requires.servers c.loop-number.invariant.going
    (subst (λ p. IsNextAt (histories_of c.args.servers.now) p None) c.as_slice.ensures.value
    (subst (IsNextAt (histories_of c.args.servers.now) c.as_slice.result.now) c.in_default.is c.least_next.ensures))
