use Rattle.std.proofs.Common.{arith}
use Rattle.std.proofs.lemmas.List.{nil_from_length}
use Rattle.lynx_service.proofs.Opened.{all_found, found_more}
use Rattle.lynx_service.proofs.opening.found_at_all.Goals as goal

pub loop-place-preserved : goal.loop-place-preserved
loop-place-preserved g c =
    found_more c.args.places.items c.loop-place.place-iterator.rest.items c.next.new.self.rest.items c.in-Some.place c.in_ok-found_at.field-0 c.loop-place.found.items c.push.new.self.items
    c.in-Some.ensures.steps.0 c.in_ok-found_at.ensures c.in_ok-push.ensures.items c.loop-place.invariant

pub returns-clause-found : goal.returns-clause-found
returns-clause-found g c =
    let rest = c.loop-place.place-iterator.rest in
    all_found c.args.places.items rest.items c.loop-place.found.items (nil_from_length rest.items (omega (arith, rest.ok, c.in-None.ensures.steps.0))) c.loop-place.invariant
