use Rattle.lynx_service.proofs.Opened.{looked_in, of_result, some_found}
use Rattle.lynx_service.proofs.opening.find_all.Goals as goal

pub found_at_all-requires : goal.found_at_all-requires
found_at_all-requires g c =
    let terms = g.S.Stores.store_terms in
    some_found terms c.args.folder.now c.args.set.now _
    (looked_in terms c.args.folder.now c.args.set.now c.in_ok-places.places.items _ c.look_at_all.new.places c.in_ok-places.places.len c.as_mut_slice.ensures.value
    c.as_mut_slice.ensures.len c.in_ok-places.ensures c.look_at_all.ensures)

pub returns-clause-found : goal.returns-clause-found
returns-clause-found g c =
    let terms = g.S.Stores.store_terms in
    of_result terms c.args.folder.now c.args.set.now _ c.found_at_all.result
    (looked_in terms c.args.folder.now c.args.set.now c.in_ok-places.places.items _ c.look_at_all.new.places c.in_ok-places.places.len c.as_mut_slice.ensures.value
    c.as_mut_slice.ensures.len c.in_ok-places.ensures c.look_at_all.ensures)
    c.found_at_all.ensures.found
