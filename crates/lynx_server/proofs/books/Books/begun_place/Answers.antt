use Rattle.std.proofs.Common.{◌≡◌, ◌∙◌, refl, ap, slice_get}
use Rattle.lynx_server.proofs.Chains.{found_as}
use Rattle.lynx_server.proofs.books.Books.begun_place.Goals as goal

pub returns-in-Ok : goal.returns-in-Ok
returns-in-Ok c =
    let at : c.place_at.result ≡ slice_get c.self.inside.chains.items c.args.index =
    c.place_at.ensures ∙ ap (λ places. slice_get places c.in-Ok.index) c.as_slice.ensures.value ∙ ap (slice_get c.self.inside.chains.items) c.in-Ok.ensures.1 in
    rw (← c.self.view_is)
    (found_as c.self.inside.history.items _ _ _ _ (c.self.invariant.chains_are c.args.index) at refl)

pub returns-in-Err : goal.returns-in-Err
returns-in-Err c = absurd (c.in-Err.ensures c.ranges.index.fits)
