use Rattle.std.proofs.Common.{ℕ, Option, Some, None, subst, sym}
use Rattle.lynx_rules.specs.Lawful.{is_record_of, record_of}
use Rattle.lynx_server.specs.Books.{IsFoundAt}
use Rattle.lynx_resting.specs.Resting.{RestingState, settled_front}
use Rattle.lynx_resting.proofs.Finding.{place_nowhere, place_settled, place_unsettled}
use Rattle.lynx_resting.proofs.resting.Resting.record_place.Goals as goal

pub returns-in_err-place : goal.returns-in_err-place
returns-in_err-place g c =
    let here = c.self.inside.server in
    subst (λ (r : RestingState g.row.K.Denot). IsFoundAt (settled_front r) c.from_residual.result (record_of c.args.request.now (settled_front r))) c.self.view_is
    (subst (λ (place : Option ℕ). IsFoundAt (settled_front (record { here = here; settled = c.self.inside.settled })) place (record_of c.args.request.now (settled_front (record { here = here; settled = c.self.inside.settled }))))
    (sym c.from_residual.ensures)
    (place_nowhere here.history (is_record_of c.args.request.now) c.self.inside.settled c.in_err-place.ensures))

pub returns-then-self-place : goal.returns-then-self-place
returns-then-self-place g c =
    let here = c.self.inside.server in
    subst (λ (r : RestingState g.row.K.Denot). IsFoundAt (settled_front r) None (record_of c.args.request.now (settled_front r))) c.self.view_is
    (place_unsettled here.set here.server here.history (is_record_of c.args.request.now) c.self.inside.settled c.in_ok-place.place c.history.ensures.lawful c.if-self-place.true c.in_ok-place.ensures)

pub returns : goal.returns
returns g c =
    let here = c.self.inside.server in
    subst (λ (r : RestingState g.row.K.Denot). IsFoundAt (settled_front r) (Some c.in_ok-place.place) (record_of c.args.request.now (settled_front r))) c.self.view_is
    (place_settled here.history (is_record_of c.args.request.now) c.self.inside.settled c.in_ok-place.place c.self.invariant.rests.within c.if-self-place.false c.in_ok-place.ensures)
