use Rattle.std.proofs.Common.{ℕ, Option, Some, None, subst, sym}
use Rattle.lynx_server.specs.Acts.{act_of, is_act}
use Rattle.lynx_server.specs.Books.{IsFoundAt}
use Rattle.lynx_resting.specs.Resting.{RestingState, settled_front}
use Rattle.lynx_resting.proofs.Finding.{place_nowhere, place_settled, place_unsettled}
use Rattle.lynx_resting.proofs.resting.Resting.place_of.Goals as goal

pub returns-in_err-place : goal.returns-in_err-place
returns-in_err-place g c =
    let here = c.self.inside.server in
    subst (λ (r : RestingState g.row.K.Denot). IsFoundAt (settled_front r) c.from_residual.result (act_of c.args.chain c.args.hop (settled_front r))) c.self.view_is
    (subst (λ (place : Option ℕ). IsFoundAt (settled_front (record { here = here; settled = c.self.inside.settled })) place (act_of c.args.chain c.args.hop (settled_front (record { here = here; settled = c.self.inside.settled }))))
    (sym c.from_residual.ensures)
    (place_nowhere here.history (is_act c.args.chain c.args.hop) c.self.inside.settled c.in_err-place.ensures))

pub returns-then-place-self : goal.returns-then-place-self
returns-then-place-self g c =
    let here = c.self.inside.server in
    subst (λ (r : RestingState g.row.K.Denot). IsFoundAt (settled_front r) (Some c.in_ok-place.place) (act_of c.args.chain c.args.hop (settled_front r))) c.self.view_is
    (place_settled here.history (is_act c.args.chain c.args.hop) c.self.inside.settled c.in_ok-place.place c.self.invariant.rests.within c.if-place-self.true c.in_ok-place.ensures)

pub returns-else-place-self : goal.returns-else-place-self
returns-else-place-self g c =
    let here = c.self.inside.server in
    subst (λ (r : RestingState g.row.K.Denot). IsFoundAt (settled_front r) None (act_of c.args.chain c.args.hop (settled_front r))) c.self.view_is
    (place_unsettled here.set here.server here.history (is_act c.args.chain c.args.hop) c.self.inside.settled c.in_ok-place.place c.history.ensures.lawful c.if-place-self.false c.in_ok-place.ensures)
