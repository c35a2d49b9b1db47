use Rattle.std.proofs.Common.{ℕ, Option, Some, None, subst}
use Rattle.lynx_entry.specs.declared.message.Message.{Message}
use Rattle.lynx_server.specs.Owed.{IsFirstOwed}
use Rattle.lynx_resting.specs.Resting.{RestingState, settled_part}
use Rattle.lynx_resting.proofs.OwedFront.{due_behind, due_nothing, due_settled}
use Rattle.lynx_resting.proofs.resting.Resting.messages_due.Goals as goal

pub returns-in_default : goal.returns-in_default
returns-in_default g c =
    let here : RestingState g.row.K.Denot = record { here = c.self.inside.server; settled = c.self.inside.settled } in
    let first = subst (λ (found : Option (ℕ × Message)). IsFirstOwed here.here c.args.from found) c.in_default.is c.in_ok-place.ensures in
    subst (λ (r : RestingState g.row.K.Denot). IsFirstOwed (settled_part r) c.args.from None) c.self.view_is (due_nothing here c.self.invariant.rests.within c.args.from first)

pub returns-then-place-self : goal.returns-then-place-self
returns-then-place-self g c =
    let here : RestingState g.row.K.Denot = record { here = c.self.inside.server; settled = c.self.inside.settled } in
    let first = subst (λ (found : Option (ℕ × Message)). IsFirstOwed here.here c.args.from found) c.in-Some.is c.in_ok-place.ensures in
    subst (λ (r : RestingState g.row.K.Denot). IsFirstOwed (settled_part r) c.args.from (Some (c.in-Some.place, c.in-Some.message))) c.self.view_is
    (due_settled here c.self.invariant.rests.within c.args.from c.in-Some.place c.in-Some.message first c.if-place-self.true)

pub returns-else-place-self : goal.returns-else-place-self
returns-else-place-self g c =
    let here : RestingState g.row.K.Denot = record { here = c.self.inside.server; settled = c.self.inside.settled } in
    let first = subst (λ (found : Option (ℕ × Message)). IsFirstOwed here.here c.args.from found) c.in-Some.is c.in_ok-place.ensures in
    subst (λ (r : RestingState g.row.K.Denot). IsFirstOwed (settled_part r) c.args.from None) c.self.view_is
    (due_behind here c.self.invariant.rests.within c.args.from c.in-Some.place c.in-Some.message first c.if-place-self.false)
