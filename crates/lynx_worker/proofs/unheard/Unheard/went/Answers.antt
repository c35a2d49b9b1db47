use Rattle.std.proofs.Common.{List, false, subst, sym}
use Rattle.lynx_worker.specs.declared.unheard.Sent.{Sent}
use Rattle.lynx_worker.specs.Unheard.{IsUnheard, StayUnheard}
use Rattle.lynx_worker.proofs.Unheards.{went_noted, went_stay}
use Rattle.lynx_worker.proofs.unheard.Unheard.went.Goals as goal

pub returns-clause-noted : goal.returns-clause-noted
returns-clause-noted c =
    subst (λ (l : List Sent). IsUnheard l c.args.place) (sym c.push_back_reserved.ensures.items) (went_noted c.args.self.now.sent.items c.args.place)

pub returns-clause-stay : goal.returns-clause-stay
returns-clause-stay c =
    let sent : Sent = record { place = c.args.place; is_heard = false } in
    subst (λ (l : List Sent). StayUnheard c.args.self.now.sent.items l) (sym c.push_back_reserved.ensures.items) (went_stay c.args.self.now.sent.items sent)
