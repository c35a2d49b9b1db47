use Rattle.std.proofs.Common.{refl, List, subst, sym}
use Rattle.lynx_cluster.specs.Calls.{AnswersBeginAll}
use Rattle.lynx_entry.specs.declared.answer.Answer.{Answer}
use Rattle.lynx_service.proofs.Begun.{all_in_range, desk_begins, stops_all}
use Rattle.lynx_service.proofs.desk.ClientDeskDesk.begin_all.Goals as goal

pub returns-clause-begins : goal.returns-clause-begins
returns-clause-begins g c =
    desk_begins c.args.self.now.frontend.now.set (λ desk. desk.frontend.now.set) (λ desk. desk.session) (λ session. record c.args.self.now { session = session }) (λ session. refl) (λ session. refl)
    c.args.self.now.session c.begin_all.new.session c.args.requests.items c.begin_all.new.answers.items c.begin_all.ensures

pub returns-clause-range : goal.returns-clause-range
returns-clause-range g c =
    all_in_range c.args.self.now.frontend.now.set c.args.self.now.session c.begin_all.new.session c.args.requests.items c.begin_all.new.answers.items c.begin_all.ensures

pub returns-then-are_gone-clause-begins : goal.returns-then-are_gone-clause-begins
returns-then-are_gone-clause-begins g c =
    let set = c.args.self.now.frontend.now.set in
    let session = c.args.self.now.session in
    let requests = c.args.requests.items in
    let stop = subst (λ (given : List Answer). AnswersBeginAll set session requests given session) (sym {A = List Answer} c.stop_all.ensures) (stops_all set session requests) in
    desk_begins set (λ desk. desk.frontend.now.set) (λ desk. desk.session) (λ s. record c.args.self.now { session = s }) (λ s. refl) (λ s. refl) session session requests c.stop_all.new.answers.items stop

pub returns-then-are_gone-clause-range : goal.returns-then-are_gone-clause-range
returns-then-are_gone-clause-range g c =
    let set = c.args.self.now.frontend.now.set in
    let session = c.args.self.now.session in
    let requests = c.args.requests.items in
    let stop = subst (λ (given : List Answer). AnswersBeginAll set session requests given session) (sym {A = List Answer} c.stop_all.ensures) (stops_all set session requests) in
    all_in_range set session session requests c.stop_all.new.answers.items stop
