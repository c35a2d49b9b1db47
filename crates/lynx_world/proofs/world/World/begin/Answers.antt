use Rattle.std.proofs.Common.{◌≡◌, ◌∙◌, nat_lt, true, sym, ap}
use Rattle.lynx_names.specs.declared.limits.TheConstants.{MAX_HELD}
use Rattle.lynx_entry.specs.declared.event.Event.TheVariants.{Begin}
use Rattle.lynx_world.specs.Steps.{is_server, step}
use Rattle.lynx_world.specs.Worlds.{WorldState}
use Rattle.lynx_world.proofs.Stepping.{at_error, begun, server_found, still, stilled, taken}
use Rattle.lynx_world.proofs.world.World.begin.Goals as goal

pub invariant_of-self : goal.invariant_of-self
invariant_of-self c =
    let set = c.self.inside.set in
    let servers = c.self.inside.servers.items in
    let order = c.self.inside.order.items in
    let server = c.args.server in
    let old = c.index_mut.result.now in
    let within : nat_lt server set.servers ≡ true = ap (λ (w : WorldState). is_server w server) c.self.view_is ∙ sym c.has_server.ensures ∙ c.if-not-has_server.false in
    let there = server_found set servers order c.index.result server old c.self.invariant c.index.ensures.value within c.index_mut.ensures.value in
    (stilled set servers order c.begin_at.new.order.items c.index.result server c.begin_at.new.here
    (still set servers order server old c.begin_at.new.here c.self.invariant there c.in_err-answer.ensures.same) c.index.ensures.value c.in_err-answer.ensures.same_order).0

pub returns-in_err-answer-clause-err : goal.returns-in_err-answer-clause-err
returns-in_err-answer-clause-err c =
    let set = c.self.inside.set in
    let servers = c.self.inside.servers.items in
    let order = c.self.inside.order.items in
    let server = c.args.server in
    let old = c.index_mut.result.now in
    let within : nat_lt server set.servers ≡ true = ap (λ (w : WorldState). is_server w server) c.self.view_is ∙ sym c.has_server.ensures ∙ c.if-not-has_server.false in
    let there = server_found set servers order c.index.result server old c.self.invariant c.index.ensures.value within c.index_mut.ensures.value in
    let same = (stilled set servers order c.begin_at.new.order.items c.index.result server c.begin_at.new.here
    (still set servers order server old c.begin_at.new.here c.self.invariant there c.in_err-answer.ensures.same) c.index.ensures.value c.in_err-answer.ensures.same_order).1 in
    at_error c.from_residual.result _ (same ∙ c.self.view_is)

pub invariant_of-self-2 : goal.invariant_of-self-2
invariant_of-self-2 c =
    let set = c.self.inside.set in
    let servers = c.self.inside.servers.items in
    let order = c.self.inside.order.items in
    let server = c.args.server in
    let old = c.index_mut.result.now in
    let within : nat_lt server set.servers ≡ true = ap (λ (w : WorldState). is_server w server) c.self.view_is ∙ sym c.has_server.ensures ∙ c.if-not-has_server.false in
    let there = server_found set servers order c.index.result server old c.self.invariant c.index.ensures.value within c.index_mut.ensures.value in
    (taken set servers order _ _ c.index.result server c.begin_at.new.here _ c.begin_at.new.order.items
    (begun set servers order server c.args.request c.args.seen c.in_ok-answer.answer old c.begin_at.new.here c.self.invariant there within c.in_ok-answer.ensures.begun)
    c.index.ensures.value c.in_ok-answer.ensures.order).are

pub returns-clause-ok : goal.returns-clause-ok
returns-clause-ok c =
    let set = c.self.inside.set in
    let servers = c.self.inside.servers.items in
    let order = c.self.inside.order.items in
    let server = c.args.server in
    let old = c.index_mut.result.now in
    let within : nat_lt server set.servers ≡ true = ap (λ (w : WorldState). is_server w server) c.self.view_is ∙ sym c.has_server.ensures ∙ c.if-not-has_server.false in
    let there = server_found set servers order c.index.result server old c.self.invariant c.index.ensures.value within c.index_mut.ensures.value in
    let its = taken set servers order _ _ c.index.result server c.begin_at.new.here _ c.begin_at.new.order.items
    (begun set servers order server c.args.request c.args.seen c.in_ok-answer.answer old c.begin_at.new.here c.self.invariant there within c.in_ok-answer.ensures.begun)
    c.index.ensures.value c.in_ok-answer.ensures.order in
    its.is ∙ ap (λ (w : WorldState). step MAX_HELD w (Begin server c.args.request c.args.seen)) c.self.view_is
