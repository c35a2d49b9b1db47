use Rattle.std.proofs.Common.{◌≡◌, ◌∙◌, nat_lt, true, sym, ap}
use Rattle.lynx_names.specs.declared.limits.TheConstants.{MAX_HELD}
use Rattle.lynx_entry.specs.declared.event.Event.TheVariants.{Deliver}
use Rattle.lynx_world.specs.Steps.{destination_of, is_server, sent_message, step}
use Rattle.lynx_world.specs.Worlds.{WorldState}
use Rattle.lynx_world.proofs.Stepping.{at_error, delivered, server_found, still, stilled, taken}
use Rattle.lynx_world.proofs.world.World.deliver.Goals as goal

pub invariant_of-self : goal.invariant_of-self
invariant_of-self c =
    let set = c.self.inside.set in
    let servers = c.self.inside.servers.items in
    let order = c.self.inside.order.items in
    let server = c.destination_of-server.result in
    let old = c.index_mut.result.now in
    let within : nat_lt server set.servers ≡ true = ap (λ (w : WorldState). is_server w server) c.self.view_is ∙ sym c.has_server.ensures ∙ c.if-not-has_server.false in
    let there = server_found set servers order c.index.result server old c.self.invariant c.index.ensures.value within c.index_mut.ensures.value in
    (stilled set servers order c.deliver_at.new.order.items c.index.result server c.deliver_at.new.here
    (still set servers order server old c.deliver_at.new.here c.self.invariant there c.in_err-delivered.ensures.same) c.index.ensures.value c.in_err-delivered.ensures.same_order).0

pub returns-in_err-delivered-clause-err : goal.returns-in_err-delivered-clause-err
returns-in_err-delivered-clause-err c =
    let set = c.self.inside.set in
    let servers = c.self.inside.servers.items in
    let order = c.self.inside.order.items in
    let server = c.destination_of-server.result in
    let old = c.index_mut.result.now in
    let within : nat_lt server set.servers ≡ true = ap (λ (w : WorldState). is_server w server) c.self.view_is ∙ sym c.has_server.ensures ∙ c.if-not-has_server.false in
    let there = server_found set servers order c.index.result server old c.self.invariant c.index.ensures.value within c.index_mut.ensures.value in
    let same = (stilled set servers order c.deliver_at.new.order.items c.index.result server c.deliver_at.new.here
    (still set servers order server old c.deliver_at.new.here c.self.invariant there c.in_err-delivered.ensures.same) c.index.ensures.value c.in_err-delivered.ensures.same_order).1 in
    at_error c.from_residual-in_err-delivered.result _ (same ∙ c.self.view_is)

pub invariant_of-self-2 : goal.invariant_of-self-2
invariant_of-self-2 c =
    let set = c.self.inside.set in
    let servers = c.self.inside.servers.items in
    let order = c.self.inside.order.items in
    let server = c.destination_of-server.result in
    let old = c.index_mut.result.now in
    let within : nat_lt server set.servers ≡ true = ap (λ (w : WorldState). is_server w server) c.self.view_is ∙ sym c.has_server.ensures ∙ c.if-not-has_server.false in
    let there = server_found set servers order c.index.result server old c.self.invariant c.index.ensures.value within c.index_mut.ensures.value in
    (taken set servers order _ _ c.index.result server c.deliver_at.new.here _ c.deliver_at.new.order.items
    (delivered set servers order server c.args.chain c.args.hop c.in-Some.message c.in_ok-delivered.delivered old c.deliver_at.new.here c.self.invariant there within c.in_ok-delivered.ensures.delivered
    (ap (λ (w : WorldState). sent_message w.set c.args.chain c.args.hop w.list) c.self.view_is ∙ sym c.in_ok-message.ensures ∙ c.in-Some.is)
    (c.destination_of-server.ensures ∙ ap (λ (w : WorldState). destination_of w.set c.in-Some.message) (sym c.self.view_is)))
    c.index.ensures.value c.in_ok-delivered.ensures.order).are

pub returns-clause-ok : goal.returns-clause-ok
returns-clause-ok c =
    let set = c.self.inside.set in
    let servers = c.self.inside.servers.items in
    let order = c.self.inside.order.items in
    let server = c.destination_of-server.result in
    let old = c.index_mut.result.now in
    let within : nat_lt server set.servers ≡ true = ap (λ (w : WorldState). is_server w server) c.self.view_is ∙ sym c.has_server.ensures ∙ c.if-not-has_server.false in
    let there = server_found set servers order c.index.result server old c.self.invariant c.index.ensures.value within c.index_mut.ensures.value in
    let its = taken set servers order _ _ c.index.result server c.deliver_at.new.here _ c.deliver_at.new.order.items
    (delivered set servers order server c.args.chain c.args.hop c.in-Some.message c.in_ok-delivered.delivered old c.deliver_at.new.here c.self.invariant there within c.in_ok-delivered.ensures.delivered
    (ap (λ (w : WorldState). sent_message w.set c.args.chain c.args.hop w.list) c.self.view_is ∙ sym c.in_ok-message.ensures ∙ c.in-Some.is)
    (c.destination_of-server.ensures ∙ ap (λ (w : WorldState). destination_of w.set c.in-Some.message) (sym c.self.view_is)))
    c.index.ensures.value c.in_ok-delivered.ensures.order in
    its.is ∙ ap (λ (w : WorldState). step MAX_HELD w (Deliver c.args.chain c.args.hop)) c.self.view_is
