use Rattle.std.proofs.Common.{◌≡◌, ◌∙◌, nat_lt, true, slice_set, sym, ap}
use Rattle.lynx_names.specs.declared.limits.TheConstants.{MAX_HELD}
use Rattle.lynx_entry.specs.declared.event.Event.TheVariants.{Wake}
use Rattle.lynx_entry.specs.declared.event.Outcome.{Outcome}
use Rattle.lynx_world.specs.Steps.{is_server, step}
use Rattle.lynx_world.specs.Worlds.{WorldState}
use Rattle.lynx_world.proofs.Stepping.{at_error, server_found, still, stilled, taken, wakes, world_of}
use Rattle.lynx_world.proofs.world.World.wake.Goals as goal

pub invariant_of-self : goal.invariant_of-self
invariant_of-self c =
    let set = c.self.inside.set in
    let servers = c.self.inside.servers.items in
    let order = c.self.inside.order.items in
    let server = c.args.server in
    let old = c.index_mut.result.now in
    let within : nat_lt server set.servers ≡ true = ap (λ (w : WorldState). is_server w server) c.self.view_is ∙ sym c.has_server.ensures ∙ c.if-not-has_server.false in
    let there = server_found set servers order c.index.result server old c.self.invariant c.index.ensures.value within c.index_mut.ensures.value in
    (stilled set servers order c.wake_at.new.order.items c.index.result server c.wake_at.new.here
    (still set servers order server old c.wake_at.new.here c.self.invariant there c.in_err-woken.ensures.same) c.index.ensures.value c.in_err-woken.ensures.same_order).0

pub returns-in_err-woken-clause-err : goal.returns-in_err-woken-clause-err
returns-in_err-woken-clause-err c =
    let set = c.self.inside.set in
    let servers = c.self.inside.servers.items in
    let order = c.self.inside.order.items in
    let server = c.args.server in
    let old = c.index_mut.result.now in
    let within : nat_lt server set.servers ≡ true = ap (λ (w : WorldState). is_server w server) c.self.view_is ∙ sym c.has_server.ensures ∙ c.if-not-has_server.false in
    let there = server_found set servers order c.index.result server old c.self.invariant c.index.ensures.value within c.index_mut.ensures.value in
    let same = (stilled set servers order c.wake_at.new.order.items c.index.result server c.wake_at.new.here
    (still set servers order server old c.wake_at.new.here c.self.invariant there c.in_err-woken.ensures.same) c.index.ensures.value c.in_err-woken.ensures.same_order).1 in
    at_error c.from_residual.result _ (same ∙ c.self.view_is)

pub invariant_of-self-2 : goal.invariant_of-self-2
invariant_of-self-2 c =
    let set = c.self.inside.set in
    let servers = c.self.inside.servers.items in
    let order = c.self.inside.order.items in
    let server = c.args.server in
    let old = c.index_mut.result.now in
    let within : nat_lt server set.servers ≡ true = ap (λ (w : WorldState). is_server w server) c.self.view_is ∙ sym c.has_server.ensures ∙ c.if-not-has_server.false in
    let there = server_found set servers order c.index.result server old c.self.invariant c.index.ensures.value within c.index_mut.ensures.value in
    (taken set servers order _ _ c.index.result server c.wake_at.new.here _ c.wake_at.new.order.items
    (wakes set servers order server c.in_ok-woken.woken old c.wake_at.new.here c.self.invariant there within c.in_ok-woken.ensures.woken)
    c.index.ensures.value c.in_ok-woken.ensures.order).are

pub returns-clause-ok : goal.returns-clause-ok
returns-clause-ok c =
    let set = c.self.inside.set in
    let servers = c.self.inside.servers.items in
    let order = c.self.inside.order.items in
    let server = c.args.server in
    let old = c.index_mut.result.now in
    let within : nat_lt server set.servers ≡ true = ap (λ (w : WorldState). is_server w server) c.self.view_is ∙ sym c.has_server.ensures ∙ c.if-not-has_server.false in
    let there = server_found set servers order c.index.result server old c.self.invariant c.index.ensures.value within c.index_mut.ensures.value in
    let its = taken set servers order _ _ c.index.result server c.wake_at.new.here _ c.wake_at.new.order.items
    (wakes set servers order server c.in_ok-woken.woken old c.wake_at.new.here c.self.invariant there within c.in_ok-woken.ensures.woken)
    c.index.ensures.value c.in_ok-woken.ensures.order in
    ap (λ (o : Outcome). record { outcome = o; world = world_of set (slice_set servers c.index.result c.wake_at.new.here) c.wake_at.new.order.items }) c.waking.ensures
    ∙ its.is ∙ ap (λ (w : WorldState). step MAX_HELD w (Wake server)) c.self.view_is
