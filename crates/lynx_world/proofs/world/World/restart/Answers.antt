use Rattle.std.proofs.Common.{◌≡◌, ◌∙◌, nat_lt, true, refl, sym, ap}
use Rattle.lynx_names.specs.declared.limits.TheConstants.{MAX_HELD}
use Rattle.lynx_entry.specs.declared.event.Event.TheVariants.{Restart}
use Rattle.lynx_world.specs.Steps.{is_server, step}
use Rattle.lynx_world.specs.Worlds.{WorldState}
use Rattle.lynx_world.proofs.Stepping.{restarted, server_found, taken}
use Rattle.lynx_world.proofs.world.World.restart.Goals as goal

pub invariant_of-self : goal.invariant_of-self
invariant_of-self c =
    let set = c.self.inside.set in
    let servers = c.self.inside.servers.items in
    let order = c.self.inside.order.items in
    let server = c.args.server in
    let old = c.index_mut.result.now in
    let within : nat_lt server set.servers ≡ true = ap (λ (w : WorldState). is_server w server) c.self.view_is ∙ sym c.has_server.ensures ∙ c.if-not-has_server.false in
    let there = server_found set servers order c.index.result server old c.self.invariant c.index.ensures.value within c.index_mut.ensures.value in
    (taken set servers order _ _ c.index.result server c.restart_at.new.here _ order
    (restarted set servers order server old c.restart_at.new.here c.self.invariant there within c.restart_at.ensures)
    c.index.ensures.value refl).are

pub returns : goal.returns
returns c =
    let set = c.self.inside.set in
    let servers = c.self.inside.servers.items in
    let order = c.self.inside.order.items in
    let server = c.args.server in
    let old = c.index_mut.result.now in
    let within : nat_lt server set.servers ≡ true = ap (λ (w : WorldState). is_server w server) c.self.view_is ∙ sym c.has_server.ensures ∙ c.if-not-has_server.false in
    let there = server_found set servers order c.index.result server old c.self.invariant c.index.ensures.value within c.index_mut.ensures.value in
    let its = taken set servers order _ _ c.index.result server c.restart_at.new.here _ order
    (restarted set servers order server old c.restart_at.new.here c.self.invariant there within c.restart_at.ensures)
    c.index.ensures.value refl in
    its.is ∙ ap (λ (w : WorldState). step MAX_HELD w (Restart server)) c.self.view_is
