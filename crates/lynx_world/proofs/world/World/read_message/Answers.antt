use Rattle.std.proofs.Common.{◌≤◌, ◌∙◌, ap, subst, sym}
use Rattle.lynx_names.specs.declared.limits.TheConstants.{MAX_SERVERS}
use Rattle.lynx_set.specs.Set.{Set}
use Rattle.lynx_world.proofs.LegalSteps.{sent_found}
use Rattle.lynx_world.proofs.SentInRange.{sent-in_range}
use Rattle.lynx_world.proofs.world.World.read_message.Goals as goal

pub carried-requires : goal.carried-requires
carried-requires c =
    sent-in_range c.args.self.now.set c.args.self.now.list c.in-Some.message
    (subst (λ n. n ≤ MAX_SERVERS) (c.servers.ensures.value ∙ ap (λ (s : Set). s.servers) c.set.ensures.value) c.servers.ensures.few)
    c.set.ensures.legal
    (sent_found c.args.self.now.set c.args.self.now.list c.args.chain.now c.args.hop c.in-Some.message
    (sym c.in_ok-message.ensures ∙ c.in-Some.is))
