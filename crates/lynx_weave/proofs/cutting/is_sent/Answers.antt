use Rattle.std.proofs.Common.{◌∙◌, sym}
use Rattle.lynx_weave.specs.Cuts.{fronts}
use Rattle.lynx_weave.specs.Servers.{histories_of}
use Rattle.lynx_weave.specs.Senders.{sent_before}
use Rattle.lynx_weave.proofs.Sames.{same_found}
use Rattle.lynx_weave.proofs.cutting.is_sent.Goals as goal

pub returns-in-Some : goal.returns-in-Some
returns-in-Some c =
    same_found (sent_before c.args.set.now (fronts c.args.counts.now (histories_of c.args.servers.now)) c.args.message.now c.args.message.now.hop)
    c.in-Some.sent c.args.message.now c.eq.result c.eq.ensures (sym c.in_ok-sent.ensures ∙ c.in-Some.is)
