use Rattle.std.proofs.Common.{◌≡◌, ◌∙◌, append_assoc, take}
use Rattle.std.proofs.lemmas.List.{take_all}
use Rattle.lynx_status.proofs.metrics.put_begins_family.Goals as goal

pub returns : goal.returns
returns c =
    let all : take c.loop-server.server-index c.args.servers.now ≡ c.args.servers.now = take_all _ _ c.loop-server-test.false in
    c.loop-server.invariant ∙ simp (all, c.in_ok-put_head.ensures, append_assoc)
