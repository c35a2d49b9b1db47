use Rattle.std.proofs.Common.{◌≡◌, ◌∙◌, append_assoc, take}
use Rattle.std.proofs.lemmas.List.{take_all}
use Rattle.lynx_status.proofs.copies.put_behind.Goals as goal

pub returns : goal.returns
returns c =
    let all : take c.loop-copy.copy-index c.args.copies.now ≡ c.args.copies.now = take_all _ _ c.loop-copy-test.false in
    c.loop-copy.invariant ∙ simp (all, c.in_ok-put_head.ensures, append_assoc)
