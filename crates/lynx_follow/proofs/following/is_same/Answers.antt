use Rattle.std.proofs.Common.{sym, ◌∙◌}
use Rattle.lynx_entry.proofs.Alike.{entries_decide}
use Rattle.lynx_follow.proofs.following.is_same.Goals as goal

pub returns : goal.returns
returns c =
    let decides = entries_decide c.args.entry.now c.args.other.now in
    (λ yes. decides.0 (sym c.eq.ensures ∙ yes), λ same. c.eq.ensures ∙ decides.1 same)
