use Rattle.std.proofs.Common.{◌++◌, ◌∷◌, [], ◌∙◌, List, ℕ, append_assoc, ap}
use Rattle.lynx_reasons.specs.Summaries.{accepted_head}
use Rattle.lynx_reasons.proofs.summaries.put_accepted_head.Goals as goal

pub returns : goal.returns
unfolding accepted_head
returns c =
    c.in_ok-push.ensures.items
    ∙ ap (λ (xs : List ℕ). xs ++ 10 ∷ []) (c.in_ok-put.ensures ∙ ap (λ (xs : List ℕ). c.args.out.now.items ++ xs) c.as_slice.ensures)
    ∙ append_assoc c.args.out.now.items _ (10 ∷ [])
