use Rattle.std.proofs.Common.{◌++◌, ◌∷◌, [], ◌∙◌, List, ℕ, append_assoc, ap}
use Rattle.std.specs.Prelude.{codes}
use Rattle.lynx_reasons.specs.Blame.{culprit_text}
use Rattle.lynx_reasons.specs.Summaries.{blame_line}
use Rattle.lynx_reasons.proofs.summaries.put_blame_line.Goals as goal

pub returns : goal.returns
unfolding blame_line
returns c =
    let old = c.args.out.now.items in
    let start : List ℕ = codes "Look first at" in
    let end : List ℕ = codes ", without which the set is accepted." in
    let text = culprit_text c.args.set.now c.args.culprit.now in
    let begun = c.in_ok-put.ensures ∙ ap (λ (xs : List ℕ). old ++ xs) c.as_slice.ensures in
    let named = c.in_ok-put_culprit.ensures ∙ ap (λ (xs : List ℕ). xs ++ text) begun ∙ append_assoc old start text in
    let ended = c.in_ok-put-2.ensures ∙ ap (λ (xs : List ℕ). c.put_culprit.new.out.items ++ xs) c.as_slice-2.ensures ∙ ap (λ (xs : List ℕ). xs ++ end) named
    ∙ append_assoc old (start ++ text) end ∙ ap (λ (xs : List ℕ). old ++ xs) (append_assoc start text end) in
    c.in_ok-push.ensures.items ∙ ap (λ (xs : List ℕ). xs ++ 10 ∷ []) ended ∙ append_assoc old (start ++ (text ++ end)) (10 ∷ [])
