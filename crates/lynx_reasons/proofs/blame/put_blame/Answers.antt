use Rattle.std.proofs.Common.{◌≡◌, ◌∙◌, ◌++◌, ℕ, Bool, true, false, List, append_assoc, refl, ap}
use Rattle.std.proofs.lemmas.Result.{on_ok_weaker}
use Rattle.lynx_reasons.specs.Blame.{bound_text, without_lines}
use Rattle.lynx_reasons.specs.Culprits.{most_looks}
use Rattle.lynx_reasons.specs.declared.culprit.Culprit.{Culprit}
use Rattle.lynx_reasons.proofs.blame.put_blame.Goals as goal

-- how many were looked at matters only where one wasn't
same_bound : (is_bound : Bool) (looks most : ℕ) → (is_bound ≡ true → looks ≡ most) → bound_text is_bound looks ≡ bound_text is_bound most
same_bound true looks most same = ap (bound_text true) (same refl)
same_bound false looks most same = refl

pub returns : goal.returns
returns c =
    let set = c.args.set.now in
    let search = c.in_ok-search.search in
    let lines = without_lines set search.found in
    on_ok_weaker c.put_bound.result
    (λ written. (
      lines ++ bound_text search.is_bound (most_looks set),
      record {
        found = search.found;
        is_bound = search.is_bound;
        right = c.in_ok-search.ensures.right;
        fewest = c.in_ok-search.ensures.fewest;
        whole = refl;
      },
      written
          ∙ ap (λ items. items ++ bound_text search.is_bound search.looks) (c.in_ok-put_without_lines.ensures ∙ ap (λ (found : List Culprit). c.args.out.now.items ++ without_lines set found) c.as_slice.ensures)
          ∙ ap (λ text. (c.args.out.now.items ++ lines) ++ text) (same_bound search.is_bound search.looks (most_looks set) c.in_ok-search.ensures.looks)
          ∙ append_assoc c.args.out.now.items lines (bound_text search.is_bound (most_looks set)),
    ))
    c.put_bound.ensures
