use Rattle.std.proofs.Common.{◌∙◌, ◌++◌, [], ◌∷◌, ℕ, List, ap, arith, map, sym}
use Rattle.std.proofs.lemmas.List.FromFn.{map-range_with_len_more}
use Rattle.std.specs.List.{range_with_len}
use Rattle.lynx_carry.specs.Counts.{entries_at}
use Rattle.lynx_carry.proofs.counting.entries_of.Goals as goal

pub loop-number-preserved : goal.loop-number-preserved
loop-number-preserved c =
    let count : ℕ → ℕ = entries_at c.args.set.now c.args.requests.now in
    let number = c.loop-number.number in
    c.in_ok-push.ensures.items
    ∙ ap (λ (counts : List ℕ). counts ++ c.in_ok-entries.entries ∷ []) c.loop-number.invariant
    ∙ ap (λ (entries : ℕ). map count (range_with_len 0 number) ++ entries ∷ []) (c.in_ok-entries.ensures ∙ ap count c.at.ensures)
    ∙ sym (map-range_with_len_more count 0 number number (omega arith))
