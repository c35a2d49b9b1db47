use Rattle.std.proofs.Common.{◌≡◌, ◌∙◌, ◌+◌, ◌++◌, ℕ, zero, suc, List, ap, append_assoc, arith, sym}
use Rattle.std.proofs.lemmas.List.{append-nil}
use Rattle.std.specs.List.{flat_map, range_with_len}
use Rattle.lynx_show.specs.Finds.{line_behind}
use Rattle.lynx_show.proofs.finding.put_later_hops.Goals as goal

-- one number more
further : (f : ℕ → List ℕ) (first n last : ℕ) → first + n ≡ last → flat_map f (range_with_len first (suc n)) ≡ flat_map f (range_with_len first n) ++ f last
further f first zero last at = append-nil (f first) ∙ ap f (omega (arith, at))
further f first (suc n) last at =
    ap (λ later. f first ++ later) (further f (first + 1) n last (omega (arith, at))) ∙ sym (append_assoc (f first) (flat_map f (range_with_len (first + 1) n)) (f last))

pub loop-before-preserved : goal.loop-before-preserved
loop-before-preserved c =
    let f = line_behind c.args.set.now c.args.stores.now c.args.begun.now in
    let n = c.loop-before.before in
    let same : n + 1 ≡ suc n = omega arith in
    c.in_ok-put_later.ensures
    ∙ ap (λ (text : List ℕ). text ++ f n) c.loop-before.invariant
    ∙ append_assoc c.args.text.now.items (flat_map f (range_with_len 0 n)) (f n)
    ∙ ap (λ (lines : List ℕ). c.args.text.now.items ++ lines) (sym (further f 0 n n (omega arith)))
    ∙ ap (λ (m : ℕ). c.args.text.now.items ++ flat_map f (range_with_len 0 m)) (sym same)
