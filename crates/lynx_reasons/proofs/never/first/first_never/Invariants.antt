use Rattle.std.proofs.Common.{◌≡◌, ℕ, ◌+◌}
use Rattle.std.specs.Prelude.{find}
use Rattle.std.specs.List.{flat_map, range_with_len}
use Rattle.lynx_reasons.specs.Begins.{is_never, places_in}
use Rattle.lynx_reasons.proofs.never.first.first_never.Given as goal

-- the first of the hops that are left is the first of all
abbrev pub invariant-loop-hop : goal.invariant-loop-hop
invariant-loop-hop l = (left : ℕ) → l.hop + left ≡ l.hop-end →
    find (is_never l.set l.program) (flat_map (places_in l.set l.program) (range_with_len l.hop left))
    ≡ find (is_never l.set l.program) (flat_map (places_in l.set l.program) (range_with_len 0 l.hop-end))
