use Rattle.std.proofs.Common.{◌≡◌, [], ◌∷◌, ◌++◌}
use Rattle.std.specs.List.{flat_map, range_with_len}
use Rattle.lynx_chart.specs.Shapes.{Head, drawn}
use Rattle.lynx_chart.proofs.frames.put_heads.Given as goal

-- those below the number are written
abbrev pub invariant-loop-number : goal.invariant-loop-number
invariant-loop-number l =
    l.out.items ≡ l.fn.out.items ++ drawn (flat_map (λ server. Head server l.height ∷ []) (range_with_len 0 l.number))
