use Rattle.std.proofs.Common.{◌≡◌, [], ◌∷◌, ◌++◌}
use Rattle.std.specs.List.{flat_map, range_with_len}
use Rattle.lynx_chart.specs.Spots.{top_of}
use Rattle.lynx_chart.specs.Shapes.{Column, drawn}
use Rattle.lynx_chart.proofs.frames.put_columns.Given as goal

-- those below the number are written
abbrev pub invariant-loop-number : goal.invariant-loop-number
invariant-loop-number l =
    l.out.items ≡ l.fn.out.items ++ drawn (flat_map (λ server. Column server (top_of l.rows) ∷ []) (range_with_len 0 l.number))
