use Rattle.std.proofs.Common.{◌≡◌, ◌++◌, drop}
use Rattle.std.specs.List.{flat_map}
use Rattle.lynx_late.specs.Abroad.{hops_abroad}
use Rattle.lynx_reasons.specs.Late.{abroad_line}
use Rattle.lynx_reasons.proofs.late.put_abroad_lines.Given as goal

-- what is written and what is left are the whole
abbrev pub invariant-loop-hop : goal.invariant-loop-hop
invariant-loop-hop l =
    l.out.items ++ flat_map (abroad_line l.set l.place) (drop l.hop-index (hops_abroad l.set l.place))
    ≡ l.fn.out.items ++ flat_map (abroad_line l.set l.place) (hops_abroad l.set l.place)
