use Rattle.std.proofs.Common.{take}
use Rattle.std.specs.List.{flat_map}
use Rattle.std.specs.Io.KnownBytes.{Appends}
use Rattle.lynx_report.specs.Checks.{edge_line}
use Rattle.lynx_report.proofs.verdict.write_edges.Given as goal

-- the edges so far are printed
abbrev pub invariant-loop-visit : goal.invariant-loop-visit
invariant-loop-visit g l =
    Appends (g.W.Write.contents l.initial.writer) (g.W.Write.contents l.writer) (flat_map (edge_line l.set) (take l.visit-index l.edges))
