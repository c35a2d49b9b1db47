use Rattle.std.proofs.Common.{◌≡◌, ◌++◌, drop}
use Rattle.lynx_draw.specs.Shown.{shown_edges}
use Rattle.lynx_draw.proofs.shown.shown_edges.Given as goal

-- those that were added and those that are left to add are all
abbrev pub invariant-loop-edge : goal.invariant-loop-edge
invariant-loop-edge l = l.drawn.items ++ shown_edges l.programs l.boxes (drop l.edge-index l.edges) ≡ shown_edges l.programs l.boxes l.edges
