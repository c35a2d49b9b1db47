-- The ends of edges.
use Rattle.std.specs.Prelude.{Bool, ◌==◌, ◌&&◌, Option, Some, None, if◌then◌else◌}
use Rattle.lynx_graph.specs.declared.edges.Edge.{Edge}
use Rattle.lynx_graph.specs.declared.meeting.Place.{Place}

-- the places are one
abbrev pub same_place : Place → Place → Bool
same_place left right = left.program == right.program && left.hop == right.hop

-- the other end of an edge of which the hop is one, itself where it is both
abbrev pub other_end : Place → Edge → Option Place
other_end place edge =
    if same_place edge.left place then Some edge.right
    else (if same_place edge.right place then Some edge.left else None)
