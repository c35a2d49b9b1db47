-- The lines of groups through which a closed walk may offend.
use Rattle.std.specs.Prelude.{Bool, not, ◌&&◌, ℕ, List, [], ◌++◌, codes, if◌then◌else◌}
use Rattle.std.specs.List.{flat_map}
use Rattle.lynx_lex.specs.Lines.{with_feed}
use Rattle.lynx_set.specs.Set.{Set}
use Rattle.lynx_graph.specs.declared.edges.Edge.{Edge}
use Rattle.lynx_graph.specs.Groups.{begin_at_one_server, group_of, leaders_of}
use Rattle.lynx_graph.specs.declared.members.Member.{Member}
use Rattle.lynx_reasons.specs.Groups.{meet_at_one_hop, names_text}

-- some programs of the group begin at different servers, and some program of it has edges at two of
-- its hops
abbrev pub is_mixed : Set → List Edge → ℕ → List ℕ → Bool
is_mixed set edges leader group =
    not (begin_at_one_server set leader group) && not (meet_at_one_hop set edges group)

abbrev pub mixed_line : Set → List ℕ → List ℕ
mixed_line set group = with_feed (codes "mixed" ++ names_text set group)

-- the line of the group that a program leads, if it is mixed
abbrev pub mixed_text : Set → List Edge → List Member → ℕ → List ℕ
mixed_text set edges members leader =
    if is_mixed set edges leader (group_of members leader)
    then mixed_line set (group_of members leader) else []

-- a line for each group that is mixed
abbrev pub mixed_lines : Set → List Edge → List Member → List ℕ
mixed_lines set edges members = flat_map (mixed_text set edges members) (leaders_of members)
