-- How groups are joined, edge by edge.
use Rattle.std.specs.Prelude.{◌==◌, ℕ, List, [], ◌∷◌, map, max, min, length, if◌then◌else◌}
use Rattle.std.specs.List.{range_with_len}
use Rattle.lynx_set.specs.Set.{Set}
use Rattle.lynx_graph.specs.declared.edges.Edge.{Edge}
use Rattle.lynx_graph.specs.declared.members.Member.{Member}
use Rattle.lynx_graph.specs.Groups.{leader_of}

-- each program by itself
abbrev pub by_itself : ℕ → Member
by_itself program = record { program = program; leader = program }

abbrev pub alone : Set → List Member
alone set = map by_itself (range_with_len 0 (length set.programs))

-- the new leader where it is the old one
abbrev pub new_leader : ℕ → ℕ → ℕ → ℕ
new_leader old new leader = if leader == old then new else leader

abbrev pub led : ℕ → ℕ → Member → Member
led old new member = record { program = member.program; leader = new_leader old new member.leader }

-- the lesser leader leads the groups of both
abbrev pub led_by_lesser : ℕ → ℕ → List Member → List Member
led_by_lesser left right members = map (led (max left right) (min left right)) members

abbrev pub joined : ℕ → ℕ → List Member → List Member
joined left right members = led_by_lesser (leader_of members left) (leader_of members right) members

-- the groups after these edges
abbrev pub joined_by : List Member → List Edge → List Member
joined_by members [] = members
joined_by members (edge ∷ edges) =
    joined_by (joined edge.left.program edge.right.program members) edges
