-- Groups of programs: those that are together have one leader.
use Rattle.std.specs.Prelude.{Bool, ◌==◌, ℕ, List, map, filter, slice_get}
use Rattle.std.specs.List.{list_all}
use Rattle.std.specs.Option.{option_map_or}
use Rattle.lynx_set.specs.Set.{Set}
use Rattle.lynx_set.specs.Lookups.{origin_of}
use Rattle.lynx_graph.specs.Tests.{same_server}
use Rattle.lynx_graph.specs.declared.members.Member.{Member}

-- the leader of a program, itself where it has no other
abbrev pub leader_of : List Member → ℕ → ℕ
leader_of members program =
    option_map_or (λ member. member.leader) (slice_get members program) program

-- the programs that lead themselves, and a group, which is all that have one leader
abbrev pub leaders_of : List Member → List ℕ
leaders_of members =
    map (λ member. member.program) (filter (λ member. member.program == member.leader) members)

abbrev pub group_of : List Member → ℕ → List ℕ
group_of members leader =
    map (λ member. member.program) (filter (λ member. member.leader == leader) members)

-- each program of the group begins at the server where its leader does
abbrev pub begin_at_one_server : Set → ℕ → List ℕ → Bool
begin_at_one_server set leader group =
    list_all (λ program. same_server (origin_of set program) (origin_of set leader)) group
