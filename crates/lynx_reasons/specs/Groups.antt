-- The lines of groups of programs.
use Rattle.std.specs.Prelude.{Bool, ◌==◌, ◌&&◌, ◌||◌, nat_lt, ℕ, List, ◌∷◌, ◌++◌, filter, length, codes, if◌then◌else◌}
use Rattle.std.specs.List.{enumerate_from, flat_map, list_all, list_any}
use Rattle.lynx_lex.specs.Lines.{with_feed}
use Rattle.lynx_set.specs.Set.{Set}
use Rattle.lynx_set.specs.Lookups.{hops_of, program_name}
use Rattle.lynx_graph.specs.declared.edges.Edge.{Edge}
use Rattle.lynx_check.specs.declared.accepted.Reason.{Reason}
use Rattle.lynx_check.specs.declared.accepted.Reason.TheVariants.{Walks, Blocks as ByBlocks}
use Rattle.lynx_graph.specs.Groups.{begin_at_one_server, group_of, leaders_of}
use Rattle.lynx_graph.specs.declared.members.Member.{Member}
use Rattle.lynx_reasons.specs.declared.groups.GroupReason.{GroupReason}
use Rattle.lynx_reasons.specs.declared.groups.GroupReason.TheVariants.{OneOrigin, OneHop, NoWalk, Blocks}

-- some edge is at the hop
abbrev pub is_met : List Edge → ℕ → ℕ → Bool
is_met edges program hop =
    list_any (λ edge. (edge.left.program == program && edge.left.hop == hop) ||
    (edge.right.program == program && edge.right.hop == hop)) edges

-- how many hops of a program have edges
abbrev pub hops_met : Set → List Edge → ℕ → ℕ
hops_met set edges program =
    length (filter (λ numbered. is_met edges program numbered.0)
    (enumerate_from 0 (hops_of set program)))

-- no program of the group has edges at two of its hops
abbrev pub meet_at_one_hop : Set → List Edge → List ℕ → Bool
meet_at_one_hop set edges group = list_all (λ program. nat_lt (hops_met set edges program) 2) group

-- the reason that an accepted set has
abbrev pub set_reason : Reason → GroupReason
set_reason Walks = NoWalk
set_reason ByBlocks = Blocks

-- the first reason that holds of a group
abbrev pub group_reason : Set → List Edge → Reason → ℕ → List ℕ → GroupReason
group_reason set edges reason leader group =
    if begin_at_one_server set leader group then OneOrigin
    else (if meet_at_one_hop set edges group then OneHop else set_reason reason)

abbrev pub reason_word : GroupReason → List ℕ
reason_word OneOrigin = codes "one-origin"
reason_word OneHop = codes "one-hop"
reason_word NoWalk = codes "no-walk"
reason_word Blocks = codes "blocks"

-- the name of each program after a space
abbrev pub names_text : Set → List ℕ → List ℕ
names_text set group = flat_map (λ program. 32 ∷ program_name set program) group

-- the line of the group that a program leads
abbrev pub group_line : Set → List Edge → Reason → List Member → ℕ → List ℕ
group_line set edges reason members leader =
    with_feed (codes "group "
    ++ reason_word (group_reason set edges reason leader (group_of members leader))
    ++ names_text set (group_of members leader))

-- a line for each group
abbrev pub group_lines : Set → List Edge → Reason → List Member → List ℕ
group_lines set edges reason members =
    flat_map (group_line set edges reason members) (leaders_of members)
