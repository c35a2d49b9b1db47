-- The summary of a verdict, for people: ten lines at most.
use Rattle.std.specs.Prelude.{◌≡◌, ◌-◌, Bool, ℕ, List, [], ◌∷◌, ◌++◌, codes, decimal, drop, if◌then◌else◌, length, nat_lt, take}
use Rattle.std.specs.List.{flat_map, zip}
use Rattle.lynx_lex.specs.Lines.{with_feed}
use Rattle.lynx_check.specs.Reasons.{reason_of}
use Rattle.lynx_check.specs.declared.accepted.Reason.{Reason}
use Rattle.lynx_check.specs.declared.verdict.Verdict.{Verdict}
use Rattle.lynx_check.specs.declared.verdict.Verdict.TheVariants.{Accepted, Offending}
use Rattle.lynx_graph.specs.Edges.{edges_of}
use Rattle.lynx_graph.specs.Groups.{group_of, leaders_of}
use Rattle.lynx_graph.specs.Together.{AreLed}
use Rattle.lynx_graph.specs.declared.edges.Edge.{Edge}
use Rattle.lynx_graph.specs.declared.meeting.Place.{Place}
use Rattle.lynx_graph.specs.declared.members.Member.{Member}
use Rattle.lynx_graph.specs.declared.visit.Visit.{Visit}
use Rattle.lynx_set.specs.Set.{Set}
use Rattle.lynx_reasons.specs.Blame.{culprit_text, name_text}
use Rattle.lynx_reasons.specs.Culprits.{AreCulprits, AreFewest}
use Rattle.lynx_reasons.specs.Groups.{group_reason, names_text}
use Rattle.lynx_reasons.specs.HopLines.{line_of}
use Rattle.lynx_reasons.specs.Meets.{server_text, tables_text}
use Rattle.lynx_reasons.specs.declared.culprit.Culprit.{Culprit}
use Rattle.lynx_reasons.specs.declared.groups.GroupReason.{GroupReason}
use Rattle.lynx_reasons.specs.declared.groups.GroupReason.TheVariants.{OneOrigin, OneHop, NoWalk, Blocks}

-- each visit of a walk with the next, and the last with the first
abbrev pub edges : List Visit → List (Visit × Visit)
edges walk = zip walk (drop 1 walk ++ take 1 walk)

-- the hop by which a visit is left, and the one by which the next is entered
abbrev pub left_at : Visit → Place
left_at visit = record { program = visit.program; hop = visit.left }

abbrev pub entered_at : Visit → Place
entered_at visit = record { program = visit.program; hop = visit.entered }

-- a hop, and the line of the set's text on which it stands
unfoldable pub hop_text : Set → Place → List ℕ
hop_text set place =
    codes "hop " ++ decimal place.hop ++ codes " of" ++ name_text set place.program
    ++ codes " (line " ++ decimal (line_of set place) ++ codes ")"

-- two hops, of which one comes before the other in some run
unfoldable pub two_text : Set → Place → Place → List ℕ
two_text set left right = hop_text set left ++ codes " meets " ++ hop_text set right

-- .. and where they meet
unfoldable pub met_text : Set → Place → Place → List ℕ
met_text set left right =
    codes " at" ++ server_text set left ++ codes " in" ++ tables_text set left right

-- a conflict of a cycle
unfoldable pub meeting_line : Set → Visit × Visit → List ℕ
meeting_line set edge =
    with_feed (codes "  " ++ two_text set (left_at edge.0) (entered_at edge.1)
    ++ met_text set (left_at edge.0) (entered_at edge.1))

abbrev pub meeting_lines : Set → List (Visit × Visit) → List ℕ
meeting_lines set edges = flat_map (meeting_line set) edges

-- how many of so many aren't told, where that many are at most
unfoldable pub more_line : ℕ → ℕ → List ℕ
more_line count most =
    if nat_lt most count then with_feed (codes "  and " ++ decimal (count - most) ++ codes " more")
    else []

-- programs without which the set is accepted
unfoldable pub blame_line : Set → Culprit → List ℕ
blame_line set culprit =
    with_feed (codes "Look first at" ++ culprit_text set culprit
    ++ codes ", without which the set is accepted.")

abbrev pub blame_lines : Set → List Culprit → List ℕ
blame_lines set found = flat_map (blame_line set) found

-- the lines that are the same for each set
unfoldable pub cycle_head : List ℕ
cycle_head = with_feed (codes "These hops can meet in a circle, which no order explains:")

unfoldable pub offending_end : List ℕ
offending_end =
    with_feed (codes "lynx mend tells what makes it accepted, and --all lists every meeting.")

unfoldable pub accepted_head : List ℕ
accepted_head = with_feed (codes "Whatever these programs do, a serial order explains it:")

-- the conflicts of a cycle, four at most
abbrev pub cycle_lines : Set → List (Visit × Visit) → List ℕ
cycle_lines set edges =
    cycle_head ++ meeting_lines set (take 4 edges) ++ more_line (length edges) 4

-- the cycle, and the programs to look at
abbrev pub offending_lines : Set → List (Visit × Visit) → List Culprit → List ℕ
offending_lines set edges found =
    cycle_lines set edges ++ blame_lines set found ++ offending_end

-- why no run of the programs of a group goes wrong
unfoldable pub reason_text : Set → ℕ → GroupReason → List ℕ
reason_text set leader OneOrigin =
    codes ": all begin at" ++ server_text set (record { program = leader; hop = 0 })
    ++ codes ", and keep that order everywhere"
reason_text set leader OneHop = codes ": none of them meets others at two of its hops"
reason_text set leader NoWalk =
    codes ": no cycle goes through a chain by two hops and over two first servers"
reason_text set leader Blocks = codes ": the order of chains of one first server rules each cycle out"

-- a group, and why it is fine
unfoldable pub fine_line : Set → List Edge → Reason → List Member → ℕ → List ℕ
fine_line set edges reason members leader =
    with_feed (codes " " ++ names_text set (group_of members leader)
    ++ reason_text set leader
    (group_reason set edges reason leader (group_of members leader)))

abbrev pub fine_lines : Set → List Edge → Reason → List Member → List ℕ → List ℕ
fine_lines set edges reason members leaders =
    flat_map (fine_line set edges reason members) leaders

-- the groups of an accepted set, eight at most
abbrev pub accepted_lines : Set → Reason → List Member → List ℕ
accepted_lines set reason members =
    accepted_head
    ++ fine_lines set (edges_of set) reason members (take 8 (leaders_of members))
    ++ more_line (length (leaders_of members)) 8

-- the summary of a verdict
abbrev pub IsSummary : Set → Verdict → List ℕ → Type 0
IsSummary set (Accepted own) printed =
    (members : List Member) × AreLed set members
    × (printed ≡ accepted_lines set (reason_of own.excused) members)
IsSummary set (Offending walk blocks) printed =
    (found : List Culprit) × (is_bound : Bool) × AreCulprits set found
    × AreFewest set found is_bound × (printed ≡ offending_lines set (edges walk) found)
