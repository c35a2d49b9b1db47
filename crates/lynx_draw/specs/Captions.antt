-- The texts of a picture that are the same in each.
use Rattle.std.specs.Prelude.{ℕ, List, codes}

-- how all of it is drawn
unfoldable pub head_text : List ℕ
head_text =
    codes "digraph lynx {\n  graph [fontname=\"Helvetica\", fontsize=12, style=rounded, labeljust=l, newrank=true, nodesep=0.4, ranksep=0.6];\n  node [shape=box, style=filled, fontname=\"Helvetica\", fontsize=11];\n  edge [fontname=\"Helvetica\", fontsize=10];\n"

-- what is said of a set that is accepted since no closed walk offends
unfoldable pub accepted_text : List ℕ
accepted_text =
    codes "  label=\"accepted\\l"

-- what is said of one that is accepted by blocks
unfoldable pub excused_text : List ℕ
excused_text =
    codes "  label=\"accepted by blocks: the orange steps lead all the way round, but no chains run so: between chains of other origins each block goes forward alone.\\l"

-- what is said of one that offends
unfoldable pub offending_text : List ℕ
offending_text =
    codes "  label=\"offending: by the red steps in their order, each chain may come before the next, all the way round.\\l"

-- what is said of the marks of a changed set
unfoldable pub changed_text : List ℕ
changed_text =
    codes "Thick frames stand around changed hops.\\l"

-- how the picture is read
unfoldable pub legend_text : List ℕ
legend_text =
    codes "Solid arrows lead to the next hop. Dashed lines join hops that may conflict, in the tables named.\\lWhere two chains of one program may conflict, it is drawn again. Each server has its colour.\\l\";\n"

-- what is said of one that offends where what stands in the way is drawn alone
unfoldable pub late_text : List ℕ
late_text =
    codes "  label=\"offending: the programs with thick frames stand in the way, since those of other servers meet two hops of theirs.\\l"

-- how a program is drawn that stands in the way
unfoldable pub thick_frame : List ℕ
thick_frame =
    codes "    penwidth=3;\n"

-- what is said of it below its name
unfoldable pub late_label : List ℕ
late_label =
    codes "\\lmeets other servers by two hops\\l"

-- how conflicts are drawn
unfoldable pub conflict_style : List ℕ
conflict_style =
    codes "  edge [style=dashed, dir=none];\n"

-- how the steps of a walk are drawn that offends
unfoldable pub walk_style : List ℕ
walk_style =
    codes "  edge [dir=forward, penwidth=2, color=\"#cc0000\", fontcolor=\"#cc0000\", fontsize=12];\n"

-- how those of one are drawn that is excused
unfoldable pub excused_style : List ℕ
excused_style =
    codes "  edge [dir=forward, penwidth=2, color=\"#cc7700\", fontcolor=\"#cc7700\", fontsize=12];\n"

-- the beginning of a box
unfoldable pub box_start : List ℕ
box_start =
    codes "  subgraph \"cluster group of "

-- what stands between the name of a box and its label
unfoldable pub label_start : List ℕ
label_start =
    codes "\" {\n    label=\""

-- what stands in its label before the server
unfoldable pub begin_words : List ℕ
begin_words =
    codes " programs that begin at server "

-- .. and behind the count of pairs
unfoldable pub pair_words : List ℕ
pair_words =
    codes " pairs of their hops may conflict, and are not drawn"

-- the end of an arrow that isn't seen
unfoldable pub unseen_end : List ℕ
unseen_end =
    codes " [style=invis];\n"

-- the end of the line that draws a thick frame around a hop
unfoldable pub mark_end : List ℕ
mark_end =
    codes " [penwidth=3];\n"
