-- The whole picture of a set.
use Rattle.std.specs.Prelude.{◌≡◌, ℕ, List, [], ◌++◌, codes, Option, Some, None}
use Rattle.lynx_set.specs.Set.{Set}
use Rattle.lynx_check.specs.declared.verdict.Verdict.{Verdict}
use Rattle.lynx_graph.specs.declared.visit.Visit.{Visit}
use Rattle.lynx_check.specs.declared.verdict.Verdict.TheVariants.{Accepted, Offending}
use Rattle.lynx_draw.specs.Captions.{accepted_text, changed_text, conflict_style, excused_style, excused_text, head_text, late_text, legend_text, offending_text, walk_style}
use Rattle.lynx_graph.specs.declared.edges.Edge.{Edge}
use Rattle.lynx_graph.specs.Edges.{edges_of}
use Rattle.lynx_graph.specs.Together.{AreLed}
use Rattle.lynx_graph.specs.declared.members.Member.{Member}
use Rattle.lynx_draw.specs.Shown.{shown_edges}
use Rattle.lynx_draw.specs.declared.shown.Extent.{Extent}
use Rattle.lynx_draw.specs.declared.shown.Extent.TheVariants.{All, Walk, Late}
use Rattle.lynx_draw.specs.declared.parts.Parts.{Parts}
use Rattle.lynx_draw.specs.Parts.{parts_of}
use Rattle.lynx_draw.specs.Programs.{programs_text}
use Rattle.lynx_draw.specs.Lines.{conflict_lines, step_lines}
use Rattle.lynx_draw.specs.Marks.{marks_text}

-- an accepted set has a closed walk that is excused, or none
abbrev pub accepted_caption : Option (List Visit) → List ℕ
accepted_caption None = accepted_text
accepted_caption (Some walk) = excused_text

-- the verdict, where its walk is drawn
abbrev pub verdict_text : Verdict → List ℕ
verdict_text (Accepted own) = accepted_caption own.excused
verdict_text (Offending walk blocks) = offending_text

-- .. and where the late blocks alone are
abbrev pub late_caption : Verdict → List ℕ
late_caption (Accepted own) = accepted_text
late_caption (Offending walk blocks) = late_text

-- the verdict, which stands below it
abbrev pub caption : Extent → Verdict → List ℕ
caption All verdict = verdict_text verdict
caption Walk verdict = verdict_text verdict
caption Late verdict = late_caption verdict

-- how steps are drawn: those of an excused walk in the colour of an excuse
abbrev pub accepted_style : Option (List Visit) → List ℕ
accepted_style None = walk_style
accepted_style (Some walk) = excused_style

abbrev pub style_of : Verdict → List ℕ
style_of (Accepted own) = accepted_style own.excused
style_of (Offending walk blocks) = walk_style

-- what is said of a changed set, of which there is the set before; nothing of others
abbrev pub changed_caption : Option Set → List ℕ
changed_caption None = []
changed_caption (Some before) = changed_text

-- the marks on its changed hops
abbrev pub marks_since : Option Set → Set → List Edge → Parts → List ℕ
marks_since None set edges parts = []
marks_since (Some before) set edges parts =
    marks_text before set parts.boxes edges parts.programs

-- the programs, the conflicts by which no step goes, the steps, and the marks on what changed since
-- the set before, if there is one
abbrev pub picture_with : Extent → Option Set → Set → Verdict → List Edge → Parts → List ℕ
picture_with shown before set verdict edges parts =
    head_text ++ caption shown verdict ++ changed_caption before ++ legend_text
    ++ programs_text set parts.boxes parts.late edges parts.programs
    ++ conflict_style
    ++ conflict_lines set parts.steps (shown_edges parts.programs parts.boxes edges)
    ++ style_of verdict ++ step_lines set 1 parts.steps ++ marks_since before set edges parts
    ++ codes "}\n"

-- the same where programs have these leaders
abbrev pub picture_of : Extent → Option Set → Set → Verdict → List Member → List ℕ
picture_of shown before set verdict members =
    picture_with shown before set verdict (edges_of set) (parts_of shown set verdict members)

-- the picture of a set and of a verdict, since the set before: each program's leader is the least
-- of its group
abbrev pub IsPictureSince : Extent → Option Set → Set → Verdict → List ℕ → Type 0
IsPictureSince shown before set verdict text =
    (members : List Member) × AreLed set members
    × (text ≡ picture_of shown before set verdict members)

-- the picture of a set and of a verdict
abbrev pub IsPicture : Extent → Set → Verdict → List ℕ → Type 0
IsPicture shown set verdict text = IsPictureSince shown None set verdict text

-- the picture of a changed set, in which the hops are marked that the set before hasn't
abbrev pub IsChangedPicture : Extent → Set → Set → Verdict → List ℕ → Type 0
IsChangedPicture shown before set verdict text = IsPictureSince shown (Some before) set verdict text
