-- What a picture is drawn by.
use Rattle.std.specs.Prelude.{List}
use Rattle.lynx_set.specs.Set.{Set}
use Rattle.lynx_check.specs.declared.verdict.Verdict.{Verdict}
use Rattle.lynx_graph.specs.Edges.{edges_of}
use Rattle.lynx_graph.specs.declared.edges.Edge.{Edge}
use Rattle.lynx_graph.specs.declared.members.Member.{Member}
use Rattle.lynx_draw.specs.declared.parts.Parts.{Parts}
use Rattle.lynx_draw.specs.declared.shown.Extent.{Extent}
use Rattle.lynx_draw.specs.declared.steps.Step.{Step}
use Rattle.lynx_draw.specs.Boxes.{boxes_of}
use Rattle.lynx_draw.specs.Late.{late_of}
use Rattle.lynx_draw.specs.Shown.{shown_programs, walk_drawn}
use Rattle.lynx_draw.specs.Steps.{steps_of}

-- the steps of the walk that is drawn
abbrev pub steps_in : Extent → List Edge → Verdict → List Step
steps_in shown edges verdict = steps_of edges (walk_drawn shown verdict)

-- the boxes, what stands in the way, the programs and the steps, where programs have these leaders
abbrev pub parts_of : Extent → Set → Verdict → List Member → Parts
parts_of shown set verdict members = record {
  boxes = boxes_of set members;
  late = late_of set verdict;
  programs = shown_programs shown set verdict (late_of set verdict);
  steps = steps_in shown (edges_of set) verdict;
}
