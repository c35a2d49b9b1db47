use Rattle.std.proofs.Common.{Bool, true, false, List, [], ◌++◌, ◌∙◌, ap, sym}
use Rattle.std.specs.Prelude.{if◌then◌else◌}
use Rattle.std.proofs.lemmas.List.{append-nil}
use Rattle.lynx_draw.specs.Clusters.{cluster_text}
use Rattle.lynx_draw.specs.Late.{is_late}
use Rattle.lynx_draw.proofs.Written.{two_written}
use Rattle.lynx_draw.proofs.programs.put_program.Goals as goal

pub returns-in_ok-put_cluster-2 : goal.returns-in_ok-put_cluster-2
returns-in_ok-put_cluster-2 c =
    let set = c.args.set.now in
    let program = c.args.program in
    let before = c.args.out.now.items in
    let first = c.put_cluster.new.out.items in
    let own = is_late c.args.late.now program in
    two_written before first _ (cluster_text set own program false) (cluster_text set own program true)
    (c.in_ok-put_cluster.ensures ∙ ap (λ (late : Bool). before ++ cluster_text set late program false) c.is_late-own.ensures)
    (c.in_ok-put_cluster-2.ensures ∙ ap (λ (late : Bool). first ++ cluster_text set late program true) c.is_late-own.ensures)
    ∙ ap (λ (twice : Bool). before ++ (cluster_text set own program false ++ (if twice then cluster_text set own program true else [])))
    (sym c.if-is_drawn_twice.true ∙ c.is_drawn_twice.ensures)

pub returns-else-is_drawn_twice : goal.returns-else-is_drawn_twice
returns-else-is_drawn_twice c =
    let set = c.args.set.now in
    let program = c.args.program in
    let before = c.args.out.now.items in
    let own = is_late c.args.late.now program in
    let text = cluster_text set own program false in
    c.in_ok-put_cluster.ensures ∙ ap (λ (late : Bool). before ++ cluster_text set late program false) c.is_late-own.ensures
    ∙ ap (λ written. before ++ written) (sym (append-nil text))
    ∙ ap (λ (twice : Bool). before ++ (text ++ (if twice then cluster_text set own program true else [])))
    (sym c.if-is_drawn_twice.false ∙ c.is_drawn_twice.ensures)
