use Rattle.std.proofs.Common.{◌∙◌, refl, sym}
use Rattle.lynx_names.proofs.Ranges.{one_in, one_out}
use Rattle.lynx_draw.specs.Shown.{shows}
use Rattle.lynx_draw.proofs.shown.shown_programs.Goals as goal
use Rattle.lynx_draw.proofs.shown.shown_programs.Goals.{then-shows+in_ok-push, else-shows}

pub loop-number-preserved : goal.loop-number-preserved
loop-number-preserved c =
    let p = shows c.args.shown c.args.verdict.now c.args.late.now in
    let so_far = c.loop-number.invariant in
    let at = c.program_of-program.ensures in
    elim c.if-shows.branch [
      | then-shows+in_ok-push w ↦
          one_in p _ _ _ _ so_far at (sym c.shows.ensures ∙ w.if-shows.true) (rw (w.programs-is) w.in_ok-push.ensures.items)
      | else-shows w ↦ one_out p _ _ _ _ so_far at (sym c.shows.ensures ∙ w.if-shows.false) (rw (w.programs-is) refl)
    ]
