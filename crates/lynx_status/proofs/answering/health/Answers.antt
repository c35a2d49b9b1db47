use Rattle.std.proofs.Common.{◌≡◌, ◌∙◌, ap, sym, cond, refl}
use Rattle.lynx_status.specs.Health.{health_status}
use Rattle.lynx_status.proofs.answering.health.Goals as goal
use Rattle.lynx_status.proofs.answering.health.Goals.{then-is_well, else-is_well}

pub returns : goal.returns
returns g c =
    let figures = c.in_ok-figures.figures in
    let status : c.if-is_well.status ≡ health_status figures.servers.items figures.copies.items = elim c.if-is_well.branch [
      | then-is_well w ↦ w.status-is ∙ ap (λ run. cond run 200 503) (sym (sym c.is_well.ensures ∙ w.if-is_well.true))
      | else-is_well w ↦ w.status-is ∙ ap (λ run. cond run 200 503) (sym (sym c.is_well.ensures ∙ w.if-is_well.false))
    ] in
    (figures, c.in_ok-figures.ensures, record { status_is = status; content_is = refl; body_is = c.in_ok-body.ensures })
