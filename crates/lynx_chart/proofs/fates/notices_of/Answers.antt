use Rattle.std.proofs.Common.{◌+◌, ◌∷◌, ◌∙◌, ap, drop, sym}
use Rattle.std.proofs.lemmas.List.{at_drop_more}
use Rattle.lynx_chart.specs.Fates.{notice_of, notices_of}
use Rattle.lynx_chart.proofs.Rests.{kept_next}
use Rattle.lynx_chart.proofs.fates.notices_of.Goals as goal

pub loop-outcome-preserved : goal.loop-outcome-preserved
loop-outcome-preserved c =
    let outcomes = c.args.outcomes.now in
    let index = c.loop-outcome.outcome-index in
    let outcome = c.outcome-item.result in
    let rest = drop (index + 1) outcomes in
    kept_next notice_of outcome rest c.loop-outcome.notices.items c.add_notice.new.notices.items (drop index outcomes) (notices_of outcomes)
    (at_drop_more (λ xs. xs) outcomes index outcome c.loop-outcome-test.true ∙ ap (λ first. first ∷ rest) (sym c.outcome-item.is))
    c.in_ok-add_notice.ensures c.loop-outcome.invariant
