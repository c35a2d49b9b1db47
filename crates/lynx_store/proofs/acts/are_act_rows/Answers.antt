use Rattle.std.proofs.Common.{◌≡◌, length, rules, arith}
use Rattle.lynx_store.proofs.ActLemmas.{shows_next, all_shown}
use Rattle.lynx_store.proofs.acts.are_act_rows.Goals as goal

pub loop-place-preserved : goal.loop-place-preserved
loop-place-preserved c = λ k less.
    shows_next c.args.acts.now c.args.rows.now c.loop-place.place k c.loop-place.invariant (c.is_act_at.ensures.0 c.if-not-is_act_at.false) less

pub returns : goal.returns
returns c =
    let same : length c.args.acts.now ≡ length c.args.rows.now = search rules in
    (λ yes. all_shown c.args.acts.now c.args.rows.now same (λ k less. c.loop-place.invariant k (omega arith)), λ is. search rules)
