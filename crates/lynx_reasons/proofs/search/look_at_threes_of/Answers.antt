use Rattle.std.proofs.Common.{◌∙◌, ℕ, ◌+◌, ◌-◌, length, ap, arith}
use Rattle.lynx_reasons.specs.declared.culprit.Culprit.{Culprit}
use Rattle.lynx_reasons.specs.declared.culprit.Culprit.TheVariants.{Three}
use Rattle.lynx_reasons.proofs.Looks.{goes_all, goes_next}
use Rattle.lynx_reasons.proofs.search.look_at_threes_of.Goals as goal

make : ℕ → ℕ → ℕ → Culprit
make first second third = Three first second third

pub loop-third-preserved : goal.loop-third-preserved
unfolding make
loop-third-preserved c =
    let first = c.args.pair.0 in
    let second = c.args.pair.1 in
    let third = c.loop-third.third in
    record {
      keeps = c.in_ok-look.ensures.keeps;
      goes = goes_next c.args.set.now c.args.is_late (make first second) (second + 1) (third - (second + 1)) (third + 1 - (second + 1)) third
          (make c.program_of.result c.program_of-in-loop-third.result c.program_of-in-loop-third-2.result) c.args.search.now c.loop-third.search c.look.new.search
          (omega (arith, c.loop-third.auto.third)) (omega (arith, c.loop-third.auto.third))
          (ap (λ (p : ℕ). make p c.program_of-in-loop-third.result c.program_of-in-loop-third-2.result) c.program_of.ensures
          ∙ ap (λ (p : ℕ). make first p c.program_of-in-loop-third-2.result) c.program_of-in-loop-third.ensures ∙ ap (make first second) c.program_of-in-loop-third-2.ensures)
          c.loop-third.invariant.goes c.in_ok-look.ensures.goes;
    }

pub returns-clause-goes : goal.returns-clause-goes
unfolding make
returns-clause-goes c =
    let second = c.args.pair.1 in
    let third = c.loop-third.third in
    let count = c.len-count.ensures.len in
    let all = ap length c.programs.ensures.value in
    let within = c.requires.second in
    goes_all c.args.set.now c.args.is_late (make c.args.pair.0 second) (second + 1) (third - (second + 1)) (length c.args.set.now.programs - (second + 1)) c.args.search.now c.loop-third.search
    (omega (arith, count, all, within, c.loop-third-test.false, c.loop-third.auto.third, c.loop-third.auto.third-end)) c.loop-third.invariant.goes
