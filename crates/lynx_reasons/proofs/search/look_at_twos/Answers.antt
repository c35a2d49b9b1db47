use Rattle.std.proofs.Common.{◌∙◌, ℕ, ◌+◌, ◌-◌, length, ap, arith}
use Rattle.lynx_reasons.specs.Culprits.{twos_of}
use Rattle.lynx_reasons.specs.declared.culprit.Culprit.{Culprit}
use Rattle.lynx_reasons.specs.declared.culprit.Culprit.TheVariants.{Two}
use Rattle.lynx_reasons.proofs.Looks.{goes_all, goes_all_lists, goes_lists, goes_next}
use Rattle.lynx_reasons.proofs.search.look_at_twos.Goals as goal

make : ℕ → ℕ → Culprit
make first second = Two first second

pub loop-second-preserved : goal.loop-second-preserved
unfolding make
loop-second-preserved c =
    let first = c.loop-first.first in
    let second = c.loop-second.second in
    record {
      keeps = c.in_ok-look.ensures.keeps;
      goes = goes_next c.args.set.now c.args.is_late (make first) (first + 1) (second - (first + 1)) (second + 1 - (first + 1)) second
          (make c.program_of.result c.program_of-in-loop-second.result) c.loop-first.search c.loop-second.search c.look.new.search
          (omega (arith, c.loop-second.auto.second)) (omega (arith, c.loop-second.auto.second))
          (ap (λ (p : ℕ). make p c.program_of-in-loop-second.result) c.program_of.ensures ∙ ap (make first) c.program_of-in-loop-second.ensures)
          c.loop-second.invariant.goes c.in_ok-look.ensures.goes;
    }

pub loop-first-preserved : goal.loop-first-preserved
unfolding make
loop-first-preserved c =
    let first = c.loop-first.first in
    let second = c.loop-second.second in
    let count = c.len-count.ensures.len in
    let all = ap length c.programs.ensures.value in
    record {
      keeps = c.loop-second.invariant.keeps;
      goes = goes_lists c.args.set.now c.args.is_late (twos_of c.args.set.now) 0 first (first + 1) first c.args.search.now c.loop-first.search c.loop-second.search
          (omega arith) (omega arith) c.loop-first.invariant.goes
          (goes_all c.args.set.now c.args.is_late (make first) (first + 1) (second - (first + 1)) (length c.args.set.now.programs - (first + 1)) c.loop-first.search c.loop-second.search
          (omega (arith, count, all, c.loop-first-test.true, c.loop-second-test.false, c.loop-second.auto.second, c.loop-second.auto.second-end)) c.loop-second.invariant.goes);
    }

pub returns-clause-goes : goal.returns-clause-goes
returns-clause-goes c =
    let count = c.len-count.ensures.len in
    let all = ap length c.programs.ensures.value in
    goes_all_lists c.args.set.now c.args.is_late (twos_of c.args.set.now) 0 c.loop-first.first (length c.args.set.now.programs - 0) c.args.search.now c.loop-first.search
    (omega (arith, count, all, c.loop-first-test.false, c.loop-first.auto.first-end)) c.loop-first.invariant.goes
