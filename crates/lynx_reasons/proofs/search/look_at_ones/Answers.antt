use Rattle.std.proofs.Common.{ℕ, ◌+◌, ◌-◌, length, ap, arith}
use Rattle.lynx_reasons.specs.declared.culprit.Culprit.{Culprit}
use Rattle.lynx_reasons.specs.declared.culprit.Culprit.TheVariants.{One}
use Rattle.lynx_reasons.proofs.Looks.{goes_all, goes_next}
use Rattle.lynx_reasons.proofs.search.look_at_ones.Goals as goal

make : ℕ → Culprit
make first = One first

pub loop-first-preserved : goal.loop-first-preserved
unfolding make
loop-first-preserved c = record {
  keeps = c.in_ok-look.ensures.keeps;
  goes = goes_next c.args.set.now c.args.is_late make 0 c.loop-first.first (c.loop-first.first + 1) c.loop-first.first (make c.program_of.result) c.args.search.now c.loop-first.search c.look.new.search
      (omega arith) (omega arith) (ap make c.program_of.ensures) c.loop-first.invariant.goes c.in_ok-look.ensures.goes;
}

pub returns-clause-goes : goal.returns-clause-goes
unfolding make
returns-clause-goes c =
    let count = c.len-first-end.ensures.len in
    let all = ap length c.programs.ensures.value in
    goes_all c.args.set.now c.args.is_late make 0 c.loop-first.first (length c.args.set.now.programs - 0) c.args.search.now c.loop-first.search
    (omega (arith, count, all, c.loop-first-test.false, c.loop-first.auto.first-end)) c.loop-first.invariant.goes
