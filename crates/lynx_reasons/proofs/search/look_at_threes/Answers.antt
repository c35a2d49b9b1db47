use Rattle.std.proofs.Common.{◌+◌, ◌-◌, length, ap, arith}
use Rattle.lynx_reasons.specs.Culprits.{threes_from, threes_of}
use Rattle.lynx_reasons.proofs.Looks.{goes_all_lists, goes_lists}
use Rattle.lynx_reasons.proofs.search.look_at_threes.Goals as goal

pub loop-second-preserved : goal.loop-second-preserved
loop-second-preserved c =
    let first = c.loop-first.first in
    let second = c.loop-second.second in
    record {
      keeps = c.in_ok-look_at_threes_of.ensures.keeps;
      goes = goes_lists c.args.set.now c.args.is_late (threes_of c.args.set.now first) (first + 1) (second - (first + 1)) (second + 1 - (first + 1)) second
          c.loop-first.search c.loop-second.search c.look_at_threes_of.new.search
          (omega (arith, c.loop-second.auto.second)) (omega (arith, c.loop-second.auto.second))
          c.loop-second.invariant.goes c.in_ok-look_at_threes_of.ensures.goes;
    }

pub loop-first-preserved : goal.loop-first-preserved
loop-first-preserved c =
    let first = c.loop-first.first in
    let second = c.loop-second.second in
    let count = c.len-count.ensures.len in
    let all = ap length c.programs.ensures.value in
    record {
      keeps = c.loop-second.invariant.keeps;
      goes = goes_lists c.args.set.now c.args.is_late (threes_from c.args.set.now) 0 first (first + 1) first c.args.search.now c.loop-first.search c.loop-second.search
          (omega arith) (omega arith) c.loop-first.invariant.goes
          (goes_all_lists c.args.set.now c.args.is_late (threes_of c.args.set.now first) (first + 1) (second - (first + 1)) (length c.args.set.now.programs - (first + 1)) c.loop-first.search c.loop-second.search
          (omega (arith, count, all, c.loop-first-test.true, c.loop-second-test.false, c.loop-second.auto.second, c.loop-second.auto.second-end)) c.loop-second.invariant.goes);
    }

pub returns-clause-goes : goal.returns-clause-goes
returns-clause-goes c =
    let count = c.len-count.ensures.len in
    let all = ap length c.programs.ensures.value in
    goes_all_lists c.args.set.now c.args.is_late (threes_from c.args.set.now) 0 c.loop-first.first (length c.args.set.now.programs - 0) c.args.search.now c.loop-first.search
    (omega (arith, count, all, c.loop-first-test.false, c.loop-first.auto.first-end)) c.loop-first.invariant.goes
