use Rattle.std.proofs.Common.{◌<◌, length, arith, subst}
use Rattle.lynx_sample.proofs.Judging.{none_owed}
use Rattle.lynx_sample.proofs.judged.owes_nothing.Goals as goal

pub returns-in-empty : goal.returns-in-empty
returns-in-empty c =
    let short : length c.in_ok-owed.owed.items < 1 = subst (λ owed. length owed < 1) c.as_slice.ensures.value (omega (arith, c.in-empty.len_below)) in
    λ is. none_owed c.args.world.now.set c.args.world.now.list c.in_ok-owed.owed.items short c.in_ok-owed.ensures
