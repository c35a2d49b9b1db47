use Rattle.lynx_restore.proofs.Longests.{lawful_before}
use Rattle.lynx_restore.proofs.longest.lawful_count.Goals as goal

pub returns-in-Some-clause-longest : goal.returns-in-Some-clause-longest
returns-in-Some-clause-longest c =
    let first = rw c.in-Some.is at c.in_ok-place.ensures in
    lawful_before c.args.set.now c.args.server c.args.found.now c.in-Some.place first
