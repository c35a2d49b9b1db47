use Rattle.std.proofs.Common.{◌≡◌, map}
use Rattle.std.specs.List.{range_with_len}
use Rattle.lynx_weave.specs.Rebuilt.{told_in}
use Rattle.lynx_weave.specs.Servers.{histories_of}
use Rattle.lynx_weave.specs.Since.{counts_at}
use Rattle.lynx_weave.specs.Weaving.{all_told}
use Rattle.lynx_weave.proofs.counts.counts_of.Given as goal

abbrev pub invariant-loop-number : goal.invariant-loop-number
invariant-loop-number l =
    l.counts.items ≡ map (counts_at (histories_of l.servers) l.starts (all_told (told_in l.told))) (range_with_len 0 l.number)
