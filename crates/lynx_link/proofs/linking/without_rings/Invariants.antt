use Rattle.std.proofs.Common.{◌≡◌, replicate}
use Rattle.lynx_link.specs.EndLists.{no_ends}
use Rattle.lynx_link.proofs.linking.without_rings.Given as goal

-- as many servers so far
abbrev pub invariant-loop : goal.invariant-loop
invariant-loop l = l.ends.items ≡ replicate l.counter no_ends
