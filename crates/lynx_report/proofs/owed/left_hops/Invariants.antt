use Rattle.std.proofs.Common.{◌≡◌, ◌++◌}
use Rattle.std.specs.List.{flat_map}
use Rattle.lynx_report.specs.inner.Reached.{left_of}
use Rattle.lynx_report.proofs.owed.left_hops.Given as goal

-- the hops of the chains so far are listed, and those of the others are not
abbrev pub invariant-loop-chain : goal.invariant-loop-chain
invariant-loop-chain l = l.owed.items ++ flat_map (left_of l.set) l.chain-iterator ≡ flat_map (left_of l.set) l.chains.entries
