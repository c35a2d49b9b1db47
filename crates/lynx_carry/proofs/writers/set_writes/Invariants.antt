use Rattle.std.proofs.Common.{◌≡◌}
use Rattle.std.specs.List.{list_any}
use Rattle.lynx_carry.specs.Writers.{set_writes, writes}
use Rattle.lynx_carry.proofs.writers.set_writes.Given as goal

-- the programs so far don't write the target
abbrev pub invariant-loop-program : goal.invariant-loop-program
invariant-loop-program l =
    set_writes l.set l.target.server l.target.table l.target.key l.target.value
    ≡ list_any (λ named. writes named.1 l.target.server l.target.table l.target.key l.target.value) l.program-iterator
