-- What a verdict says of a set.
use Rattle.std.specs.Prelude.{◌≡◌}
use Rattle.lynx_set.specs.Set.{Set}
use Rattle.lynx_check.specs.declared.verdict.Verdict.{Verdict}
use Rattle.lynx_check.specs.declared.verdict.Verdict.TheVariants.{Accepted, Offending}
use Rattle.lynx_check.specs.Reasons.{IsExcuse}
use Rattle.lynx_graph.specs.Blocks.{IsOffendingBlockWalk}
use Rattle.lynx_graph.specs.Walks.{IsOffending}

-- accepted: for that reason, and it is the set that was asked about. Offending: this closed walk
-- does, and this walk of blocks
abbrev pub Judges : Set → Verdict → Type 0
Judges set (Accepted own) = (own.set ≡ set) × IsExcuse set own.excused
Judges set (Offending walk blocks) = IsOffending set walk × IsOffendingBlockWalk set blocks
