use Rattle.std.proofs.Common.{take}
use Rattle.std.specs.Io.KnownBytes.{Appends}
use Rattle.lynx_report.specs.Owed.{owed_lines}
use Rattle.lynx_report.proofs.owed.write_each_owed.Given as goal

-- the hops so far are printed
abbrev pub invariant-loop-hop : goal.invariant-loop-hop
invariant-loop-hop g l =
    Appends (g.W.Write.contents l.initial.writer) (g.W.Write.contents l.writer) (owed_lines (take l.hop-index l.owed))
