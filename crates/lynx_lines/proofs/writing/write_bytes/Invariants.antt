use Rattle.std.proofs.Common.{◌≡◌, ◌++◌, List, ℕ}
use Rattle.std.specs.Io.KnownBytes.{Appends}
use Rattle.lynx_lines.proofs.writing.write_bytes.Given as goal

-- what was written so far, and the rest
abbrev pub invariant-loop : goal.invariant-loop
invariant-loop g l =
    (part : List ℕ) × (l.bytes ≡ part ++ l.rest) × Appends (g.W.Write.contents l.initial.writer) (g.W.Write.contents l.writer) part
