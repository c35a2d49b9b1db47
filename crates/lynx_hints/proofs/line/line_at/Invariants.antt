use Rattle.std.proofs.Common.{◌≡◌, drop}
use Rattle.std.specs.List.{slice_split}
use Rattle.lynx_lex.specs.Lines.{is_feed}
use Rattle.lynx_hints.proofs.line.line_at.Given as goal

-- the lines that are left are those behind the ones that were passed
abbrev pub invariant-loop-passed : goal.invariant-loop-passed
invariant-loop-passed l = drop l._passed (slice_split is_feed l.text) ≡ slice_split is_feed l.rest
