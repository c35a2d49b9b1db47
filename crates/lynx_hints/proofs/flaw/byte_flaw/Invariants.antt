use Rattle.std.proofs.Common.{◌≡◌, drop}
use Rattle.std.specs.List.{list_all}
use Rattle.lynx_lex.specs.Lines.{is_printable}
use Rattle.lynx_hints.proofs.flaw.byte_flaw.Given as goal

-- what is left decides
abbrev pub invariant-loop-start : goal.invariant-loop-start
invariant-loop-start l = list_all is_printable (drop l.start l.line) ≡ list_all is_printable l.line
