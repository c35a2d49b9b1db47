use Rattle.std.proofs.Common.{◌≡◌, drop, map}
use Rattle.std.specs.List.{list_all}
use Rattle.lynx_lex.specs.Lines.{is_filled}
use Rattle.lynx_hints.proofs.flaw.space_flaw.Given as goal

-- what is left decides
abbrev pub invariant-loop-place : goal.invariant-loop-place
invariant-loop-place l =
    list_all is_filled (map (λ word. word.text.now) (drop l.place l.words)) ≡ list_all is_filled (map (λ word. word.text.now) l.words)
