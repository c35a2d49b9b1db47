use Rattle.std.proofs.Common.{◌≡◌, ◌++◌, decimal, drop, map}
use Rattle.std.specs.String.{string_bytes}
use Rattle.lynx_lex.specs.Lines.{spaced}
use Rattle.lynx_sample.proofs.script.put_numbers.Given as goal

-- what is written and what is left are the whole
abbrev pub invariant-loop-number : goal.invariant-loop-number
invariant-loop-number l =
    string_bytes l.text ++ spaced (map decimal (drop l.number-index l.numbers)) ≡ string_bytes l.initial.text ++ spaced (map decimal l.numbers)
