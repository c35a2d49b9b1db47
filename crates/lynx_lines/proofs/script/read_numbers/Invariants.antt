use Rattle.std.proofs.Common.{◌≡◌, ◌<◌, ◌^◌, map, take}
use Rattle.std.specs.Prelude.{decimal}
use Rattle.std.specs.List.{AllByRecursion}
use Rattle.lynx_lex.specs.Lines.{texts}
use Rattle.lynx_lines.proofs.script.read_numbers.Given as goal

-- the numbers so far are those of the words so far
abbrev pub invariant-loop-word : goal.invariant-loop-word
invariant-loop-word l = record {
  fit : AllByRecursion (λ number. number < 2 ^ 64) l.numbers;
  are : texts (take l.word-index l.words) ≡ map decimal l.numbers;
}
