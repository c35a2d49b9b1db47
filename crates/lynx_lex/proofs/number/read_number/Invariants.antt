use Rattle.std.proofs.Common.{◌≡◌, ◌<◌, ◌^◌, true, drop}
use Rattle.std.specs.Str.{all_ascii_digits}
use Rattle.lynx_lex.specs.Digits.{value_on, starts_well}
use Rattle.lynx_lex.proofs.number.read_number.Given as goal

-- what is left decides
abbrev pub invariant-loop-byte : goal.invariant-loop-byte
invariant-loop-byte l = record {
  starts : starts_well l.word ≡ true;
  digits : all_ascii_digits (drop l.byte-index l.word) ≡ all_ascii_digits l.word;
  fits : l.value < 2 ^ 64;
  value : value_on l.value (drop l.byte-index l.word) ≡ value_on 0 l.word;
}
