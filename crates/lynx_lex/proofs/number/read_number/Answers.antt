use Rattle.std.proofs.Common.{◌≡◌, ◌∙◌, Some, sym, ap, arith}
use Rattle.std.specs.Str.{all_ascii_digits}
use Rattle.std.proofs.lemmas.List.{at_drop_all}
use Rattle.lynx_lex.specs.Digits.{value_on}
use Rattle.lynx_lex.proofs.Numbers.{none_if_front_great}
use Rattle.lynx_lex.proofs.NumberLaws.{some_if_fits}
use Rattle.lynx_lex.proofs.number.read_number.Goals as goal

pub returns-in_err-checked_mul : goal.returns-in_err-checked_mul
returns-in_err-checked_mul c =
    c.from_residual.ensures ∙ sym (none_if_front_great c.args.word.now c.loop-byte.value c.loop-byte.byte-index 0 c.loop-byte-test.true c.loop-byte.invariant.value (omega (arith, c.in_err-checked_mul.ensures)))

pub returns-in_err-value : goal.returns-in_err-value
returns-in_err-value c =
    c.from_residual-in_err-value.ensures ∙ sym (none_if_front_great c.args.word.now c.loop-byte.value c.loop-byte.byte-index 0 c.loop-byte-test.true c.loop-byte.invariant.value (omega (arith, c.in_err-value.ensures, c.in_ok-checked_mul.ensures.1, c.from.ensures)))

pub returns : goal.returns
returns c =
    let word = c.args.word.now in
    let value : c.loop-byte.value ≡ value_on 0 word = sym (at_drop_all (value_on c.loop-byte.value) word c.loop-byte.byte-index c.loop-byte-test.false) ∙ c.loop-byte.invariant.value in
    ap Some value ∙ sym (some_if_fits word c.loop-byte.invariant.starts (sym c.loop-byte.invariant.digits ∙ at_drop_all all_ascii_digits word c.loop-byte.byte-index c.loop-byte-test.false) (omega (arith, c.loop-byte.invariant.fits)))
