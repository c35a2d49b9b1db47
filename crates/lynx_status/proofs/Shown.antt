-- Numbers that are shown with zeros before them.
use Rattle.std.proofs.Common.{◌≡◌, ℕ, ◌^◌, ◌-◌, List, [], false}
use Rattle.std.specs.Prelude.{decimal}
use Rattle.std.specs.Fmt.{before_digits, char_count, format_spec, padded_integral, styled_decimal}
use Rattle.std.proofs.lemmas.List.{append-nil}
use native.Mathlib.Numerals.{unary_clauses}
use Rattle.lynx_status.specs.Histograms.{filled}

pub six_shown : (n : ℕ) → styled_decimal (format_spec 32 0 4 6 (2 ^ 64 - 1)) n ≡ filled 6 (decimal n)
unfolding padded_integral char_count
six_shown n = simp (append-nil, unary_clauses, before_digits)

pub sixteen_shown : (digits : List ℕ) → padded_integral (format_spec 32 0 4 16 (2 ^ 64 - 1)) false [] digits ≡ filled 16 digits
unfolding padded_integral char_count
sixteen_shown digits = simp (append-nil, unary_clauses, before_digits)
