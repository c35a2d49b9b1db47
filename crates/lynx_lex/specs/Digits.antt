-- Numbers as they are spelled in a text.
use Rattle.std.specs.Prelude.{ℕ, ◌+◌, ◌-◌, ◌*◌, ◌^◌, Bool, true, false, not, ◌&&◌, List, [], ◌∷◌, Option, Some, None, nat_lt, ◌==◌, if◌then◌else◌}
use Rattle.std.specs.Str.{all_ascii_digits}
use Rattle.std.specs.Char.{is_ascii_digit}

-- the number that digits spell, after this front of it
abbrev pub value_on : ℕ → List ℕ → ℕ
value_on value [] = value
value_on value (byte ∷ bytes) = value_on (value * 10 + (byte - 48)) bytes

-- there is a digit, and the first isn't 0 but in 0 itself
abbrev pub starts_well : List ℕ → Bool
starts_well [] = false
starts_well (byte ∷ []) = true
starts_well (byte ∷ next ∷ bytes) = not (byte == 48)

-- the number that a word spells
abbrev pub read_number : List ℕ → Option ℕ
read_number word =
    if starts_well word && all_ascii_digits word && nat_lt (value_on 0 word) (2 ^ 64) then Some
    (value_on 0 word) else None

-- whether a word can only be a number
abbrev pub begins_with_digit : List ℕ → Bool
begins_with_digit [] = false
begins_with_digit (byte ∷ bytes) = is_ascii_digit byte
