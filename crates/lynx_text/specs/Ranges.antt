-- Reading the ranges of a program's parameters.
use Rattle.std.specs.Prelude.{ℕ, ◌+◌, Bool, true, false, ◌&&◌, List, [], ◌∷◌, ◌++◌, Option, Some, None, option_map, is_none, nat_le, ◌==◌, if◌then◌else◌, codes}
use Rattle.std.specs.Str.{bytes_eq}
use Rattle.lynx_set.specs.declared.program.ParameterRange.{ParameterRange}
use Rattle.lynx_set.specs.declared.version.Version.{Version}
use Rattle.lynx_set.specs.declared.version.Version.TheVariants.{One, Two}
use Rattle.lynx_set.specs.Plain.{PlainProgram}
use Rattle.lynx_lex.specs.Digits.{read_number}
use Rattle.lynx_lex.specs.Lines.{◌>>=◌, only_if}
use Rattle.lynx_text.specs.Pieces.{begins, next_words}
use Rattle.lynx_text.specs.Reading.{known_name}

-- two dots begin the word
abbrev pub begins_with_dots : List ℕ → Bool
begins_with_dots (first ∷ second ∷ rest) = (first == 46) && (second == 46)
begins_with_dots word = false

-- the word without its first byte
abbrev pub behind_first : List ℕ → List ℕ
behind_first [] = []
behind_first (byte ∷ rest) = rest

-- what stands on both sides, with one more byte before
abbrev pub with_first : ℕ → List ℕ × List ℕ → List ℕ × List ℕ
with_first byte ends = (byte ∷ ends.0, ends.1)

-- what stands before the first two dots of a word, and what behind them
abbrev pub cut_at_dots : List ℕ → Option (List ℕ × List ℕ)
cut_at_dots [] = None
cut_at_dots (byte ∷ rest) =
    if begins_with_dots (byte ∷ rest) then Some ([], behind_first rest) else option_map
    (with_first byte) (cut_at_dots rest)

-- what stands on both sides of a word's two dots, which stand there once
abbrev pub ends_of : List ℕ → Option (List ℕ × List ℕ)
ends_of word = cut_at_dots word >>= λ ends. only_if (is_none (cut_at_dots ends.1)) ends

-- the first parameter behind those of the ranges
abbrev pub next_parameter : List ParameterRange → ℕ
next_parameter [] = 0
next_parameter (range ∷ []) = range.parameter + 1
next_parameter (range ∷ next ∷ ranges) = next_parameter (next ∷ ranges)

-- range PARAMETER LOW..HIGH, where the ranges of the parameters before that one are read
unfoldable pub range_line : List (List ℕ) → ℕ → List (List ℕ) → Option ParameterRange
range_line names first (word ∷ parameter ∷ interval ∷ []) = do
  is ← only_if {X = Unit {0}} (bytes_eq word (codes "range")) tt
  ends ← ends_of interval
  place ← known_name names parameter
  behind ← only_if {X = Unit {0}} (nat_le first place) tt
  low ← read_number ends.0
  high ← read_number ends.1
  only_if (nat_le low high)
      (record { parameter = place; interval = record { low = low; high = high } })
range_line names first words = None

-- one more range
unfoldable pub next_range : PlainProgram → List (List ℕ) → Option (PlainProgram × List (List ℕ))
next_range program lines = do
  words ← next_words lines
  range ← range_line program.names (next_parameter program.ranges) words.0
  Some (record program { ranges = program.ranges ++ range ∷ [] }, words.1)

-- a version 2 has ranges
abbrev pub goes_range : Version → List (List ℕ) → Bool
goes_range One lines = false
goes_range Two lines = begins lines (codes "range")
