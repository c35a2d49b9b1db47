-- The lines of a set's text as they are read, one after another.
use Rattle.std.specs.Prelude.{ℕ, Bool, true, false, if◌then◌else◌, List, [], ◌∷◌, Option, Some, None, take, position, ◌==◌, codes}
use Rattle.std.specs.Str.{bytes_eq}
use Rattle.lynx_set.specs.declared.version.Version.{Version}
use Rattle.lynx_set.specs.declared.version.Version.TheVariants.{One, Two}
use Rattle.lynx_lex.specs.Lines.{◌>>=◌, only_if, words_in}

-- the bytes before that place, or all of them
abbrev pub front_to : Option ℕ → List ℕ → List ℕ
front_to None text = text
front_to (Some place) text = take place text

-- the bytes before the first of this kind, or all of them
abbrev pub until : List ℕ → ℕ → List ℕ
until text end = front_to (position (λ byte. byte == end) text) text

-- the next of the lines of a text, and the lines after it; none where no line feed ends it
abbrev pub next_piece : List (List ℕ) → Option (List ℕ × List (List ℕ))
next_piece [] = None
next_piece (line ∷ []) = None
next_piece (line ∷ next ∷ lines) = Some (line, next ∷ lines)

-- the words of the next line, and the lines after it
abbrev pub next_words : List (List ℕ) → Option (List (List ℕ) × List (List ℕ))
next_words lines = do
  next ← next_piece lines
  words ← words_in next.0
  Some (words, next.1)

-- the word after this first one, where there are two
abbrev pub one_after : List ℕ → List (List ℕ) → Option (List ℕ)
one_after first (word ∷ other ∷ []) = only_if (bytes_eq word first) other
one_after first words = None

-- whether the first word of the next line is this one
abbrev pub begins : List (List ℕ) → List ℕ → Bool
begins [] word = false
begins (line ∷ lines) word = bytes_eq (until line 32) word

-- the version that a line tells
abbrev pub version_of : List ℕ → Option Version
version_of line =
    if bytes_eq line (codes "lynx 1") then Some One
    else (if bytes_eq line (codes "lynx 2") then Some Two else None)

-- the version that the first line tells
abbrev pub version_told : List (List ℕ) → Option Version
version_told [] = None
version_told (line ∷ lines) = version_of line

-- the version, and the lines after its own
abbrev pub after_version : List (List ℕ) → Option (Version × List (List ℕ))
after_version lines = do
  next ← next_piece lines
  version ← version_told lines
  Some (version, next.1)

-- no line is left
abbrev pub ends : List (List ℕ) → Bool
ends ([] ∷ []) = true
ends lines = false
