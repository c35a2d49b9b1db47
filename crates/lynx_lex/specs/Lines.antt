-- Lines of a text, and their words.
use Rattle.std.specs.Prelude.{◌≡◌, ◌<◌, ℕ, ◌+◌, Bool, true, not, ◌&&◌, List, [], ◌∷◌, ◌++◌, Option, Some, None, length, map, take, drop, position, option_map, nat_le, ◌==◌, if◌then◌else◌}
use Rattle.std.specs.List.{slice_split, list_all}
use Rattle.std.specs.Borrow.{Bor}

infixl 10 ◌>>=◌
abbrev pub ◌>>=◌ : {A B : Type 0} → Option A → (A → Option B) → Option B
None >>= f = None
(Some x) >>= f = f x

abbrev pub is_feed : ℕ → Bool
is_feed byte = byte == 10

abbrev pub is_space : ℕ → Bool
is_space byte = byte == 32

-- the first line without its line feed, and the text after it; none where there is no line feed
abbrev pub next_line : List ℕ → Option (List ℕ × List ℕ)
next_line text =
    option_map (λ place. (take place text, drop (place + 1) text)) (position is_feed text)

-- a space before each word
abbrev pub spaced : List (List ℕ) → List ℕ
spaced [] = []
spaced (word ∷ words) = 32 ∷ word ++ spaced words

-- words with one space between two
abbrev pub joined : List (List ℕ) → List ℕ
joined [] = []
joined (first ∷ words) = first ++ spaced words

-- a line of a text: these bytes, and a line feed
abbrev pub with_feed : List ℕ → List ℕ
with_feed bytes = bytes ++ 10 ∷ []

-- a line of these words
abbrev pub line : List (List ℕ) → List ℕ
line words = with_feed (joined words)

-- a byte that can stand in a line
abbrev pub is_printable : ℕ → Bool
is_printable byte = nat_le 32 byte && nat_le byte 126

-- a word has a byte
abbrev pub is_filled : List ℕ → Bool
is_filled word = not (length word == 0)

-- a byte that can stand in a word
abbrev pub is_graphic : ℕ → Bool
is_graphic byte = nat_le 33 byte && nat_le byte 126

-- a word: bytes that can stand in one, and at least one
abbrev pub is_word : List ℕ → Bool
is_word word = is_filled word && list_all is_graphic word

-- the words of a line: at least one
abbrev pub AreWords : List (List ℕ) → Type 0
AreWords words = (0 < length words) × (list_all is_word words ≡ true)

-- the words of a line; none where a byte isn't printable or a word is empty
abbrev pub words_in : List ℕ → Option (List (List ℕ))
words_in line =
    if list_all is_printable line && list_all is_filled (slice_split is_space line) then Some
    (slice_split is_space line) else None

-- the bytes behind references
abbrev pub texts : List (Bor (List ℕ)) → List (List ℕ)
texts words = map (λ word. word.now) words

-- a value, where a test holds
abbrev pub only_if : {X : Type 0} → Bool → X → Option X
only_if test x = if test then Some x else None
