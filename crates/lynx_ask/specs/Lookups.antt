-- What a line looks up, and how that is asked over HTTP.
use Rattle.std.specs.Prelude.{◌≡◌, ◌≤◌, ℕ, IsTrue, List, [], ◌∷◌, ◌++◌, codes, decimal, is_some}
use Rattle.lynx_lex.specs.Lines.{joined}
use Rattle.lynx_set.specs.Names.{place_of}
use Rattle.lynx_set.specs.Set.{Set}
use Rattle.lynx_ask.specs.declared.lookup.Lookup.{Lookup}
use Rattle.lynx_ask.specs.declared.lookup.Lookup.TheVariants.{Cell, Cells, Request}

-- a range of keys: its first and its last
abbrev pub range_text : ℕ → ℕ → List ℕ
range_text from to = decimal from ++ codes ".." ++ decimal to

-- the words of a line that looks it up
abbrev pub lookup_words : Lookup → List (List ℕ)
lookup_words (Cell table key) = codes "read" ∷ table ∷ decimal key ∷ []
lookup_words (Cells table from to) = codes "read" ∷ table ∷ range_text from to ∷ []
lookup_words (Request client number) = codes "find" ∷ decimal client ∷ decimal number ∷ []

-- a table of the set
abbrev pub IsTableOf : Set → List ℕ → Type 0
IsTableOf set table = IsTrue (is_some (place_of set.tables table))

-- the set has its table
abbrev pub HasTable : Set → Lookup → Type 0
HasTable set (Cell table key) = IsTableOf set table
HasTable set (Cells table from to) = IsTableOf set table
HasTable set (Request client number) = Unit {0}

-- a range doesn't run backwards
abbrev pub RunsForward : Lookup → Type 0
RunsForward (Cells table from to) = from ≤ to
RunsForward other = Unit {0}

-- such a table and such a word look it up: a key, or a range of keys
abbrev pub IsOfKeys : List ℕ → List ℕ → Lookup → Type 0
IsOfKeys table word (Cell named key) = (named ≡ table) × (word ≡ decimal key)
IsOfKeys table word (Cells named from to) =
    (named ≡ table) × (word ≡ range_text from to) × (from ≤ to)
IsOfKeys table word (Request client number) = ⊥

-- the words of a line look it up
pub record IsLookup (set : Set) (words : List (List ℕ)) (lookup : Lookup) : Type 0 where
  pub words_are : words ≡ lookup_words lookup
  pub table : HasTable set lookup
  pub forward : RunsForward lookup

-- a line that looks it up
abbrev pub LooksUp : Set → List ℕ → Lookup → Type 0
LooksUp set line lookup =
    (line ≡ joined (lookup_words lookup)) × HasTable set lookup × RunsForward lookup

-- the same from that key on
abbrev pub from_key : ℕ → Lookup → Lookup
from_key next (Cells table from to) = Cells table next to
from_key next other = other

-- the path at which cells of a table are asked for, up to the first key
abbrev pub cells_from : List ℕ → ℕ → List ℕ
cells_from table from = codes "/cells/" ++ table ++ codes "?from=" ++ decimal from

-- .. and up to the last one, a thousand at most
abbrev pub cells_to : ℕ → List ℕ
cells_to to = codes "&to=" ++ decimal to ++ codes "&limit=1000"

-- the path at which it is asked for
abbrev pub path_of : Lookup → List ℕ
path_of (Cell table key) = codes "/cells/" ++ table ++ 47 ∷ decimal key
path_of (Cells table from to) = cells_from table from ++ cells_to to
path_of (Request client number) = codes "/requests/" ++ decimal client ++ 47 ∷ decimal number
