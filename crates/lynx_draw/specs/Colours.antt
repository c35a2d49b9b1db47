-- The colours of pictures.
use Rattle.std.specs.Prelude.{ℕ, List, [], ◌∷◌, codes, ◌%◌, unwrap_or, slice_get}

-- light colours
abbrev pub palette : List (List ℕ)
palette =
    codes "#99ddff" ∷ codes "#eedd88" ∷ codes "#bbcc33" ∷ codes "#ffaabb" ∷ codes "#77aadd"
    ∷ codes "#ee8866" ∷ codes "#44bb99" ∷ codes "#dddddd"
    ∷ codes "#cceeff" ∷ codes "#eeeebb" ∷ codes "#ccddaa" ∷ codes "#ffcccc" ∷ codes "#bbccee"
    ∷ codes "#e8cdef" ∷ codes "#aaaa00" ∷ codes "#ffffff" ∷ []

-- the colour of that number; after the last comes the first again
abbrev pub colour_at : ℕ → List ℕ
colour_at number = unwrap_or (slice_get palette (number % 16)) []
