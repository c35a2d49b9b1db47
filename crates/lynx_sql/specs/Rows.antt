-- The rows of a store's tables.
use Rattle.std.specs.Prelude.{ℕ, ◌+◌, pos, List, [], ◌∷◌}
use Rattle.sqlite.specs.declared.types.Value.TheVariants.{Null, Int, Text, Blob}
use Rattle.sqlite.specs.Order.{Row}
use Rattle.lynx_sql.specs.Contents.{Title}

-- a row of `meta`, as it is stored: its number, and then its columns, of which the number reads as
-- NULL
abbrev pub meta_row : ℕ → List ℕ → Row
meta_row id text = Int (pos id) ∷ Null ∷ Text text ∷ []

abbrev pub meta_rows : Title → List Row
meta_rows title = meta_row 1 title.version ∷ meta_row 2 title.server ∷ meta_row 3 title.set ∷ []

-- what the query shows of them
abbrev pub shown_meta : Title → List Row
shown_meta title =
    (Int (pos 1) ∷ Text title.version ∷ [])
    ∷ (Int (pos 2) ∷ Text title.server ∷ [])
    ∷ (Int (pos 3) ∷ Text title.set ∷ [])
    ∷ []

-- a row of `entry`
abbrev pub entry_row : ℕ → List ℕ → Row
entry_row place body = Int (pos place) ∷ Null ∷ Blob body ∷ []

-- bodies from a place on, without gap
abbrev pub entry_rows : ℕ → List (List ℕ) → List Row
entry_rows place [] = []
entry_rows place (body ∷ bodies) = entry_row place body ∷ entry_rows (place + 1) bodies

-- what the query shows of them
abbrev pub shown_entries : ℕ → List (List ℕ) → List Row
shown_entries place [] = []
shown_entries place (body ∷ bodies) =
    (Int (pos place) ∷ Blob body ∷ []) ∷ shown_entries (place + 1) bodies
