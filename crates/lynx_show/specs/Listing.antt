-- What the listing of a store is, as it is written.
use Rattle.std.specs.Prelude.{ℕ, List, ◌∷◌, ◌++◌, codes, length, Option}
use Rattle.std.specs.List.{flat_map}
use Rattle.std.specs.Fmt.{decimal}
use Rattle.std.specs.FinMap as finite
use Rattle.std.specs.Io.KnownBytes.{Appends}
use Rattle.sqlite.specs.State.{State}
use Rattle.lynx_cells.specs.Triples.{triples_of}
use Rattle.lynx_entry.specs.declared.entry.Entry.{Entry}
use Rattle.lynx_entry.specs.Entry.{History}
use Rattle.lynx_keep.specs.Kept.{KeptState}
use Rattle.lynx_set.specs.Lookups.{table_name}
use Rattle.lynx_set.specs.Set.{Set}
use Rattle.lynx_lines.specs.Written.{AppendsPart}
use Rattle.lynx_lines.specs.Full.{full_entry_text}
use Rattle.lynx_lines.specs.Printed.{entry_text}
use Rattle.lynx_lex.specs.Lines.{with_feed}
use Rattle.lynx_store.specs.Stored.{AreInTables, IsKept, owner_for}
use Rattle.lynx_show.specs.declared.detail.Detail.{Detail}
use Rattle.lynx_show.specs.declared.detail.Detail.TheVariants.{Brief, Full}

-- the server's line, and that of how many entries it has
abbrev pub head_lines : ℕ → ℕ → List ℕ
head_lines server count =
    with_feed (codes "server " ++ decimal server) ++ with_feed (codes "entries " ++ decimal count)

-- an entry, with who asked for it and for what if that is wanted
abbrev pub told_entry : Detail → Set → Entry → List ℕ
told_entry Brief chains entry = entry_text entry
told_entry Full chains entry = full_entry_text chains entry

-- a line for each entry
abbrev pub entry_lines : Detail → Set → History → List ℕ
entry_lines detail chains entries =
    flat_map (λ entry. with_feed (told_entry detail chains entry)) entries

-- the line of a cell: the name of its table, its key and its value
abbrev pub cell_line : Set → ℕ × ℕ × ℕ → List ℕ
cell_line chains cell =
    with_feed (codes "cell " ++ table_name chains cell.0 ++ 32 ∷ decimal cell.1 ++ 32
    ∷ decimal cell.2)

-- a line for each cell
abbrev pub cell_lines : Set → List (ℕ × ℕ × ℕ) → List ℕ
cell_lines chains cells = flat_map (cell_line chains) cells

-- all lines: cells by table, then key
abbrev pub listing_of : Detail → Set → ℕ → KeptState → List ℕ
listing_of detail chains server kept =
    head_lines server (length kept.entries) ++ entry_lines detail chains kept.entries
    ++ cell_lines chains (triples_of (finite.entries kept.cells))

-- the listing of what the store holds was written
abbrev pub Lists : Detail → State → Option (List ℕ) → Option (List ℕ) → Type 0
Lists detail s old new = (chains : Set) × (server : ℕ) × (kept : KeptState)
    × IsKept s (owner_for server chains) (length kept.entries) kept
    × AreInTables chains kept.cells
    × Appends old new (listing_of detail chains server kept)

-- a beginning of it was written
abbrev pub BeginsListing : Detail → State → Option (List ℕ) → Option (List ℕ) → Type 0
BeginsListing detail s old new = (chains : Set) × (server : ℕ) × (kept : KeptState)
    × IsKept s (owner_for server chains) (length kept.entries) kept
    × AreInTables chains kept.cells
    × AppendsPart old new (listing_of detail chains server kept)
