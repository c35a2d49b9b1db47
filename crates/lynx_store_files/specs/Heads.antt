-- What the first bytes of a store's file and of its log say.
use Rattle.std.specs.Prelude.{◌≡◌, ◌⊎◌, ◌≤◌, ℕ, List, [], ◌∷◌, ◌++◌, codes, drop, length, take}

-- the sixteen bytes with which each database begins
abbrev pub database_head : List ℕ
database_head = codes "SQLite format 3" ++ 0 ∷ []

-- a file that begins so is a database's
abbrev pub IsDatabase : List ℕ → Type 0
IsDatabase file = take 16 file ≡ database_head

-- what a stop within the making of a new store leaves in its file: nothing, or a first byte of 0
abbrev pub IsUnmade : List ℕ → Type 0
IsUnmade file = (file ≡ []) ⊎ (take 1 file ≡ 0 ∷ [])

-- what it leaves in the log: no more than a head, which is not yet valid, or is the one that only
-- the making of a store writes
abbrev pub IsBegun : List ℕ → Type 0
IsBegun log = (length log ≤ 41)
    × ((take 1 log ≡ 0 ∷ [])
    ⊎ ((take 1 log ≡ 0x37 ∷ []) × (take 4 (drop 12 log) ≡ 255 ∷ 255 ∷ 255 ∷ 255 ∷ [])))

-- a file and a log that may be opened: a database, or a new store, of which nothing is there or
-- only what a stop within its making left
abbrev pub MayOpen : List ℕ → List ℕ → Type 0
MayOpen file log =
    IsDatabase file ⊎ (((file ≡ []) × (log ≡ [])) ⊎ (IsUnmade file × IsBegun log))
