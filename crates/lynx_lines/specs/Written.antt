-- What is written of what is owed: all of it, or where a fault stops the writing a beginning of it.
use Rattle.std.specs.Prelude.{◌≡◌, ℕ, List, ◌++◌, Option}
use Rattle.std.specs.Io.KnownBytes.{Appends}

-- these bytes begin with those
abbrev pub BeginsWith : List ℕ → List ℕ → Type 0
BeginsWith all part = (rest : List ℕ) × (all ≡ part ++ rest)

-- known bytes grew by a beginning of what is owed
abbrev pub AppendsPart : Option (List ℕ) → Option (List ℕ) → List ℕ → Type 0
AppendsPart old new owed = (part : List ℕ) × BeginsWith owed part × Appends old new part
