-- What a copy of a store in memory is a copy of.
use Rattle.std.specs.Prelude.{ℕ, List}
use Rattle.sqlite_wal.specs.Recovery.{Image}

-- a file and its log, as a database has them
abbrev pub image_in : List ℕ → List ℕ → Image
image_in file log = record { log = log; db = file }
