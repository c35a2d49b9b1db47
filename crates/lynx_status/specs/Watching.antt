-- What a service may tell that is looked at, each from one state of it to the next.
use Rattle.std.specs.Prelude.{ℕ, List, Option}
use Rattle.lynx_names.specs.declared.chain.ChainId.{ChainId}
use Rattle.lynx_status.specs.declared.cells.CellsFound.{CellsFound}
use Rattle.lynx_status.specs.declared.chain.ChainFigures.{ChainFigures}
use Rattle.lynx_status.specs.declared.copies.CopyCommand.{CopyCommand}
use Rattle.lynx_status.specs.declared.copies.CopyDone.{CopyDone}
use Rattle.lynx_status.specs.declared.figures.Figures.{Figures}
use Rattle.lynx_status.specs.declared.records.ChainRecord.{ChainRecord}
use Rattle.lynx_status.specs.declared.records.RecordsFound.{RecordsFound}
use Rattle.lynx_status.specs.declared.wanted.CellRange.{CellRange}

-- its figures
abbrev pub Tells : Type 0 → Type 1
Tells W = W → Figures → W → Type 0

-- how far a chain has come
abbrev pub Finds : Type 0 → Type 1
Finds W = W → ChainId → Option ChainFigures → W → Type 0

-- which cells a table of that name has in a range
abbrev pub Reads : Type 0 → Type 1
Reads W = W → List ℕ → CellRange → CellsFound → W → Type 0

-- which entries record a client's request
abbrev pub Records : Type 0 → Type 1
Records W = W → ℕ → ℕ → RecordsFound → W → Type 0

-- what a chain did, and for whom
abbrev pub Traces : Type 0 → Type 1
Traces W = W → ChainId → Option ChainRecord → W → Type 0

-- what comes of a command
abbrev pub Obeys : Type 0 → Type 1
Obeys W = W → CopyCommand → CopyDone → W → Type 0
