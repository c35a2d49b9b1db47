-- What look-ups are answered.
use Rattle.std.specs.Prelude.{◌≡◌, ℕ, List, [], ◌∷◌, Option, Some, None, Result, Ok, Err}
use Rattle.lynx_status.specs.declared.asking.Refusal.{Refusal}
use Rattle.lynx_status.specs.declared.asking.Refusal.TheVariants.{NoTable, NoRequest, NoChain, Stopped}
use Rattle.lynx_status.specs.declared.cells.CellsFigures.{CellsFigures}
use Rattle.lynx_status.specs.declared.cells.CellsFound.{CellsFound}
use Rattle.lynx_status.specs.declared.cells.CellsFound.TheVariants as cells
use Rattle.lynx_status.specs.declared.records.ChainRecord.{ChainRecord}
use Rattle.lynx_status.specs.declared.records.RecordFigures.{RecordFigures}
use Rattle.lynx_status.specs.declared.records.RecordsFound.{RecordsFound}
use Rattle.lynx_status.specs.declared.records.RecordsFound.TheVariants as recorded
use Rattle.lynx_status.specs.declared.reply.Reply.{Reply}
use Rattle.lynx_status.specs.declared.shapes.Shape.{Shape}
use Rattle.lynx_status.specs.declared.wanted.CellRange.{CellRange}
use Rattle.lynx_status.specs.declared.wanted.Wanted.{Wanted}
use Rattle.lynx_status.specs.declared.wanted.Wanted.TheVariants.{Cell, Cells, Chain, Request}
use Rattle.lynx_status.specs.CellLines.{cell_body, cells_body}
use Rattle.lynx_status.specs.RecordLines.{chain_body, request_body}
use Rattle.lynx_status.specs.Replies.{IsRefusal, IsReply}
use Rattle.lynx_status.specs.Shapes.{content_of}
use Rattle.lynx_status.specs.Watching.{Reads, Records, Traces}

-- what is refused before its path is looked at is refused so
abbrev pub allowed : Option Refusal → Result Wanted Refusal → Result Wanted Refusal
allowed None wanted = wanted
allowed (Some why) wanted = Err why

-- the range of one key
abbrev pub only : ℕ → CellRange
only key = record { from = key; to = key; limit = 1 }

-- cells, where the table and its server are there
abbrev pub IsCellsReply : Shape → (CellsFigures → List ℕ) → CellsFound → Reply → Type 0
IsCellsReply shape body cells.NoTable = IsRefusal NoTable
IsCellsReply shape body cells.Stopped = IsRefusal Stopped
IsCellsReply shape body (cells.Found found) = IsReply 200 (content_of shape) (body found)

-- the records of a request, where there are some
abbrev pub AreRecordsReply : Shape → ℕ → ℕ → List RecordFigures → Reply → Type 0
AreRecordsReply shape client number [] = IsRefusal NoRequest
AreRecordsReply shape client number (first ∷ rest) =
    IsReply 200 (content_of shape) (request_body shape client number (first ∷ rest))

-- .. and no server stopped that may have one
abbrev pub IsRecordsReply : Shape → ℕ → ℕ → RecordsFound → Reply → Type 0
IsRecordsReply shape client number recorded.Stopped = IsRefusal Stopped
IsRecordsReply shape client number (recorded.Found found) =
    AreRecordsReply shape client number found.items

-- what a chain did, where it began
abbrev pub IsTraceReply : Shape → Option ChainRecord → Reply → Type 0
IsTraceReply shape None = IsRefusal NoChain
IsTraceReply shape (Some one) = IsReply 200 (content_of shape) (chain_body shape one)

module _ {W : Type 0} (reads : Reads W) (records : Records W) (traces : Traces W) where
  -- what is looked up is answered so, from one state of who is asked to the next
  abbrev pub LooksUp : W → Shape → Result Wanted Refusal → Reply → W → Type 0
  LooksUp old shape (Err why) reply new = IsRefusal why reply × (new ≡ old)
  LooksUp old shape (Ok (Cell table key)) reply new =
      (found : CellsFound) × reads old table (only key) found new
      × IsCellsReply shape (cell_body shape table key) found reply
  LooksUp old shape (Ok (Cells table range)) reply new =
      (found : CellsFound) × reads old table range found new
      × IsCellsReply shape (cells_body shape table) found reply
  LooksUp old shape (Ok (Request client number)) reply new =
      (found : RecordsFound) × records old client number found new
      × IsRecordsReply shape client number found reply
  LooksUp old shape (Ok (Chain chain)) reply new =
      (found : Option ChainRecord) × traces old chain found new × IsTraceReply shape found reply
