use Rattle.std.proofs.Common.{ap, ◌∙◌, List, ℕ}
use Rattle.lynx_cells.specs.Contents.{contents_of}
use Rattle.lynx_cells.specs.Database.{empty_database}
use Rattle.lynx_cells.proofs.Writes.{applied-empty}
use Rattle.lynx_cells.proofs.cells.Cells.new.Goals as goal

pub returns-clause-database : goal.returns-clause-database
returns-clause-database c =
    ap (λ (slots : List ((ℕ × ℕ) × ℕ)). (contents_of slots).database) c.new.ensures.empty ∙ applied-empty empty_database
