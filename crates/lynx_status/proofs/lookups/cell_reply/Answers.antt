use Rattle.std.proofs.Common.{◌∙◌, subst, sym}
use Rattle.lynx_status.specs.CellLines.{cell_body}
use Rattle.lynx_status.specs.Lookups.{IsCellsReply}
use Rattle.lynx_status.specs.declared.cells.CellsFound.{CellsFound}
use Rattle.lynx_status.proofs.lookups.cell_reply.Goals as goal

pub returns-in_ok-cell_body-in-Found : goal.returns-in_ok-cell_body-in-Found
returns-in_ok-cell_body-in-Found c =
    subst (λ (found : CellsFound). IsCellsReply c.args.shape (cell_body c.args.shape c.args.table.now c.args.key) found c.told.result) (sym c.in-Found.is) (record {
      status_is = c.told.ensures.status_is;
      content_is = c.told.ensures.content_is;
      body_is = c.told.ensures.body_is ∙ c.in_ok-cell_body-in-Found.ensures;
    })
