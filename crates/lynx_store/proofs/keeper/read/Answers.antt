use Rattle.std.proofs.Common.{refl}
use Rattle.lynx_keep.specs.Kept.{kept_in}
use Rattle.lynx_sql.proofs.ReadLemmas.{if_ok}
use Rattle.lynx_store.specs.Heading.{owner_in}
use Rattle.lynx_store.specs.Stored.{contents_of}
use Rattle.lynx_store.proofs.Kept.{placed}
use Rattle.lynx_store.proofs.RowsRead.{one_state}
use Rattle.lynx_store.proofs.keeper.read.Goals as goal

pub returns-in-Ok-clause-ok : goal.returns-in-Ok-clause-ok
returns-in-Ok-clause-ok g c clean =
    if_ok c.loaded_of.result (λ loaded tells. record {
      tables = c.in-Ok.ensures.back clean (contents_of (owner_in c.args.heading.now) (kept_in loaded)) tells.cells (placed c.args.heading.now.version loaded.entries.items tells.formed) tells.shown;
      counted = refl;
      formed = tells.formed;
    }) c.loaded_of.ensures.told

pub returns-in-Ok-clause-all : goal.returns-in-Ok-clause-all
returns-in-Ok-clause-all g c clean =
    if_ok c.loaded_of.result (λ loaded tells count kept was.
    one_state c.in-Ok.rows (owner_in c.args.heading.now) kept (kept_in loaded) was.formed
    (c.in-Ok.ensures.ok clean (contents_of (owner_in c.args.heading.now) kept) was.tables) tells) c.loaded_of.ensures.told

pub returns-in-Ok-clause-memory : goal.returns-in-Ok-clause-memory
returns-in-Ok-clause-memory g c clean is count kept was = record {
  tables = c.in-Ok.ensures.kept clean (contents_of (owner_in c.args.heading.now) kept) was.tables;
  counted = was.counted;
  formed = was.formed;
}
