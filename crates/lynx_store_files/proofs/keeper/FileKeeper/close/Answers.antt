use Rattle.std.proofs.Common.{[]}
use Rattle.std.proofs.Math.Logic.{∥∥₁_map}
use Rattle.sqlite.specs.Closing.{IsCopied}
use Rattle.sqlite.specs.Files.{HoldsDatabase, file_state}
use Rattle.sqlite.specs.Tree.{Trees}
use Rattle.lynx_sql.specs.Steps.{Holds}
use Rattle.lynx_store.specs.Heading.{owner_in}
use Rattle.lynx_store.specs.Stored.{contents_of}
use Rattle.lynx_store_files.proofs.keeper.FileKeeper.close.Goals as goal

pub returns-in-Ok : goal.returns-in-Ok
returns-in-Ok g c kept was clean image left =
    let owner = owner_in c.args.self.keeper.heading in
    let copied : IsCopied c.args.self.keeper.conn c.in-Ok.files = rw c.into_connection.ensures at (c.in-Ok.ensures.copied clean) in
    ∥∥₁_map (copied.left image left).alone (λ holds.
    let r : (db : Trees) × HoldsDatabase (record image { log = [] }) db × Holds db (contents_of owner kept) =
    ((file_state c.args.self.keeper.conn).committed.trees, holds, was.tables.tables) in r)
