use Rattle.std.proofs.Common.{◌≡◌, ℕ, length, slice_get, subst}
use Rattle.std.specs.Prelude.{IfOk, IfSome}
use Rattle.sqlite.specs.Held.{state}
use Rattle.lynx_store.specs.Heading.{owner_in}
use Rattle.lynx_store_files.specs.Paths.{store_path}
use Rattle.lynx_cli.specs.Copied.{IsCopiedAt}
use Rattle.lynx_cli.proofs.Histories.{histories_are}
use Rattle.lynx_cli.proofs.Restored.{restored_folder}
use Rattle.lynx_cli.proofs.restoring.restore_whole.Goals as goal

pub returns : goal.returns
returns g c =
    let from = c.args.from.now in
    let copied = c.in_ok-copied.field-0 in
    let many = subst (λ read. IfOk read (λ all. length all.keepers.items ≡ all.set.servers)) c.in_ok-copied.was c.copied_of-copied.ensures.many in
    let each =
    subst (λ read. IfOk read (λ all. (server : ℕ) → IfSome (slice_get all.keepers.items server) (λ keeper. IsCopiedAt g.S.Copies.copied_from
    (λ conn. state g.C.Store conn) all.set server (store_path from server) keeper.conn (owner_in keeper.heading) keeper.count)))
    c.in_ok-copied.was c.copied_of-copied.ensures.each in
    restored_folder g.S.Copies.copied_from (λ conn. state g.C.Store conn) from c.args.folder.now copied.set _ g.K.Keeper.terms g.S.Stores.store_terms
    copied.keepers.items c.store_whole-made.result
    (λ histories opened. histories_are g.S.Copies.copied_from (λ conn. state g.C.Store conn) from copied.set _ _ _ _ (λ keeper fine. fine) (λ keeper fine. fine)
    (λ keeper kept keeps. keeps) copied.keepers.items histories many each opened)
    c.store_whole-made.ensures
