use Rattle.std.proofs.Common.{◌≡◌, ◌∙◌, ◌+◌, ℕ, ap, length, slice_get, subst, sym}
use Rattle.std.specs.Prelude.{IfSome}
use Rattle.sqlite.specs.Held.{state}
use Rattle.lynx_store.specs.Heading.{owner_in}
use Rattle.lynx_store_files.specs.Paths.{store_path}
use Rattle.lynx_cli.specs.Copied.{IsCopiedAt}
use Rattle.lynx_cli.proofs.Placing.{each_more, one_longer}
use Rattle.lynx_cli.proofs.auditing.keepers_of.Goals as goal

pub loop-number-preserved : goal.loop-number-preserved
loop-number-preserved g c =
    let folder = c.args.folder.now in
    let set = c.args.set.now in
    let number = c.loop-number.number in
    let before = c.loop-number.keepers.items in
    let keeper = c.in_ok-keeper.keeper in
    let more = c.in_ok-add.ensures in
    let here = subst (λ server. IsCopiedAt g.S.Copies.copied_from (λ conn. state g.C.Store conn) set server (store_path folder server) keeper.conn (owner_in keeper.heading)
    keeper.count) c.at.ensures c.in_ok-keeper.ensures in (
      ap length more ∙ one_longer before keeper ∙ ap (λ n. n + 1) c.loop-number.invariant.0,
      subst (λ items. (server : ℕ) → IfSome (slice_get items server) (λ one. IsCopiedAt g.S.Copies.copied_from (λ conn. state g.C.Store conn) set server
          (store_path folder server) one.conn (owner_in one.heading) one.count)) (sym more)
          (each_more (λ server one. IsCopiedAt g.S.Copies.copied_from (λ conn. state g.C.Store conn) set server (store_path folder server) one.conn (owner_in one.heading)
          one.count) before keeper number c.loop-number.invariant.0 c.loop-number.invariant.1 here),
    )
