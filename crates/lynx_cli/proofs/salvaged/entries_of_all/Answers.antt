use Rattle.std.proofs.Common.{rules, ◌≡◌, ◌∙◌, ℕ, Option, IfNone, IfOk, IfSome, length, slice_get, ◌+◌, ◌<◌, Bool, true, false, List, [], ◌∷◌, ◌++◌, ap, arith, map, subst, sym, inl, inr}
use Rattle.sqlite.specs.Held.{state}
use Rattle.lynx_cli.specs.Copied.{AreFoundIn, IsFound, IsFoundAt, IsLostAt}
use Rattle.lynx_entry.specs.Entry.{History}
use Rattle.lynx_set.specs.Set.{Set}
use Rattle.lynx_store.specs.Stored.{owner_for}
use Rattle.lynx_store_files.specs.Paths.{store_path}
use Rattle.lynx_cli.proofs.Placing.{each_more, one_longer}
use Rattle.lynx_cli.proofs.salvaged.entries_of_all.Goals as goal

pub loop-number-preserved : goal.loop-number-preserved
loop-number-preserved g c =
    let folder = c.args.folder.now in
    let set = c.args.set.now in
    let number = c.loop-number.number in
    let before = c.loop-number.all.items in
    let entries = c.in_ok-entries.entries in
    let more = c.in_ok-add.ensures in
    let here = subst (λ server. IsFound g.S.Copies.copied_from g.S.Copies.uncopied (λ conn. state g.C.Store conn) set server (store_path folder server) entries.items)
    c.at.ensures c.in_ok-entries.ensures in (
      ap length more ∙ one_longer before entries ∙ ap (λ n. n + 1) c.loop-number.invariant.0,
      subst (λ items. (server : ℕ) → IfSome (slice_get items server) (λ one. IsFound g.S.Copies.copied_from g.S.Copies.uncopied (λ conn. state g.C.Store conn) set server
          (store_path folder server) one.items)) (sym more)
          (each_more (λ server one. IsFound g.S.Copies.copied_from g.S.Copies.uncopied (λ conn. state g.C.Store conn) set server (store_path folder server) one.items)
          before entries number c.loop-number.invariant.0 c.loop-number.invariant.1 here),
    )
