use Rattle.std.proofs.Common.{rules, ◌≡◌, ◌∙◌, ℕ, Option, IfNone, IfOk, IfSome, length, slice_get, ◌+◌, ◌<◌, Bool, true, false, List, [], ◌∷◌, ◌++◌, ap, arith, map, subst, sym, inl, inr}
use Rattle.sqlite.specs.Held.{state}
use Rattle.lynx_cli.specs.Copied.{AreFoundIn, IsFound, IsFoundAt, IsLostAt}
use Rattle.lynx_entry.specs.Entry.{History}
use Rattle.lynx_set.specs.Set.{Set}
use Rattle.lynx_store.specs.Stored.{owner_for}
use Rattle.lynx_store_files.specs.Paths.{store_path}
use Rattle.lynx_cli.proofs.salvaged.entries_of.Goals as goal

pub returns-in-Some : goal.returns-in-Some
returns-in-Some g c =
    let path = store_path c.args.folder.now c.args.server in
    let same : c.in-Some.found.set ≡ c.args.set.now = search rules in
    let at : IsFoundAt g.S.Copies.copied_from (λ conn. state g.C.Store conn) c.in-Some.found.set c.args.server path c.in-Some.found.entries.items =
    subst (λ found. IfSome found (λ held. IsFoundAt g.S.Copies.copied_from (λ conn. state g.C.Store conn) held.set c.args.server path held.entries.items))
    c.in-Some.is c.in_ok-found.ensures.found in
    inl (subst (λ set. IsFoundAt g.S.Copies.copied_from (λ conn. state g.C.Store conn) set c.args.server path c.in-Some.found.entries.items) same at)
