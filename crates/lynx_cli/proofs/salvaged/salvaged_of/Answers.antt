use Rattle.std.proofs.Common.{rules, ◌≡◌, ◌∙◌, ℕ, Option, IfNone, IfOk, IfSome, length, slice_get, ◌+◌, ◌<◌, Bool, true, false, List, [], ◌∷◌, ◌++◌, ap, arith, map, subst, sym, inl, inr}
use Rattle.sqlite.specs.Held.{state}
use Rattle.lynx_cli.specs.Copied.{AreFoundIn, IsFound, IsFoundAt, IsLostAt}
use Rattle.lynx_entry.specs.Entry.{History}
use Rattle.lynx_set.specs.Set.{Set}
use Rattle.lynx_store.specs.Stored.{owner_for}
use Rattle.lynx_store_files.specs.Paths.{store_path}
use Rattle.lynx_cli.proofs.salvaged.salvaged_of.Goals as goal

pub returns-in_default-clause-lost : goal.returns-in_default-clause-lost
returns-in_default-clause-lost g c =
    inl (subst (λ found. IfNone found (g.S.Copies.uncopied (store_path c.args.folder.now c.args.server))) c.in_default.is c.in_ok-copy.ensures.uncopied)

pub returns-in-Ok-clause-found : goal.returns-in-Ok-clause-found
returns-in-Ok-clause-found g c =
    let same : c.in-Ok.found.server ≡ c.args.server = search rules in
    record {
      copy = c.in-Some.copy;
      from = subst (λ found. IfSome found (g.S.Copies.copied_from (store_path c.args.folder.now c.args.server))) c.in-Some.is c.in_ok-copy.ensures.copied;
      read = c.salvage.new.conn;
      all = λ fine owner count kept few was.
          let told = c.in-Ok.ensures.all fine owner count kept few was in
          (told.0 ∙ ap (λ server. owner_for server c.in-Ok.found.set) same, told.1);
    }

pub returns-in-Err-Damaged-clause-lost : goal.returns-in-Err-Damaged-clause-lost
returns-in-Err-Damaged-clause-lost g c =
    inr (record {
      copy = c.in-Some.copy;
      from = subst (λ found. IfSome found (g.S.Copies.copied_from (store_path c.args.folder.now c.args.server))) c.in-Some.is c.in_ok-copy.ensures.copied;
      read = c.salvage.new.conn;
      nothing = λ fine server chains is. c.salvage.ensures.damaged fine (search rules) server chains is;
    })
