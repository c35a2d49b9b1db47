use Rattle.std.proofs.Common.{rules, ◌≡◌, ◌∙◌, ℕ, Option, IfNone, IfOk, IfSome, length, slice_get, ◌+◌, ◌<◌, Bool, true, false, List, [], ◌∷◌, ◌++◌, ap, arith, map, subst, sym, inl, inr}
use Rattle.sqlite.specs.Held.{state}
use Rattle.lynx_cli.specs.Copied.{AreFoundIn, IsFound, IsFoundAt, IsLostAt}
use Rattle.lynx_entry.specs.Entry.{History}
use Rattle.lynx_set.specs.Set.{Set}
use Rattle.lynx_store.specs.Stored.{owner_for}
use Rattle.lynx_store_files.specs.Paths.{store_path}
use Rattle.lynx_cli.proofs.Placing.{as_many, each_seen}
use Rattle.lynx_cli.proofs.salvaged.found_in.Goals as goal

pub returns-clause-are : goal.returns-clause-are
returns-clause-are g c =
    let folder = c.args.folder.now in
    let set = c.in_ok-set.set in
    let all = c.in_ok-entries.entries.items in
    record {
      many = as_many (λ one. one.items) all ∙ c.in_ok-entries.ensures.many;
      each = each_seen (λ server entries. IsFound g.S.Copies.copied_from g.S.Copies.uncopied (λ conn. state g.C.Store conn) set server (store_path folder server) entries)
          (λ one. one.items) all c.in_ok-entries.ensures.each;
      source = c.in_ok-set.ensures.0;
      first = c.in_ok-set.ensures.1.0;
      of_source = c.in_ok-set.ensures.1.1;
    }
