use Rattle.std.proofs.Common.{rules, ◌≡◌, ℕ, subst, sym}
use Rattle.sqlite.specs.Held.{state}
use Rattle.lynx_store_files.specs.Paths.{store_path}
use Rattle.lynx_cli.specs.Looks.{IsReadAt}
use Rattle.lynx_cli.proofs.looking.held_at.Goals as goal

pub returns-then-is_same-clause-held : goal.returns-then-is_same-clause-held
returns-then-is_same-clause-held g c =
    let same : c.in_ok-held.held.server ≡ c.args.server = search rules in
    record {
      set_is = search rules;
      read = subst (λ (server : ℕ). IsReadAt g.S.Copies.copied_from (λ conn. state g.C.Store conn) (store_path c.args.folder.now server) c.in_ok-held.held) (sym same) c.in_ok-held.ensures;
    }
