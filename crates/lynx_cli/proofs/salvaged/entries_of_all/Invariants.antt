use Rattle.std.proofs.Common.{rules, ◌≡◌, ℕ, IfNone, IfOk, IfSome, length, slice_get, ◌+◌, ◌<◌, Bool, true, false, List, [], ◌∷◌, ◌++◌, subst, sym, refl}
use Rattle.sqlite.specs.Held.{state}
use Rattle.lynx_cli.specs.Copied.{AreFoundIn, IsFound, IsFoundAt, IsLostAt}
use Rattle.lynx_entry.specs.Entry.{History}
use Rattle.lynx_store_files.specs.Paths.{store_path}
use Rattle.lynx_cli.proofs.salvaged.entries_of_all.Given as goal

abbrev pub invariant-loop-number : goal.invariant-loop-number
invariant-loop-number g l =
    (length l.all.items ≡ l.number)
    × ((server : ℕ) → IfSome (slice_get l.all.items server) (λ entries. IsFound g.S.Copies.copied_from g.S.Copies.uncopied (λ conn. state g.C.Store conn) l.fn.set server
    (store_path l.fn.folder server) entries.items))
