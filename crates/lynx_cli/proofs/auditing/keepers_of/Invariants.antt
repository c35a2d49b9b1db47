use Rattle.std.proofs.Common.{◌≡◌, ℕ, length, slice_get}
use Rattle.std.specs.Prelude.{IfSome}
use Rattle.sqlite.specs.Held.{state}
use Rattle.lynx_store.specs.Heading.{owner_in}
use Rattle.lynx_store_files.specs.Paths.{store_path}
use Rattle.lynx_cli.specs.Copied.{IsCopiedAt}
use Rattle.lynx_cli.proofs.auditing.keepers_of.Given as goal

-- a keeper for each server so far
abbrev pub invariant-loop-number : goal.invariant-loop-number
invariant-loop-number g l =
    (length l.keepers.items ≡ l.number)
    × ((server : ℕ) → IfSome (slice_get l.keepers.items server) (λ keeper. IsCopiedAt g.S.Copies.copied_from (λ conn. state g.C.Store conn) l.fn.set server
    (store_path l.fn.folder server) keeper.conn (owner_in keeper.heading) keeper.count))
