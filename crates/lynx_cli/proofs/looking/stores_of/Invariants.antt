use Rattle.std.proofs.Common.{◌≡◌, All, map}
use Rattle.sqlite.specs.Held.{state}
use Rattle.std.specs.List.{range_with_len}
use Rattle.lynx_store.specs.declared.inspecting.Inspected.{Inspected}
use Rattle.lynx_cli.specs.Looks.{IsHeld}
use Rattle.lynx_cli.proofs.looking.stores_of.Given as goal

-- the stores so far
abbrev pub invariant-loop-number : goal.invariant-loop-number
invariant-loop-number g l =
    All (IsHeld g.S.Copies.copied_from (λ conn. state g.C.Store conn) l.fn.folder l.fn.set) l.stores.items
    × (map (λ (held : Inspected). held.server) l.stores.items ≡ range_with_len 0 l.number)
