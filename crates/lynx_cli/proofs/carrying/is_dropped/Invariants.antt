use Rattle.std.proofs.Common.{◌≡◌, drop}
use Rattle.std.specs.Prelude.{bytes_eq}
use Rattle.std.specs.List.{list_any}
use Rattle.lynx_cli.proofs.carrying.is_dropped.Given as goal

-- what the names that are left say
abbrev pub invariant-loop-name : goal.invariant-loop-name
invariant-loop-name l =
    list_any (bytes_eq l.fn.table) (drop l.name-index l.dropped) ≡ list_any (bytes_eq l.fn.table) l.fn.dropped
