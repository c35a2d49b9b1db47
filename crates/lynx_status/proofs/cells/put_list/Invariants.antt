use Rattle.std.proofs.Common.{◌≡◌, ◌++◌, take}
use Rattle.std.specs.Prelude.{codes}
use Rattle.std.specs.List.{flat_map}
use Rattle.std.specs.String.{string_bytes}
use Rattle.lynx_status.specs.Cells.{listed_json}
use Rattle.lynx_status.proofs.cells.put_list.Given as goal

-- the cells so far, each behind a comma
abbrev pub invariant-loop-cell : goal.invariant-loop-cell
invariant-loop-cell l =
    string_bytes l.text ≡ string_bytes l.initial.text ++ flat_map (λ cell. codes "," ++ listed_json cell) (take l.cell-index l.rest)
