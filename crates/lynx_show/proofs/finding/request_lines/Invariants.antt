use Rattle.std.proofs.Common.{◌≡◌, take}
use Rattle.std.specs.List.{flat_map}
use Rattle.lynx_show.specs.Finds.{store_finds}
use Rattle.lynx_show.proofs.finding.request_lines.Given as goal

-- the stores so far
abbrev pub invariant-loop-held : goal.invariant-loop-held
invariant-loop-held l =
    l.text.items ≡ flat_map (store_finds l.set l.stores l.client l.number) (take l.held-index l.stores)
