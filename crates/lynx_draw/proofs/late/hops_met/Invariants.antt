use Rattle.std.proofs.Common.{◌≡◌, ◌++◌, drop, filter}
use Rattle.std.specs.List.{flat_map}
use Rattle.lynx_late.specs.Abroad.{hops_abroad}
use Rattle.lynx_draw.specs.Late.{is_end}
use Rattle.lynx_draw.proofs.late.hops_met.Given as goal

-- the hops so far and those that are left are the whole
abbrev pub invariant-loop-place : goal.invariant-loop-place
invariant-loop-place l =
    l.met.items ++ flat_map (hops_abroad l.set) (filter (is_end l.blocks) (drop l.place-index l.place-items)) ≡ flat_map (hops_abroad l.set) (filter (is_end l.blocks) l.place-items)
