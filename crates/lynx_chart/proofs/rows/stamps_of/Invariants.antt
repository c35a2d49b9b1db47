use Rattle.std.proofs.Common.{◌≡◌, drop}
use Rattle.lynx_chart.specs.Rows.{stamps_behind, stamps_of}
use Rattle.lynx_chart.proofs.rows.stamps_of.Given as goal

-- those of what is left come behind those so far
abbrev pub invariant-loop-place : goal.invariant-loop-place
invariant-loop-place l =
    stamps_behind l.stamps.items (drop l.place l.world.list) ≡ stamps_of l.world.list
