use Rattle.std.proofs.Common.{◌≡◌, ◌≤◌, ◌-◌, map, replicate}
use Rattle.std.specs.List.{range_with_len}
use Rattle.lynx_keep.specs.Kept.{nothing_kept}
use Rattle.lynx_world.specs.inner.Servers.{new_server}
use Rattle.lynx_world.proofs.opening.open_all.Given as goal

abbrev pub invariant-loop-number : goal.invariant-loop-number
invariant-loop-number l = record {
  servers : l.servers.items ≡ map (new_server l.set) (range_with_len 0 l.number);
  rest : l.keepers.rest.items ≡ replicate (l.count - l.number) nothing_kept;
  count : l.count ≡ l.set.servers;
  within : l.number ≤ l.count;
}
