use Rattle.std.proofs.Common.{◌≡◌, ◌-◌, ◌<◌, ◌++◌, map}
use Rattle.std.specs.List.{range_with_len}
use Rattle.lynx_report.proofs.owed.add_left.Given as goal

-- the hops so far are added, and none where none are left
abbrev pub invariant-loop-hop : goal.invariant-loop-hop
invariant-loop-hop l = record {
  added : l.owed.items ≡ l.initial.owed.items ++ map (λ hop. record { chain = l.chain; hop = hop }) (range_with_len l.reached.next (l.hop - l.reached.next));
  at_once : l.hop-end < l.reached.next → l.hop ≡ l.reached.next;
}
