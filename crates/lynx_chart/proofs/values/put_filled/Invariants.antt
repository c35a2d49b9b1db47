use Rattle.std.proofs.Common.{◌≡◌, ◌++◌, ◌≤◌, drop, map}
use Rattle.lynx_chart.specs.Values.{filled, value_text}
use Rattle.lynx_chart.proofs.values.put_filled.Given as goal

-- what is written and what is left are the whole
abbrev pub invariant-loop-byte : goal.invariant-loop-byte
invariant-loop-byte l =
    record {
      within : l.place ≤ l.byte-index;
      whole : (l.out.items ++ filled (drop l.byte-index l.template) (drop l.place (map value_text l.values))) ≡ (l.fn.out.items ++ filled l.template (map value_text l.values));
    }
