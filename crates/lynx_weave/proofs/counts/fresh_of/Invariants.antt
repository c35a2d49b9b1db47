use Rattle.std.proofs.Common.{◌≡◌, ℕ, ◌<◌, length, take, get_or, count_by}
use Rattle.lynx_weave.specs.Rebuilt.{told_in}
use Rattle.lynx_weave.specs.Since.{is_fresh_of}
use Rattle.lynx_weave.specs.Weaving.{all_told}
use Rattle.lynx_weave.proofs.counts.fresh_of.Given as goal

abbrev pub invariant-loop-items : goal.invariant-loop-items
invariant-loop-items l = record {
  many : length l.fresh.items ≡ l.servers;
  counted : (server : ℕ) → server < l.servers →
      get_or l.fresh.items server 0 ≡ count_by (is_fresh_of server) (all_told (take l.items-index (told_in l.told)));
}
