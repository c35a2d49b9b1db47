use Rattle.std.proofs.Common.{◌≡◌, ℕ, ◌+◌, ◌<◌, length, take, get_or, count_by}
use Rattle.lynx_weave.specs.Since.{is_fresh_of}
use Rattle.lynx_weave.proofs.counts.count_items.Given as goal

abbrev pub invariant-loop-item : goal.invariant-loop-item
invariant-loop-item l =
    (server : ℕ) → server < length l.fresh →
    get_or l.fresh server 0 ≡ get_or l.initial.fresh server 0 + count_by (is_fresh_of server) (take l.item-index l.items)
