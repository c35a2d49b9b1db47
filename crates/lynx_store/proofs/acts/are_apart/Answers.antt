use Rattle.std.proofs.Common.{rules, ◌≡◌, length}
use Rattle.std.specs.BTreeSet.{btree_set_len}
use Rattle.lynx_store.proofs.Apart.{apart_by_count}
use Rattle.lynx_store.proofs.acts.are_apart.Goals as goal

pub returns : goal.returns
returns c =
    let acts = c.args.acts.now in
    let hops = c.in_ok-hops.hops in
    let both = apart_by_count acts hops (search rules) in
    (λ yes. both.0 (search rules), λ apart. let same : btree_set_len hops ≡ length acts = both.1 apart in search rules)
