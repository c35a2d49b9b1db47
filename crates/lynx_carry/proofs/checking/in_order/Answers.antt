use Rattle.std.proofs.Common.{List, map, subst}
use Rattle.std.proofs.lemmas.List.Sorted.{IsPermutation-map, IsPermutation-sym}
use Rattle.std.specs.List.Sorted.{IsPermutation}
use Rattle.lynx_carry.specs.Naming.{by_name}
use Rattle.lynx_carry.specs.declared.naming.NamedCell.{NamedCell}
use Rattle.lynx_carry.proofs.checking.in_order.Goals as goal

pub returns-clause-ok : goal.returns-clause-ok
returns-clause-ok c =
    let name = by_name c.args.set.now in
    let triples = c.in_ok-triples.triples.items in
    let sorted = c.sort_unstable.new.self.items in
    subst (λ (cells : List NamedCell). IsPermutation (map name sorted) cells) c.in_ok-triples.ensures.ok
    (IsPermutation-map name sorted triples (IsPermutation-sym triples sorted c.sort_unstable.ensures.permutation))
