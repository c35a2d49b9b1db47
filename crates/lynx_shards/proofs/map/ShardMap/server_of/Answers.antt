use Rattle.std.proofs.Common.{◌∙◌, subst, sym}
use Rattle.std.proofs.lemmas.Bool.{ltb-true}
use Rattle.lynx_shards.specs.Ranges.{Covers, EachCovers}
use Rattle.lynx_shards.proofs.Search.{EachCovers-at}
use Rattle.lynx_shards.proofs.map.ShardMap.server_of.Goals as goal

pub server_in-requires : goal.server_in-requires
server_in-requires c =
    let h = c.in-Some.ensures.lookup in
    let each : EachCovers c.as_slice.result.now = subst EachCovers (sym c.as_slice.ensures) c.self.invariant in
    subst Covers (sym h.1 ∙ sym c.as_slice-in-Some.ensures) (EachCovers-at c.as_slice.result.now c.index.result _ each (ltb-true _ _ (sym h.0)))
