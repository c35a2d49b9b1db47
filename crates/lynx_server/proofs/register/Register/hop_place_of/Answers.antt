use Rattle.std.proofs.Common.{◌≡◌, ◌∙◌}
use Rattle.std.specs.BTreeMap.{get}
use Rattle.lynx_server.specs.Indexes.{hop_cmp}
use Rattle.lynx_server.proofs.Indexing.{hop_at_key}
use Rattle.lynx_server.proofs.Chains.{found_as}
use Rattle.lynx_server.proofs.register.Register.hop_place_of.Goals as goal

pub returns : goal.returns
returns c =
    let chain = c.args.chain in
    let history = c.self.inside.books.history in
    let at : c.copied.result ≡ get hop_cmp c.self.inside.hops ((chain.origin, chain.index), c.args.hop) = c.copied.ensures ∙ c.get.ensures.value in
    rw (← c.self.view_is)
    (found_as history _ _ _ _ (c.self.invariant.hops_are ((chain.origin, chain.index), c.args.hop)) at (hop_at_key chain c.args.hop history))
