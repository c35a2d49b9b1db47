use Rattle.std.proofs.Common.{◌≡◌, ◌∙◌}
use Rattle.std.specs.BTreeMap.{get}
use Rattle.lynx_server.specs.Indexes.{request_cmp}
use Rattle.lynx_server.proofs.Indexing.{record_at}
use Rattle.lynx_server.proofs.Chains.{found_as}
use Rattle.lynx_server.proofs.register.Register.record_place.Goals as goal

pub returns : goal.returns
returns c =
    let request = c.args.request.now in
    let history = c.self.inside.books.history in
    let at : c.copied.result ≡ get request_cmp c.self.inside.requests (request.client, request.number) = c.copied.ensures ∙ c.get.ensures.value in
    rw (← c.self.view_is)
    (found_as history _ _ _ _ (c.self.invariant.requests_are (request.client, request.number)) at (record_at request history))
