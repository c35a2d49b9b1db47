use Rattle.std.proofs.Common.{◌∙◌, eq-eqb, length}
use Rattle.lynx_status.proofs.Recorded.{records_so}
use Rattle.lynx_status.proofs.lookups.records_reply.Goals as goal

pub returns : goal.returns
returns c =
    let empty = c.is_empty.ensures in
    let isnt = c.if-is_empty.false in
    records_so c.args.shape c.args.client c.args.number c.args.found.now c.told.result (λ none. let yes = eq-eqb (length c.args.found.now) 0 none in cc) (record {
      status_is = c.told.ensures.status_is;
      content_is = c.told.ensures.content_is;
      body_is = c.told.ensures.body_is ∙ c.in_ok-body.ensures;
    })
