use Rattle.std.proofs.Common.{◌∙◌, ap, slice_index}
use Rattle.lynx_turn.specs.Turns.{stand}
use Rattle.lynx_server.proofs.books.Books.stand.Goals as goal

pub returns : goal.returns
returns c =
    let origin = c.args.message.now.chain.origin in
    rw (← c.self.view_is)
    (c.stand.ensures.value
    ∙ ap (λ number. stand number (slice_index c.self.inside.turns origin)) c.own_number.ensures
    ∙ ap (stand _) (c.self.invariant.turns_are origin c.stand.ensures.in_range))
