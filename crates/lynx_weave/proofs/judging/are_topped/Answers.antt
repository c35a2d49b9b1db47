use Rattle.std.proofs.Common.{◌∙◌, Some, sym, ap, arith}
use Rattle.std.specs.List.{list_any}
use Rattle.std.proofs.lemmas.Option.{slice_get-get_or}
use Rattle.lynx_weave.specs.Told.{is_topmost}
use Rattle.lynx_weave.proofs.Servings.{topped_there}
use Rattle.lynx_weave.proofs.judging.are_topped.Goals as goal

pub returns-then-is_topped : goal.returns-then-is_topped
returns-then-is_topped c =
    let servers = c.args.servers.now in
    let here = c.here-item.result in
    sym (topped_there servers c.loop-here.here-index here
    (slice_get-get_or servers c.loop-here.here-index here (omega arith) ∙ ap Some (sym c.here-item.is))
    (sym (c.is_topped.ensures ∙ ap (list_any is_topmost) c.history.ensures.value) ∙ c.if-is_topped.true))
