use Rattle.std.proofs.Common.{◌∙◌, Some, ap, sym}
use Rattle.std.specs.Prelude.{slice_get, slice_index_or}
use Rattle.std.proofs.lemmas.Option.{slice_get-get_or}
use Rattle.lynx_weave.specs.Servers.{histories_of}
use Rattle.lynx_cluster.proofs.Settlings.{all_stay, all_then, acknowledgement_done}
use Rattle.lynx_cluster.proofs.settling.settle_at.Goals as goal

pub loop-acknowledgement-init : goal.loop-acknowledgement-init
loop-acknowledgement-init g c = all_stay (histories_of c.args.servers.now) c.args.servers.now

pub loop-acknowledgement-preserved : goal.loop-acknowledgement-preserved
loop-acknowledgement-preserved g c =
    let acknowledgements = c.as_slice-acknowledgement-items.result.now in
    let here = slice_index_or c.args.servers.now c.args.receiver c.index-servers-receiver.result in
    all_then (histories_of c.args.servers.now) c.args.servers.now c.loop-acknowledgement.servers c.settle_one.new.servers c.loop-acknowledgement.invariant
    (c.settle_one.ensures (histories_of c.args.servers.now)
    (acknowledgement_done c.args.servers.now c.args.receiver here c.in_ok-acknowledgements.acknowledgements.items c.loop-acknowledgement.acknowledgement-index c.acknowledgement-item.result
    (slice_get-get_or c.args.servers.now c.args.receiver c.index-servers-receiver.result c.requires) c.in_ok-acknowledgements.ensures
    (ap (λ l. slice_get l c.loop-acknowledgement.acknowledgement-index) (sym c.as_slice-acknowledgement-items.ensures.value)
    ∙ slice_get-get_or acknowledgements c.loop-acknowledgement.acknowledgement-index c.acknowledgement-item.result c.loop-acknowledgement-test.true ∙ ap Some (sym c.acknowledgement-item.is))))
