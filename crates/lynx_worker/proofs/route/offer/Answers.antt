use Rattle.lynx_worker.proofs.Sendings.{offered}
use Rattle.lynx_worker.proofs.route.offer.Goals as goal

pub returns-in-Some : goal.returns-in-Some
returns-in-Some c =
    offered c.args.ends.now c.args.to c.in-Some.sender.now c.offer.new.self c.args.parcel c.offer.result c.is_ok.result c.in-Some.ensures.value
    c.offer.ensures.ok c.offer.ensures.full c.is_ok.ensures.value
