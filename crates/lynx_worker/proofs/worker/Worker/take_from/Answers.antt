use Rattle.lynx_worker.proofs.Takings.{takes_one}
use Rattle.lynx_worker.proofs.worker.Worker.take_from.Goals as goal

pub returns-in-Some : goal.returns-in-Some
returns-in-Some g c =
    takes_one c.args.self.now.ends c.args.from c.in-Some.receiver.now c.take_out.new.receiver c.args.self.now.inbox.items c.take_out.new.inbox.items
    c.in-Some.ensures.value c.take_out.ensures
