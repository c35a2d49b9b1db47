use Rattle.std.proofs.Common.{Err, ap, ◌∙◌, sym, subst}
use Rattle.lynx_codec.specs.Feeding.{Stream, IsFailing, Faults}
use Rattle.lynx_codec.proofs.Feeds.{failed-faults, only}
use Rattle.lynx_codec.proofs.feed.Feed.next.Goals as goal

pub returns-in-Some-clause-fault : goal.returns-in-Some-clause-fault
returns-in-Some-clause-fault c = failed-faults c.args.self.now c.in-Some.fault (sym (ap (λ (s : Stream). s.failed) c.self.view_is) ∙ c.in-Some.is) (subst IsFailing c.self.view_is c.self.invariant.1)

pub returns-in-Some-clause-whole : goal.returns-in-Some-clause-whole
returns-in-Some-clause-whole c = λ item more fits is.
    let stands : Faults c.args.self.now c.args.self.now c.in-Some.fault = failed-faults c.args.self.now c.in-Some.fault (sym (ap (λ (s : Stream). s.failed) c.self.view_is) ∙ c.in-Some.is) (subst IsFailing c.self.view_is c.self.invariant.1) in
    only c.args.self.now c.args.self.now (Err c.in-Some.fault) tt tt stands item more fits is

pub returns-in-None-clause-whole : goal.returns-in-None-clause-whole
returns-in-None-clause-whole c = only c.args.self.now c.read_next.new.self c.read_next.result c.read_next.ensures.given c.read_next.ensures.waits c.read_next.ensures.fault
