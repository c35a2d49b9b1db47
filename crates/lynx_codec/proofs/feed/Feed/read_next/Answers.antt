use Rattle.std.proofs.Common.{Some, Err, ap, sym, ◌∙◌}
use Rattle.lynx_codec.specs.declared.fault.DecodeFault.{DecodeFault}
use Rattle.lynx_codec.specs.Front.{front}
use Rattle.lynx_codec.specs.Feeding.{Stream}
use Rattle.lynx_codec.proofs.Feeds.{waits, gives, other_fault, want_of_memory}
use Rattle.lynx_codec.proofs.feed.Feed.read_next.Goals as goal
use Rattle.lynx_codec.proofs.feed.Feed.read_next.Goals.{then-ne, else-ne}

pub returns-in-Ok-None-clause-waits : goal.returns-in-Ok-None-clause-waits
returns-in-Ok-None-clause-waits c =
    let none = rw c.in-Ok-None.field-0-is at c.in-Ok-None.ensures in
    waits c.args.self.now c.waiting.result.now c.waiting.ensures c.requires none.exact

pub returns-in-Ok-Some-clause-given : goal.returns-in-Ok-Some-clause-given
returns-in-Ok-Some-clause-given c =
    let some = rw c.in-Ok-Some.field-0-is at c.in-Ok-Some.ensures in
    gives c.args.self.now c.waiting.result.now c.self.inside.bytes.items c.self.inside.given c.in-Ok-Some.size c.in-Ok-Some.item c.self.inside.failed
    c.waiting.ensures (ap (λ (s : Stream). s.rest) c.self.view_is) c.requires (ap (λ (s : Stream). s.failed) c.self.view_is ∙ c.requires) some.item

pub returns-after-ne-clause-fault : goal.returns-after-ne-clause-fault
returns-after-ne-clause-fault c =
    elim c.if-ne.branch [
      | then-ne w ↦ other_fault c.args.self.now c.waiting.result.now c.in-Err.fault c.if-ne.self c.in-Err.ensures.exact c.waiting.ensures (sym c.ne.ensures ∙ w.if-ne.true) (w.self-is ∙ ap (λ (s : Stream). record s { failed = Some c.in-Err.fault }) c.self.view_is)
      | else-ne w ↦ want_of_memory c.args.self.now c.in-Err.fault c.if-ne.self (sym c.ne.ensures ∙ w.if-ne.false) w.self-is c.requires (λ is none. c.in-Err.ensures.memory (ap (λ (f : DecodeFault). Err f) is) (ap front c.waiting.ensures ∙ none))
    ]
