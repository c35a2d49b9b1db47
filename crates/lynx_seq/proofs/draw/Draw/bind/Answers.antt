use Rattle.std.proofs.Common.{◌≡◌, All, ap, ◌∙◌, Some}
use Rattle.lynx_seq.specs.Counters.{Sequence, IsNumber, drawn_of}
use Rattle.lynx_seq.proofs.Raising.{raised_at}
use Rattle.lynx_seq.proofs.draw.Draw.bind.Goals as goal

pub returns-clause-each : goal.returns-clause-each
returns-clause-each c server =
    let out : drawn_of c.sequencer.inside.counters c.sequencer.inside.out ≡ Some c.args.self = ap (λ (s : Sequence). s.out) c.sequencer.view_is ∙ c.requires in
    let numbers : c.as_slice.result.now ≡ c.args.self = c.as_slice.ensures ∙ c.self.view_is in
    let drawn : All (IsNumber c.sequencer.inside.counters) c.args.self = rw out at c.sequencer.invariant.drawn in
    rw (c.raise_counters.ensures, numbers, ← c.sequencer.view_is) (raised_at _ _ server c.sequencer.invariant.room drawn)
