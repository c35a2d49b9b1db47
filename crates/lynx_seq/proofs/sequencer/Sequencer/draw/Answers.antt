use Rattle.std.proofs.Common.{◌∙◌, All, ap, subst}
use Rattle.lynx_seq.specs.Counters.{IsNumber, numbers_from}
use Rattle.lynx_seq.proofs.Raising.{numbers_are}
use Rattle.lynx_seq.proofs.sequencer.Sequencer.draw.Goals as goal

pub invariant_of-self : goal.invariant_of-self
invariant_of-self c =
    let counters = c.self.inside.counters in
    let are = c.in_ok-numbers.ensures.numbers ∙ ap (numbers_from counters) c.as_slice.ensures in
    record {
      room = c.self.invariant.room;
      drawn = subst (All (IsNumber counters)) are
          (numbers_are counters _ _ are (rw (← c.self.view_is) at c.requires.small) c.in_ok-numbers.ensures.inside);
    }
