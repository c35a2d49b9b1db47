use Rattle.std.proofs.Common.{◌<◌, ◌∙◌, All, length, slice_index, ap, sym, subst, refl}
use Rattle.lynx_names.specs.declared.limits.TheConstants.{MAX_ENTRIES}
use Rattle.lynx_seq.specs.Counters.{Sequence, numbers_from}
use Rattle.lynx_server.proofs.Numbers.{numbers_drawn, small_counters}
use Rattle.lynx_server.proofs.books.Books.take.Goals as goal

pub draw-requires-clause-small : goal.draw-requires-clause-small
draw-requires-clause-small c =
    let history = c.self.inside.history.items in
    let counters = c.self.inside.sequencer.counters in
    let room : length history < MAX_ENTRIES = rw (← c.self.view_is) at c.requires.room in
    subst (All (λ server. slice_index counters server < MAX_ENTRIES)) (sym c.visited-visits.ensures)
    (small_counters c.self.inside.set history counters c.args.request.program room c.self.invariant.counters_are)

pub returns-clause-taken : goal.returns-clause-taken
returns-clause-taken c =
    let history = c.self.inside.history.items in
    let counters = c.self.inside.sequencer.counters in
    record {
      request_is = refl;
      seen_is = refl;
      stamp_is = rw (← c.self.view_is) at c.requires.stamp;
      draw_is = c.in_ok-draw.ensures.numbers ∙ ap (numbers_from counters) c.visited-visits.ensures
          ∙ numbers_drawn c.self.inside.set history counters c.args.request.program c.self.invariant.counters_are;
      out_is = ap (λ (s : Sequence). s.out) c.in_ok-draw.ensures.out;
    }
