use Rattle.std.proofs.Common.{◌≡◌, sym, arith, length, ◌∙◌, ap, refl, filter, not, if◌then◌else◌}
use Rattle.lynx_entry.specs.declared.answer.Delivered.{Delivered}
use Rattle.lynx_turn.specs.Held.{is_for}
use Rattle.lynx_server.specs.Books.{BooksState}
use Rattle.lynx_server.specs.History.{grown}
use Rattle.lynx_server.specs.inner.Hops.{outcome_of}
use Rattle.lynx_server.specs.inner.Trying.{is_done}
use Rattle.lynx_server.proofs.Delivering.{same_delivered, same_added, held_then}
use Rattle.lynx_server.proofs.Lasting.{free_with, serves_on}
use Rattle.lynx_server.proofs.server.Server.run_message.Goals as goal

pub returns-in-Ok-clause-tried : goal.returns-in-Ok-clause-tried
returns-in-Ok-clause-tried g c =
    let books = c.self.inside.register in
    let message = c.args.message in
    let held = c.self.inside.held in
    let outcome = outcome_of books message in
    let grew = c.in-Ok.ensures.grown in
    rw (← c.self.view_is)
    (record {
      delivered_is = c.in-Ok.ensures.delivered ∙ same_delivered books.set books.history held message outcome;
      becomes = record {
        set_is = ap (λ (s : BooksState). s.set) grew;
        server_is = ap (λ (s : BooksState). s.server) grew;
        history_is = ap (λ (s : BooksState). s.history) grew ∙ ap (grown books.history) (same_added books.set books.history held message outcome);
        held_is = c.release_done.ensures
            ∙ ap (λ (d : Delivered). if is_done d then filter (λ other. not (is_for message.chain message.hop other)) held else held) c.in-Ok.ensures.delivered
            ∙ held_then books.set books.history held message outcome;
        stopped_is = refl;
        opened_is = refl;
        acknowledged_is = c.make_mark_room.ensures.items;
      };
    })

pub invariant_of-self-in-Ok : goal.invariant_of-self-in-Ok
invariant_of-self-in-Ok g c =
    let books = c.self.inside.register in
    let here : c.books.result.now ≡ books = c.books.ensures in
    let counted : length books.history ≡ c.len.result = ap (λ (b : BooksState). length b.history) (sym here) ∙ sym c.len.ensures in
    let room = c.in_ok-make_mark_room.ensures.room in
    serves_on _ books _ _ _ _ _ _ _ _ c.self.invariant (c.in-Ok.ensures.grown ∙ free_with books _ c.self.invariant.free) c.in-Ok.ensures.commits.goes (omega (arith, counted, room))
