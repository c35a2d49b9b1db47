use Rattle.std.proofs.Common.{arith, rules, length, ◌≡◌, ◌∙◌, ap, sym, refl, None, Option}
use Rattle.lynx_entry.specs.declared.answer.Answer.{Answer}
use Rattle.lynx_rules.specs.Checks.{request_fault}
use Rattle.lynx_server.specs.inner.Begins.{IsDue, due}
use Rattle.lynx_server.specs.Books.{BooksState}
use Rattle.lynx_server.proofs.Answering.{answered, failed-so}
use Rattle.lynx_server.proofs.Due.{busy-answer, due-answer}
use Rattle.lynx_server.proofs.Lasting.{serves_on}
use Rattle.lynx_server.proofs.server.Server.try_begin.Goals as goal

pub returns-then-is_busy-clause-tried : goal.returns-then-is_busy-clause-tried
returns-then-is_busy-clause-tried g c =
    let books = c.self.inside.register in
    let request = c.args.request in
    let seen = c.args.seen in
    let here : c.books-books.result.now ≡ books = c.books-books.ensures in
    let none : Option Answer = None in
    let in_order : none ≡ request_fault c.books-books.result.now.set c.books-books.result.now.server request =
    rw (← c.set.ensures.value, ← c.server.ensures) c.in_default-request_fault.ensures in
    rw (← c.self.view_is)
    (answered _ _ request seen _ _
    (busy-answer books.set books.server books.history request seen (sym c.in_default.ensures) (sym (rw here at in_order)) (rw here at c.in-Some-next_stamp.ensures.0) (sym (rw here at c.if-is_busy.ensures)))
    refl
    (record { set_is = refl; server_is = refl; history_is = refl; held_is = refl; stopped_is = refl; opened_is = refl; acknowledged_is = refl }))

pub returns-in-Ok-clause-tried : goal.returns-in-Ok-clause-tried
returns-in-Ok-clause-tried g c =
    let books = c.self.inside.register in
    let request = c.args.request in
    let seen = c.args.seen in
    let here : c.books-books.result.now ≡ books = c.books-books.ensures in
    let none : Option Answer = None in
    let in_order : none ≡ request_fault c.books-books.result.now.set c.books-books.result.now.server request =
    rw (← c.set.ensures.value, ← c.server.ensures) c.in_default-request_fault.ensures in
    let is : IsDue books request seen = record {
      new = sym c.in_default.ensures;
      in_order = sym (rw here at in_order);
      room = rw here at c.in-Some-next_stamp.ensures.0;
      not_busy = sym (rw here at c.if-is_busy.ensures);
    } in
    let grew = c.in-Ok.ensures.grows in
    rw (← c.self.view_is)
    (answered _ _ request seen _ _ (due-answer books request seen is) (c.answer.ensures ∙ c.in-Ok.ensures.answer)
    (record {
      set_is = ap (λ (s : BooksState). s.set) grew;
      server_is = ap (λ (s : BooksState). s.server) grew;
      history_is = ap (λ (s : BooksState). s.history) grew;
      held_is = refl;
      stopped_is = refl;
      opened_is = refl;
      acknowledged_is = c.make_mark_room.ensures.items;
    }))

pub invariant_of-self-in-Ok : goal.invariant_of-self-in-Ok
invariant_of-self-in-Ok g c =
    let books = c.self.inside.register in
    let here : c.books-books.result.now ≡ books = c.books-books.ensures in
    let counted : length books.history ≡ c.len.result = ap (λ (b : BooksState). length b.history) (sym here) ∙ sym c.len.ensures in
    let room = c.in_ok-make_mark_room.ensures.room in
    serves_on _ books _ _ _ _ _ _ _ _ c.self.invariant c.in-Ok.ensures.grows c.in-Ok.ensures.commits.goes (omega (arith, counted, room))

pub returns-in-Err-Failed-clause-keeper : goal.returns-in-Err-Failed-clause-keeper
returns-in-Err-Failed-clause-keeper g c =
    let books = c.self.inside.register in
    let request = c.args.request in
    let seen = c.args.seen in
    let here : c.books-books.result.now ≡ books = c.books-books.ensures in
    let none : Option Answer = None in
    let in_order : none ≡ request_fault c.books-books.result.now.set c.books-books.result.now.server request =
    rw (← c.set.ensures.value, ← c.server.ensures) c.in_default-request_fault.ensures in
    let is : IsDue books request seen = record {
      new = sym c.in_default.ensures;
      in_order = sym (rw here at in_order);
      room = rw here at c.in-Some-next_stamp.ensures.0;
      not_busy = sym (rw here at c.if-is_busy.ensures);
    } in
    rw (← c.self.view_is) (failed-so g.K.Keeper.terms c.self.inside.keeper c.begin_new.new.keeper books.set books.history (due books request seen) _ (due-answer books request seen is) (search rules))
