use Rattle.std.proofs.Common.{◌≡◌, ◌∙◌, sym, ap, subst, None}
use Rattle.lynx_entry.specs.Entry.{History}
use Rattle.lynx_rules.specs.Lawful.{record_of}
use Rattle.lynx_server.specs.Books.{BooksState}
use Rattle.lynx_server.specs.History.{grown}
use Rattle.lynx_server.specs.Indexes.{IsRegister, request_cmp, keeps_request, hop_cmp, is_hop_at}
use Rattle.lynx_server.proofs.Indexing.{indexed_more, indexed_other, indexed_back, one_record, record_at, same_pair}
use Rattle.lynx_server.proofs.register.Register.begin_new.Goals as goal

pub invariant_of-self-in-Ok : goal.invariant_of-self-in-Ok
invariant_of-self-in-Ok g c =
    let request = c.args.request in
    let books = c.self.inside.books in
    let one = one_record books request c.args.seen in
    let new : record_of request books.history ≡ None = rw (← c.self.view_is) at c.requires.due.new in
    let grew : c.begin_new.new.self.history ≡ grown books.history _ = ap (λ (s : BooksState). s.history) c.in-Ok.ensures.grows in
    subst (λ (history : History). IsRegister history c.insert.new.self c.self.inside.hops) (sym (grew ∙ ap (grown books.history) one.added_is))
    (record {
      requests_are = indexed_more request_cmp keeps_request books.history one.entry (request.client, request.number) c.self.inside.requests c.insert.new.self
          same_pair one.tied (record_at request books.history ∙ new) c.self.invariant.requests_are (rw c.len-place.ensures at c.in_ok-insert.ensures.updates);
      hops_are = indexed_other hop_cmp is_hop_at books.history one.entry c.self.inside.hops one.no_hop c.self.invariant.hops_are;
    })

pub invariant_of-self-in-Err : goal.invariant_of-self-in-Err
invariant_of-self-in-Err g c =
    let request = c.args.request in
    let books = c.self.inside.books in
    let new : record_of request books.history ≡ None = rw (← c.self.view_is) at c.requires.due.new in
    subst (λ (history : History). IsRegister history c.remove.new.self c.self.inside.hops) (sym (ap (λ (s : BooksState). s.history) c.in-Err.ensures.err))
    (record {
      requests_are = indexed_back request_cmp keeps_request books.history (request.client, request.number) c.self.inside.requests c.insert.new.self c.remove.new.self _
          same_pair (record_at request books.history ∙ new) c.self.invariant.requests_are c.in_ok-insert.ensures.updates c.remove.ensures.updates;
      hops_are = c.self.invariant.hops_are;
    })
