use Rattle.std.proofs.Common.{◌≡◌, ◌∙◌, ℕ, sym, ap, subst, refl}
use Rattle.std.specs.Ordering.{eq_by_cmp}
use Rattle.lynx_entry.specs.declared.entry.Entry.TheVariants.{Hop}
use Rattle.lynx_entry.specs.Entry.{History}
use Rattle.lynx_server.specs.declared.hop_steps.TakenMessage.{TakenMessage}
use Rattle.lynx_server.specs.Books.{BooksState}
use Rattle.lynx_server.specs.inner.Hops.{IsDue, RanOn, hop_entry}
use Rattle.lynx_server.specs.Indexes.{IsRegister, request_cmp, keeps_request, hop_cmp, is_hop_at}
use Rattle.lynx_server.proofs.Indexing.{indexed_more, indexed_other, indexed_back, hop_at_key, hop_tied, same_hop_key}
use Rattle.lynx_server.proofs.register.Register.run_message.Goals as goal

pub keep-requires-clause-due : goal.keep-requires-clause-due
keep-requires-clause-due g c =
    let books = c.self.inside.books in
    let ran : RanOn books c.new-taken.result c.in-Some.step = rw c.in-Some.is at c.in_ok-came.ensures in
    let due : IsDue books c.args.message c.args.stamp = rw (← c.self.view_is) at c.requires in
    subst (λ (taken : TakenMessage). IsDue books taken.message taken.stamp) (sym (ran.taken_is ∙ c.new-taken.ensures)) due

pub invariant_of-self-in-Ok : goal.invariant_of-self-in-Ok
invariant_of-self-in-Ok g c =
    let books = c.self.inside.books in
    let message = c.args.message in
    let step = c.in-Some.step in
    let ran : RanOn books c.new-taken.result step = rw c.in-Some.is at c.in_ok-came.ensures in
    let due : IsDue books message c.args.stamp = rw (← c.self.view_is) at c.requires in
    let key : (ℕ × ℕ) × ℕ = ((message.chain.origin, message.chain.index), message.hop) in
    let key_of : TakenMessage → (ℕ × ℕ) × ℕ = λ taken. ((taken.message.chain.origin, taken.message.chain.index), taken.message.hop) in
    let same : key_of step.taken ≡ key = ap key_of (ran.taken_is ∙ c.new-taken.ensures) in
    let entry = Hop (hop_entry step.taken.message step.taken.stamp step.ran.0) in
    subst (λ (history : History). IsRegister history c.self.inside.requests c.insert.new.self) (sym (ap (λ (s : BooksState). s.history) c.in-Ok.ensures.grown))
    (record {
      requests_are = indexed_other request_cmp keeps_request books.history entry c.self.inside.requests (λ k. refl) c.self.invariant.requests_are;
      hops_are = indexed_more hop_cmp is_hop_at books.history entry key c.self.inside.hops c.insert.new.self same_hop_key
          (λ k. hop_tied step.taken.message step.taken.stamp step.ran.0 k ∙ ap (λ first. eq_by_cmp hop_cmp first k) same)
          (hop_at_key message.chain message.hop books.history ∙ due.new) c.self.invariant.hops_are
          (rw c.len-place.ensures at c.in_default-insert.ensures.updates);
    })

pub invariant_of-self-in-Err-keep : goal.invariant_of-self-in-Err-keep
invariant_of-self-in-Err-keep g c =
    let books = c.self.inside.books in
    let message = c.args.message in
    let due : IsDue books message c.args.stamp = rw (← c.self.view_is) at c.requires in
    subst (λ (history : History). IsRegister history c.self.inside.requests c.remove.new.self) (sym (ap (λ (s : BooksState). s.history) c.in-Err-keep.ensures.err))
    (record {
      requests_are = c.self.invariant.requests_are;
      hops_are = indexed_back hop_cmp is_hop_at books.history ((message.chain.origin, message.chain.index), message.hop) c.self.inside.hops c.insert.new.self c.remove.new.self _
          same_hop_key (hop_at_key message.chain message.hop books.history ∙ due.new) c.self.invariant.hops_are c.in_default-insert.ensures.updates c.remove.ensures.updates;
    })
