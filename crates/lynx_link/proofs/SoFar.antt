-- The rings of all pairs come about one after another.
use Rattle.std.proofs.Common.{◌≡◌, ◌≢◌, ℕ, ◌+◌, ◌<◌, ◌⊎◌, List, [], ◌∷◌, ◌++◌, length, replicate, inl, inr, sym, ap, ◌∙◌, subst, arith, length-append}
use Rattle.std.proofs.lemmas.Bool.{cases_lt}
use Rattle.std.proofs.lemmas.List.{length-replicate}
use Rattle.lynx_link.specs.Rings.{Sending, Receiving, IsNewRing}
use Rattle.lynx_link.specs.EndLists.{EndLists, no_ends, with_sender, with_receiver}
use Rattle.lynx_link.specs.Links.{to_of, from_of, IsLinked}
use Rattle.lynx_link.specs.inner.Linking.{changed_at, Connects, AreSoFar}
use Rattle.lynx_link.proofs.Adding as adding

below_or_at : (k last : ℕ) → k < last + 1 → (k < last) ⊎ (k ≡ last)
below_or_at k last below = elim (cases_lt k last) [ inl before ↦ inl before | inr after ↦ inr (omega (arith, below, after)) ]

-- no ring yet
pub none_yet : (servers : ℕ) → AreSoFar servers 0 0 (replicate servers no_ends)
none_yet servers = record {
  counted = length-replicate servers no_ends;
  to_before = λ server before. absurd (omega (arith, before));
  to_here = ap length (adding.to_of-replicate servers 0);
  to_after = λ server after. ap length (adding.to_of-replicate servers server);
  from_before = λ server before. absurd (omega (arith, before));
  from_after = λ server after within. ap length (adding.from_of-replicate servers server);
  linked_before = λ server other before within. absurd (omega (arith, before));
  linked_here = λ other before. absurd (omega (arith, before));
}

module _ (servers sender receiver : ℕ) (old : List EndLists) (sending : Sending) (receiving : Receiving) where
  abbrev one_end : List EndLists
  one_end = changed_at (with_sender sending) old sender

  abbrev both_ends : List EndLists
  both_ends = changed_at (with_receiver receiving) one_end receiver

  both_ends-to : (server : ℕ) → to_of both_ends server ≡ to_of one_end server
  both_ends-to server = adding.to_of-with_receiver receiving one_end receiver server

  to_here : sender < length old → to_of both_ends sender ≡ to_of old sender ++ sending ∷ []
  to_here within = both_ends-to sender ∙ adding.to_of-with_sender sending old sender within

  to_other : (server : ℕ) → server ≢ sender → to_of both_ends server ≡ to_of old server
  to_other server apart = both_ends-to server ∙ adding.to_of-with_sender_other sending old sender server apart

  one_end-from : (server : ℕ) → from_of one_end server ≡ from_of old server
  one_end-from server = adding.from_of-with_sender sending old sender server

  from_here : receiver < length old → from_of both_ends receiver ≡ from_of old receiver ++ receiving ∷ []
  from_here within =
      adding.from_of-with_receiver receiving one_end receiver (rw (adding.length-changed_at (with_sender sending) old sender) within)
      ∙ ap (λ ends. ends ++ receiving ∷ []) (one_end-from receiver)

  from_other : (server : ℕ) → server ≢ receiver → from_of both_ends server ≡ from_of old server
  from_other server apart = adding.from_of-with_receiver_other receiving one_end receiver server apart ∙ one_end-from server

  still_linked : (from to : ℕ) → IsLinked old from to → IsLinked both_ends from to
  still_linked from to was = record {
    sending = was.sending;
    receiving = was.receiving;
    goes_in = rw (both_ends-to from) (adding.to_stays sending old sender from to was.sending was.goes_in);
    comes_out = adding.from_stays receiving one_end receiver to from was.receiving (rw (one_end-from to) was.comes_out);
    is_new = was.is_new;
  }

  length-both_ends : length both_ends ≡ length old
  length-both_ends = adding.length-changed_at (with_receiver receiving) one_end receiver ∙ adding.length-changed_at (with_sender sending) old sender

  module _ (so_far : AreSoFar servers sender receiver old) (within : sender < servers) (within_too : receiver < servers) where
    to_is : to_of both_ends sender ≡ to_of old sender ++ sending ∷ []
    to_is = to_here (rw so_far.counted within)

    from_is : from_of both_ends receiver ≡ from_of old receiver ++ receiving ∷ []
    from_is = from_here (rw so_far.counted within_too)

    new_link : IsNewRing sending receiving → IsLinked both_ends sender receiver
    new_link is_new = record {
      sending = sending;
      receiving = receiving;
      goes_in = rw (to_is, ← so_far.to_here) (adding.get_last (to_of old sender) sending);
      comes_out = rw (from_is, ← so_far.from_after receiver (omega arith) within_too) (adding.get_last (from_of old receiver) receiving);
      is_new = is_new;
    }

    one_more : IsNewRing sending receiving → AreSoFar servers sender (receiver + 1) both_ends
    one_more is_new = record {
      counted = length-both_ends ∙ so_far.counted;
      to_before = λ server before. ap length (to_other server (omega (arith, before))) ∙ so_far.to_before server before;
      to_here = ap length to_is ∙ length-append (to_of old sender) (sending ∷ []) ∙ ap (λ n. n + 1) so_far.to_here;
      to_after = λ server after. ap length (to_other server (omega (arith, after))) ∙ so_far.to_after server after;
      from_before = λ server before. elim (below_or_at server receiver before) [
        | inl earlier ↦ ap length (from_other server (omega (arith, earlier))) ∙ so_far.from_before server earlier
        | inr same ↦ rw same (ap length from_is ∙ length-append (from_of old receiver) (receiving ∷ []) ∙ ap (λ n. n + 1) (so_far.from_after receiver (omega arith) within_too))
      ];
      from_after = λ server after inside. ap length (from_other server (omega (arith, after))) ∙ so_far.from_after server (omega (arith, after)) inside;
      linked_before = λ server other before inside. still_linked server other (so_far.linked_before server other before inside);
      linked_here = λ other before. elim (below_or_at other receiver before) [
        | inl earlier ↦ still_linked sender other (so_far.linked_here other earlier)
        | inr same ↦ subst (λ at. IsLinked both_ends sender at) (sym same) (new_link is_new)
      ];
    }

-- one ring more
pub connected : (servers sender receiver : ℕ) (old new : List EndLists) → AreSoFar servers sender receiver old → sender < servers → receiver < servers →
    Connects old new sender receiver → AreSoFar servers sender (receiver + 1) new
connected servers sender receiver old new so_far within within_too connects =
    subst (AreSoFar servers sender (receiver + 1)) (sym connects.added)
    (one_more servers sender receiver old connects.sending connects.receiving so_far within within_too connects.is_new)
