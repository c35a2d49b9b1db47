-- Servers at which what was done is marked.
use Rattle.std.proofs.Common.{◌≡◌, ◌∙◌, ◌⊎◌, ◌≤◌, ℕ, zero, suc, Bool, true, false, cond, nat_eq, List, [], ◌∷◌, ◌++◌, drop, length, slice_set, take, Option, Some, None, IsSome, inl, inr, refl, sym, ap, subst, arith}
use Rattle.std.specs.Prelude.{map, slice_get}
use Rattle.std.proofs.lemmas.Bool.{eqb-true, eqb-false}
use Rattle.std.proofs.lemmas.Option.{slice_get_within}
use Rattle.std.proofs.Math.Seq.{take-append_seam}
use Rattle.lynx_entry.specs.declared.entry.Entry.{Entry}
use Rattle.lynx_entry.specs.Entry.{History}
use Rattle.lynx_names.specs.declared.chain.ChainId.{ChainId}
use Rattle.lynx_server.specs.Acts.{act_of}
use Rattle.lynx_server.specs.Owed.{Acknowledges, Notes, is_acknowledged}
use Rattle.lynx_server.specs.Serving.{Serving}
use Rattle.lynx_weave.specs.Servers.{histories_of}
use Rattle.lynx_worker.specs.declared.steps.Acknowledgement.{Acknowledgement}
use Rattle.lynx_cluster.specs.inner.Serving.{AreDone}
use Rattle.lynx_cluster.specs.Starting.{start_of}
use Rattle.lynx_cluster.specs.inner.Settling.{AreSettled, IsDoneIn, IsSettled, SendsDone}
use Rattle.lynx_worker.proofs.Sendings.{get_set_other, get_set_same}
use Rattle.lynx_cluster.proofs.Openings.{there_is}

module _ {K : Type 0} (histories : List History) where
  stays : (here : Serving K) → IsSettled histories here here
  stays here = record { else_same = refl; marked = λ place is. inl is }

  -- an acknowledgement of a hop that was done
  noted : (old new : Serving K) (chain : ChainId) (hop : ℕ) → IsDoneIn histories chain hop → Acknowledges old chain hop new → IsSettled histories old new
  noted old new chain zero done same = subst (IsSettled histories old) (sym same) (stays old)
  noted old new chain (suc before) done notes = by (act_of chain before old.history) refl notes
    where
      by : (found : Option Entry) → act_of chain before old.history ≡ found → Notes old found new → IsSettled histories old new
      by None is same = subst (IsSettled histories old) (sym same) (stays old)
      by (Some entry) is note = record {
        else_same = note.marked.else_same;
        marked = λ place marked. at place (nat_eq place note.place) refl (sym (note.marked.marked place) ∙ marked);
      }
        where
          at : (place : ℕ) (b : Bool) → nat_eq place note.place ≡ b → cond (nat_eq place note.place) true (is_acknowledged old.acknowledged place) ≡ true →
              (is_acknowledged old.acknowledged place ≡ true) ⊎ SendsDone histories old.history place
          at place true e marked = inr (record {
            chain = chain;
            hop = before;
            entry = entry;
            at = ap (slice_get old.history) (eqb-true place note.place e) ∙ note.there;
            is = is;
            done = done;
          })
          at place false e marked = inl (sym (ap (λ (b : Bool). cond b true (is_acknowledged old.acknowledged place)) e) ∙ marked)

  then : (old mid new : Serving K) → IsSettled histories old mid → IsSettled histories mid new → IsSettled histories old new
  then old mid new first second = record {
    else_same = second.else_same ∙ ap (λ (s : Serving K). record s { acknowledged = new.acknowledged }) first.else_same;
    marked = λ place is. elim (second.marked place is) [
      | inl before ↦ first.marked place before
      | inr sends ↦ inr (subst (λ (h : History). SendsDone histories h place) (ap (λ (s : Serving K). s.history) first.else_same) sends)
    ];
  }

  pub all_stay : (servers : List (Serving K)) → AreSettled histories servers servers
  all_stay servers = record {
    many = refl;
    each = λ server here there old new.
        let same : here ≡ there = let both = sym old ∙ new in cc in
        subst (IsSettled histories here) same (stays here);
  }

  pub all_then : (old mid new : List (Serving K)) → AreSettled histories old mid → AreSettled histories mid new → AreSettled histories old new
  all_then old mid new first second = record {
    many = second.many ∙ first.many;
    each = λ server here there at_old at_new.
        let bound = slice_get_within old server here at_old in
        let (between, at_mid) = there_is mid server (let count = first.many in omega (arith, bound, count)) in
        then here between there (first.each server here between at_old at_mid) (second.each server between there at_mid at_new);
  }

  set_many : (xs : List (Serving K)) (i : ℕ) (v : Serving K) → length (slice_set xs i v) ≡ length xs
  set_many [] i v = refl
  set_many (x ∷ xs) zero v = refl
  set_many (x ∷ xs) (suc i) v = ap suc (set_many xs i v)

  -- one server notes it
  pub one_noted : (servers : List (Serving K)) (i : ℕ) (old new : Serving K) (chain : ChainId) (hop : ℕ) → slice_get servers i ≡ Some old →
      Acknowledges old chain hop new → IsDoneIn histories chain hop → AreSettled histories servers (slice_set servers i new)
  one_noted servers i old new chain hop at notes done = record {
    many = set_many servers i new;
    each = λ server here there at_old at_new. by server here there at_old at_new (nat_eq server i) refl;
  }
    where
      by : (server : ℕ) (here there : Serving K) → slice_get servers server ≡ Some here → slice_get (slice_set servers i new) server ≡ Some there → (b : Bool) →
          nat_eq server i ≡ b → IsSettled histories here there
      by server here there at_old at_new true e =
          let same = eqb-true server i e in
          let old_is : old ≡ here = let both = sym at ∙ ap (slice_get servers) (sym same) ∙ at_old in cc in
          let new_is : new ≡ there = let both = sym (get_set_same servers i old new at) ∙ ap (slice_get (slice_set servers i new)) (sym same) ∙ at_new in cc in
          subst (λ (s : Serving K). IsSettled histories s there) old_is (subst (IsSettled histories old) new_is (noted old new chain hop done notes))
      by server here there at_old at_new false e =
          let same : here ≡ there = let both = sym at_old ∙ sym (get_set_other servers i server new (eqb-false server i e)) ∙ at_new in cc in
          subst (IsSettled histories here) same (stays here)

module _ {K : Type 0} where
  list_same : (xs ys : List (Serving K)) → length ys ≡ length xs →
      ((server : ℕ) (here there : Serving K) → slice_get xs server ≡ Some here → slice_get ys server ≡ Some there → there.history ≡ here.history) →
      histories_of ys ≡ histories_of xs
  list_same [] [] many each = refl
  list_same [] (y ∷ ys) many each = absurd (omega (arith, many))
  list_same (x ∷ xs) [] many each = absurd (omega (arith, many))
  list_same (x ∷ xs) (y ∷ ys) many each =
      ap (λ (h : History). h ∷ histories_of ys) (each 0 x y refl refl)
      ∙ ap (λ (l : List History). x.history ∷ l) (list_same xs ys (omega (arith, many)) (λ server here there old new. each (suc server) here there old new))

  pub same_histories : (histories : List History) (old new : List (Serving K)) → AreSettled histories old new → histories_of new ≡ histories_of old
  same_histories histories old new settled =
      list_same old new settled.many (λ server here there at_old at_new. ap (λ (s : Serving K). s.history) (settled.each server here there at_old at_new).else_same)

  starts_by : (xs ys : List (Serving K)) → histories_of ys ≡ histories_of xs → map start_of ys ≡ map start_of xs
  starts_by xs ys same = sym (lengths ys) ∙ ap (map length) same ∙ lengths xs
    where
      lengths : (servers : List (Serving K)) → map length (histories_of servers) ≡ map start_of servers
      lengths [] = refl
      lengths (s ∷ servers) = ap (λ (l : List ℕ). length s.history ∷ l) (lengths servers)

  pub same_starts : (histories : List History) (old new : List (Serving K)) → AreSettled histories old new → map start_of new ≡ map start_of old
  same_starts histories old new settled = starts_by old new (same_histories histories old new settled)

  -- from the histories as they are to those as they were
  pub all_on : (old mid new : List (Serving K)) → AreSettled (histories_of old) old mid → AreSettled (histories_of mid) mid new → AreSettled (histories_of old) old new
  all_on old mid new first second =
      all_then (histories_of old) old mid new first
      (subst (λ (h : List History). AreSettled h mid new) (same_histories (histories_of old) old mid first) second)

  histories_get : (servers : List (Serving K)) (i : ℕ) (here : Serving K) → slice_get servers i ≡ Some here → slice_get (histories_of servers) i ≡ Some here.history
  histories_get [] i here there = cc
  histories_get (s ∷ servers) zero here there =
      let same : s ≡ here = cc in
      ap (λ (x : Serving K). Some x.history) same
  histories_get (s ∷ servers) (suc i) here there = histories_get servers i here there

done_get : (history : History) (acknowledgements : List Acknowledgement) (i : ℕ) (acknowledgement : Acknowledgement) → AreDone history acknowledgements → slice_get acknowledgements i ≡ Some acknowledgement →
    IsSome (act_of acknowledgement.chain acknowledgement.hop history)
done_get history [] i acknowledgement all there = cc
done_get history (first ∷ acknowledgements) zero acknowledgement all there =
    let same : first ≡ acknowledgement = cc in
    subst (λ (r : Acknowledgement). IsSome (act_of r.chain r.hop history)) same all.0
done_get history (first ∷ acknowledgements) (suc i) acknowledgement all there = done_get history acknowledgements i acknowledgement all.1 there

-- what an acknowledgement of one server tells is done
pub acknowledgement_done : {K : Type 0} (servers : List (Serving K)) (receiver : ℕ) (here : Serving K) (acknowledgements : List Acknowledgement) (i : ℕ) (acknowledgement : Acknowledgement) →
    slice_get servers receiver ≡ Some here → AreDone here.history acknowledgements → slice_get acknowledgements i ≡ Some acknowledgement →
    IsDoneIn (histories_of servers) acknowledgement.chain acknowledgement.hop
acknowledgement_done servers receiver here acknowledgements i acknowledgement at all there =
    record { server = receiver; history = here.history; there = histories_get servers receiver here at; done = done_get here.history acknowledgements i acknowledgement all there }

-- what comes back of a vector's slice
module _ {K : Type 0} where
  dropped : (xs : List (Serving K)) (n : ℕ) → length xs ≤ n → drop n xs ≡ []
  dropped [] zero within = refl
  dropped [] (suc n) within = refl
  dropped (x ∷ xs) zero within = absurd (omega (arith, within))
  dropped (x ∷ xs) (suc n) within = dropped xs n (omega (arith, within))

  written : (old new : List (Serving K)) (len : ℕ) → length new ≡ length old → len ≡ length old → take len (new ++ drop (length new) old) ≡ new
  written old new len many is =
      ap (λ (n : ℕ). take n (new ++ drop (length new) old)) (is ∙ sym many)
      ∙ ap (λ (l : List (Serving K)). take (length new) (new ++ l)) (dropped old (length new) (omega (arith, many)))
      ∙ take-append_seam new []

  -- a history is as long as it was, at each server
  pub starts_settled : (lent old new : List (Serving K)) (len : ℕ) (starts : List ℕ) → lent ≡ old → len ≡ length old → AreSettled (histories_of lent) lent new →
      starts ≡ map start_of (take len (new ++ drop (length new) old)) → starts ≡ map start_of old
  starts_settled lent old new len starts same is settled are =
      let own : AreSettled (histories_of old) old new = subst (λ (l : List (Serving K)). AreSettled (histories_of l) l new) same settled in
      are ∙ ap (map start_of) (written old new len own.many is) ∙ same_starts (histories_of old) old new own
