-- A hop of a chain has one entry in a legal list, so its message is the only one.
use Rattle.std.proofs.Common.{◌≡◌, ℕ, zero, suc, ◌+◌, ◌≤◌, List, [], ◌∷◌, Option, Some, None, inl, inr, ◌⊎◌, refl, sym, ap, ◌∙◌, subst, arith}
use Rattle.std.proofs.Common.{length}
use Rattle.std.specs.List.{cons_option, range_with_len}
use Rattle.lynx_names.specs.declared.chain.ChainId.{ChainId}
use Rattle.lynx_set.specs.Set.{Set}
use Rattle.lynx_entry.specs.declared.message.Message.{Message}
use Rattle.lynx_rules.specs.Messages.{next_message}
use Rattle.lynx_world.specs.Placed.{Placed}
use Rattle.lynx_world.specs.Legal.{IsSent, IsLegal}
use Rattle.lynx_world.specs.Order.{hop_in, done_hops}
use Rattle.lynx_world.proofs.Members.{IsIn, above_range, done_of_entry, sender_of}
use Rattle.lynx_world.proofs.Once.{once_and_in_order, sends_after}

-- the first of rising hops stands once
first_once : (chain : ChainId) (a n j k : ℕ) (list : List Placed) (q : Placed) → (j ∷ done_hops chain list) ≡ range_with_len a n → j ≡ k →
    IsIn q list → hop_in chain q.entry ≡ Some k → ⊥
first_once chain a zero j k list q order same there was = cc
first_once chain a (suc n) j k list q order same there was =
    let head : j ≡ a = cc in
    let tail : done_hops chain list ≡ range_with_len (a + 1) n = cc in
    let above : a + 1 ≤ k = above_range (a + 1) n k (subst (IsIn k) tail (done_of_entry chain k list q there was)) in
    omega arith

-- behind an entry the hops rise too
range_tail : (a n j : ℕ) (hops : List ℕ) → (j ∷ hops) ≡ range_with_len a n → (b : ℕ) × (m : ℕ) × (hops ≡ range_with_len b m)
range_tail a zero j hops order = cc
range_tail a (suc n) j hops order = (a + 1, n, cc)

-- where a chain's hops rise, no two entries are of one hop
one_in_range : (chain : ChainId) (k a n : ℕ) (list : List Placed) (p q : Placed) → done_hops chain list ≡ range_with_len a n →
    IsIn p list → IsIn q list → hop_in chain p.entry ≡ Some k → hop_in chain q.entry ≡ Some k → p ≡ q
one_in_range chain k a n [] p q order never there is was = absurd never
one_in_range chain k a n (first ∷ list) p q order here there is was =
    by (hop_in chain first.entry) refl order here there
    (λ b m rest one two. one_in_range chain k b m list p q rest one two is was)
  where
    same_hop : (r : Placed) (o : Option ℕ) → hop_in chain first.entry ≡ o → first ≡ r → hop_in chain r.entry ≡ Some k → o ≡ Some k
    same_hop r o first_is same r_is = sym first_is ∙ ap (λ (p : Placed). hop_in chain p.entry) same ∙ r_is

    some_is : (j : ℕ) → Some j ≡ Some k → j ≡ k
    some_is j e = cc

    by : (o : Option ℕ) → hop_in chain first.entry ≡ o → cons_option o (done_hops chain list) ≡ range_with_len a n →
        (first ≡ p) ⊎ IsIn p list → (first ≡ q) ⊎ IsIn q list →
        ((b m : ℕ) → done_hops chain list ≡ range_with_len b m → IsIn p list → IsIn q list → p ≡ q) → p ≡ q
    by o first_is rising (inl one) (inl two) rest = sym one ∙ two
    by None first_is rising (inl one) (inr two) rest = let never = same_hop p None first_is one is in cc
    by None first_is rising (inr one) (inl two) rest = let never = same_hop q None first_is two was in cc
    by None first_is rising (inr one) (inr two) rest = rest a n rising one two
    by (Some j) first_is rising (inl one) (inr two) rest =
        absurd (first_once chain a n j k list q rising (some_is j (same_hop p (Some j) first_is one is)) two was)
    by (Some j) first_is rising (inr one) (inl two) rest =
        absurd (first_once chain a n j k list p rising (some_is j (same_hop q (Some j) first_is two was)) one is)
    by (Some j) first_is rising (inr one) (inr two) rest =
        let tail = range_tail a n j (done_hops chain list) rising in rest tail.0 tail.1 tail.2 one two

-- two entries of one hop of one chain are the same
pub one_entry : (set : Set) (chain : ChainId) (k : ℕ) (list : List Placed) (p q : Placed) → IsLegal set list →
    IsIn p list → IsIn q list → hop_in chain p.entry ≡ Some k → hop_in chain q.entry ≡ Some k → p ≡ q
one_entry set chain k list p q legal =
    one_in_range chain k 0 (length (done_hops chain list)) list p q (once_and_in_order set list legal chain)

-- two messages that were sent to one hop of one chain are the same
pub one_message : (set : Set) (list : List Placed) (one other : Message) → IsLegal set list → IsSent set list one → IsSent set list other →
    one.chain ≡ other.chain → one.hop ≡ other.hop → one ≡ other
one_message set list one other legal sent was chain hop =
    let p = sender_of set list one sent in
    let q = sender_of set list other was in
    let p_sends = sends_after set p.0.entry one p.2 in
    let q_sends = sends_after set q.0.entry other q.2 in
    let p_next = p_sends.1.next_hop in
    let q_next = q_sends.1.next_hop in
    let same_k : q_sends.0 ≡ p_sends.0 = omega arith in
    let same : p.0 ≡ q.0 = one_entry set one.chain p_sends.0 list p.0 q.0 legal p.1 q.1 p_sends.1.in_chain
    (ap (λ c. hop_in c q.0.entry) chain ∙ q_sends.1.in_chain ∙ ap Some same_k) in
    sent_alike (next_message set p.0.entry) p.2 (ap (λ (r : Placed). next_message set r.entry) same ∙ q.2)
  where
    sent_alike : (o : Option Message) → o ≡ Some one → o ≡ Some other → one ≡ other
    sent_alike o is was = cc
