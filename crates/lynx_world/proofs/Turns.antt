-- At each server the chains of one origin act in the order of their numbers: the k-th to leave it has number k.
use Rattle.std.proofs.Common.{◌≡◌, ℕ, zero, suc, add-one, ◌+◌, ◌<◌, not, true, false, cond, List, [], ◌∷◌, ◌++◌, drop, Some, None, inl, inr, ◌⊎◌, nat_eq, sym, ap, ◌∙◌, subst, arith}
use Rattle.std.proofs.lemmas.Bool.{eqb-true}
use Rattle.lynx_names.specs.declared.chain.ChainId.{ChainId}
use Rattle.lynx_names.specs.declared.limits.TheConstants.{MAX_SERVERS}
use Rattle.lynx_set.specs.Set.{Set}
use Rattle.lynx_entry.specs.declared.entry.Entry.{Entry}
use Rattle.lynx_entry.specs.declared.entry.Entry.TheVariants.{Begun, Refused, Hop as HopRan}
use Rattle.lynx_entry.specs.Entry.{History}
use Rattle.lynx_set.specs.declared.program.Hop.{Hop as HopOf}
use Rattle.lynx_rules.specs.Visits.{visits, is_last_at, leaves_by_first}
use Rattle.lynx_rules.specs.Turns.{ends_visit, turn_of}
use Rattle.lynx_rules.specs.Lawful.{IsLawful}
use Rattle.lynx_rules.specs.Deliveries.{same_chain}
use Rattle.lynx_rules.proofs.Steps.{begins_visiting-lawful}
use Rattle.lynx_world.specs.Placed.{Placed}
use Rattle.lynx_world.specs.Worlds.{history_of}
use Rattle.lynx_world.specs.Legal.{MayFollow, IsLegal}
use Rattle.lynx_world.specs.Order.{hop_in}
use Rattle.lynx_world.proofs.Members.{IsIn, in-append, in-last}
use Rattle.lynx_world.proofs.Once.{both, same_chain-self, same_name, chosen_hop, program_of}
use Rattle.lynx_world.proofs.Standing.{legal_induction}
use Rattle.lynx_world.proofs.Tests.{not_true}
use Rattle.lynx_world.proofs.Counts.{count-last}
use Rattle.lynx_world.proofs.Numbers.{number_in-lawful}
use Rattle.lynx_world.proofs.Acts.{number_of}
use Rattle.lynx_set.specs.Lookups.{hops_of}

-- an entry of a chain comes when the turn is its chain's number
pub acts_in_turn : (set : Set) (server : ℕ) (history : History) (entry : Entry) (chain : ChainId) (hop : ℕ) → server < MAX_SERVERS →
    IsLawful set server history entry → hop_in chain entry ≡ Some hop → number_of entry server ≡ turn_of set server history chain.origin
acts_in_turn set server history (Begun begun) chain hop below lawful is =
    let test = chosen_hop (same_chain begun.chain chain) 0 hop is in
    let here : server ≡ chain.origin = sym lawful.origin ∙ ap (λ (c : ChainId). c.origin) (same_name _ _ test.0) in
    number_in-lawful set server server history begun lawful below (begins_visiting-lawful set server history (Begun begun) lawful)
    ∙ lawful.may_begin.in_turn ∙ ap (turn_of set server history) here
acts_in_turn set server history (Refused refused) chain hop below lawful is = cc
acts_in_turn set server history (HopRan ran) chain hop below lawful is =
    let test = chosen_hop (same_chain ran.message.chain chain) ran.message.hop hop is in
    lawful.in_turn ∙ ap (λ (c : ChainId). turn_of set server history c.origin) (same_name _ _ test.0)

-- no hop behind one by which a chain leaves the server is there
none_behind : (hops : List HopOf) (hop server : ℕ) → leaves_by_first (drop hop hops) server ≡ true →
    visits (drop (hop + 1) hops) server ≡ false
none_behind [] zero server left = cc
none_behind [] (suc hop) server left = cc
none_behind (first ∷ hops) zero server left =
    let tests = both (nat_eq first.server server) (not (visits hops server)) left in
    not_true _ tests.1
none_behind (first ∷ hops) (suc hop) server left =
    rw add-one (let behind = none_behind hops hop server left in rw add-one at behind)

-- a chain of the origin leaves the server by the entry, its last there
pub record IsLeaving (set : Set) (server origin : ℕ) (entry : Entry) : Type 0 where
  pub chain : ChainId
  pub hop : ℕ
  pub hop_is : hop_in chain entry ≡ Some hop
  pub of_origin : chain.origin ≡ origin
  pub last : visits (drop (hop + 1) (hops_of set (program_of entry))) server ≡ false

-- an entry that leaves is of a chain of the origin, and no later hop of its program is at the server
pub leaving : (set : Set) (server origin : ℕ) (entry : Entry) → ends_visit set server origin entry ≡ true → IsLeaving set server origin entry
leaving set server origin (Begun begun) left =
    let tests = both (nat_eq begun.chain.origin origin) (is_last_at set server begun.request.program 0) left in
    record {
      chain = begun.chain;
      hop = 0;
      hop_is = ap (λ b. cond b (Some 0) None) (same_chain-self begun.chain);
      of_origin = eqb-true _ _ tests.0;
      last = none_behind (hops_of set begun.request.program) 0 server tests.1;
    }
leaving set server origin (Refused refused) left = cc
leaving set server origin (HopRan ran) left =
    let tests = both (nat_eq ran.message.chain.origin origin) (is_last_at set server ran.message.program ran.message.hop) left in
    record {
      chain = ran.message.chain;
      hop = ran.message.hop;
      hop_is = ap (λ b. cond b (Some ran.message.hop) None) (same_chain-self ran.message.chain);
      of_origin = eqb-true _ _ tests.0;
      last = none_behind (hops_of set ran.message.program) ran.message.hop server tests.1;
    }

-- the entry by which the chain of the origin that has number k for the server left it
pub record HasLeft (set : Set) (list : List Placed) (server origin k : ℕ) : Type 0 where
  pub entry : Entry
  pub there : IsIn (record { server = server; entry = entry }) list
  pub leaves_by : ends_visit set server origin entry ≡ true
  pub number : number_of entry server ≡ k

-- each number below the turn still is one of a chain that has left, with one more entry
has_left-push : (set : Set) (server origin : ℕ) (list : List Placed) (last : Placed) (k : ℕ) → server < MAX_SERVERS →
    MayFollow set list last → (k < turn_of set server (history_of server list) origin → HasLeft set list server origin k) →
    (k < turn_of set server (history_of server list) origin)
    ⊎ ((k ≡ turn_of set server (history_of server list) origin) × (last.server ≡ server) × (ends_visit set server origin last.entry ≡ true)) →
    HasLeft set (list ++ last ∷ []) server origin k
has_left-push set server origin list last k below may old (inl before) =
    let had = old before in
    record { entry = had.entry; there = in-append _ list (last ∷ []) had.there; leaves_by = had.leaves_by; number = had.number }
has_left-push set server origin list last k below may old (inr now) =
    let lawful = subst (λ s. IsLawful set s (history_of s list) last.entry) now.1 may.lawful in
    let gone = leaving set server origin last.entry now.2 in
    record {
      entry = last.entry;
      there = in-last (record { server = server; entry = last.entry }) last list
          (ap (λ s. let p : Placed = record { server = s; entry = last.entry } in p) now.1);
      leaves_by = now.2;
      number = acts_in_turn set server (history_of server list) last.entry gone.chain gone.hop below lawful gone.hop_is
          ∙ ap (turn_of set server (history_of server list)) gone.of_origin ∙ sym now.0;
    }

-- the k-th chain to leave has number k: each number below the turn is that of a chain that has left
pub has_left : (set : Set) (server origin : ℕ) (list : List Placed) (k : ℕ) → server < MAX_SERVERS → IsLegal set list →
    k < turn_of set server (history_of server list) origin → HasLeft set list server origin k
has_left set server origin list k below legal =
    legal_induction set (λ l. k < turn_of set server (history_of server l) origin → HasLeft set l server origin k)
    (λ never. absurd (omega arith))
    (λ before last was old may below_turn. has_left-push set server origin before last k below may old
    (count-last (ends_visit set server origin) server before last k below_turn))
    list legal
