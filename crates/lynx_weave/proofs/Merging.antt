-- Going through lawful histories in order of stamp, then server, keeps a legal list in order.
use Rattle.std.proofs.Common.{◌≡◌, ◌≢◌, ℕ, zero, suc, ◌+◌, ◌<◌, ◌≤◌, false, cond, List, [], ◌∷◌, ◌++◌, take, length, slice_get, slice_set, Option, Some, None, option_and_then, nat_eq, eq-eqb, inl, inr, ◌⊎◌, refl, sym, ap, ◌∙◌, subst, arith}
use Rattle.std.proofs.lemmas.Bool.{cases_lt}
use Rattle.std.proofs.lemmas.Bool.Decides.{eqb_tells}
use Rattle.std.proofs.lemmas.List.{append-nil, length-append, length-set}
use Rattle.std.proofs.lemmas.Option.{slice_get_within}
use Rattle.lynx_set.specs.Set.{Set}
use Rattle.lynx_entry.specs.declared.entry.Entry.{Entry}
use Rattle.lynx_entry.specs.declared.message.Message.{Message}
use Rattle.lynx_entry.specs.Entry.{History, stamp_of}
use Rattle.lynx_rules.specs.Lawful.{IsLawful, message_of}
use Rattle.lynx_rules.specs.Messages.{next_message}
use Rattle.lynx_server.proofs.Chains.{get_before, get_last}
use Rattle.lynx_world.specs.Placed.{Placed}
use Rattle.lynx_world.specs.Legal.{IsLegal, IsSent, MayFollow}
use Rattle.lynx_world.specs.Worlds.{history_of}
use Rattle.lynx_world.proofs.Histories.{history_of-push}
use Rattle.lynx_world.proofs.LegalSteps.{legal-push}
use Rattle.lynx_world.proofs.Members.{IsIn, in-push, in_list}
use Rattle.lynx_weave.specs.Lists.{ComesBefore, IsInOrder, IsListOf, entry_in}
use Rattle.lynx_weave.specs.inner.Orders.{IsLeastNext, IsNextAt, next_in}
use Rattle.lynx_weave.specs.Senders.{AreAllSent}
use Rattle.lynx_weave.proofs.Gets.{get_take, in_place, item, take_next, take_whole}
use Rattle.lynx_weave.proofs.Lawfuls.{above_message, rises}
use Rattle.lynx_server.proofs.InHistory.{lawful_in}
use Rattle.lynx_weave.proofs.Sending.{AreLawful, entry_here, entry_there, sender_is, stamp_sent}

-- as many entries of each history are in the list, which is legal and in order, and comes before what is left
pub record IsMergedTo (set : Set) (histories : List History) (places : List ℕ) (list : List Placed) : Type 0 where
  pub many : length places ≡ length histories
  pub taken : (server : ℕ) (history : History) (place : ℕ) → slice_get histories server ≡ Some history → slice_get places server ≡ Some place →
      history_of server list ≡ take place history
  pub within : (server : ℕ) (history : History) (place : ℕ) → slice_get histories server ≡ Some history → slice_get places server ≡ Some place →
      place ≤ length history
  pub before : (placed : Placed) (server : ℕ) (history : History) (place i : ℕ) (entry : Entry) → IsIn placed list →
      slice_get histories server ≡ Some history → slice_get places server ≡ Some place → place ≤ i → slice_get history i ≡ Some entry →
      ComesBefore placed (record { server = server; entry = entry })
  pub in_order : IsInOrder list
  pub legal : IsLegal set list

-- ---- what is put at a place

pub put_same : {X : Type 0} (xs : List X) (i : ℕ) (x y : X) → slice_get xs i ≡ Some x → slice_get (slice_set xs i y) i ≡ Some y
put_same [] i x y is = cc
put_same (first ∷ xs) zero x y is = refl
put_same (first ∷ xs) (suc i) x y is = put_same xs i x y is

pub put_other : {X : Type 0} (xs : List X) (i j : ℕ) (y : X) → j ≢ i → slice_get (slice_set xs i y) j ≡ slice_get xs j
put_other [] i j y differs = refl
put_other (first ∷ xs) zero zero y differs = absurd (differs refl)
put_other (first ∷ xs) zero (suc j) y differs = refl
put_other (first ∷ xs) (suc i) zero y differs = refl
put_other (first ∷ xs) (suc i) (suc j) y differs = put_other xs i j y (λ same. differs (ap suc same))

-- ---- the least of all that is left

-- the entry comes before, or is, each one that is left of any server
pub least_of_all : (set : Set) (histories : List History) (places : List ℕ) (number : ℕ) (least : IsLeastNext histories places number) → AreLawful set histories →
    (server : ℕ) (history : History) (place i : ℕ) (entry : Entry) → slice_get histories server ≡ Some history → slice_get places server ≡ Some place →
    place ≤ i → slice_get history i ≡ Some entry →
    (stamp_of least.entry < stamp_of entry) ⊎ ((stamp_of least.entry ≡ stamp_of entry) × (number ≤ server))
least_of_all set histories places number least lawful server history place i entry there through low at =
    let bound = slice_get_within history i entry at in
    let head = item history place (omega arith) in
    let next : next_in histories places server ≡ Some head.0 =
    ap (option_and_then (entry_in histories server)) through ∙ entry_here histories server place history there ∙ head.1 in
    elim (eqb_tells place i) [
      | inl same ↦
          let here : Some head.0 ≡ Some entry = sym head.1 ∙ ap (slice_get history) same.1 ∙ at in
          let alike : head.0 ≡ entry = cc in
          subst (λ e. (stamp_of least.entry < stamp_of e) ⊎ ((stamp_of least.entry ≡ stamp_of e) × (number ≤ server))) alike
          (least.least server head.0 next)
      | inr differs ↦
          let apart : place ≢ i = differs.1 in
          let higher = rises set server history (lawful server history there) i place head.0 entry (omega arith) head.1 at in
          inl (elim (least.least server head.0 next) [ inl less ↦ omega arith | inr same ↦ let equal = same.0 in omega arith ])
    ]

-- ---- one step

pub record Step (set : Set) (histories : List History) (places : List ℕ) (list : List Placed) (number : ℕ) : Type 0 where
  pub merged : IsMergedTo set histories places list
  pub least : IsLeastNext histories places number
  pub lawful : AreLawful set histories
  pub sent : AreAllSent set histories
  pub few : length histories ≡ set.servers

-- the next entry, with its history and its place
pub record IsAt (histories : List History) (places : List ℕ) (number : ℕ) (entry : Entry) : Type 0 where
  pub history : History
  pub place : ℕ
  pub there : slice_get histories number ≡ Some history
  pub through : slice_get places number ≡ Some place
  pub at : slice_get history place ≡ Some entry

pub some_then : (histories : List History) (places : List ℕ) (number : ℕ) (entry : Entry) → next_in histories places number ≡ Some entry →
    IsAt histories places number entry
some_then histories places number entry is = by (slice_get places number) refl is
  where
    by : (o : Option ℕ) → slice_get places number ≡ o → option_and_then (entry_in histories number) o ≡ Some entry → IsAt histories places number entry
    by None none there = cc
    by (Some place) through there =
        let at = entry_there histories number place entry there in
        record { history = at.0; place = place; there = at.1; through = through; at = at.2 }

one_of : {X : Type 0} (a b : X) (o : Option X) → o ≡ Some a → o ≡ Some b → a ≡ b
one_of a b o is was = let same : Some a ≡ Some b = sym is ∙ was in cc

-- the message of the next entry was sent by one that is in the list
sent_in : (set : Set) (histories : List History) (places : List ℕ) (list : List Placed) (number : ℕ) (s : Step set histories places list number)
    (at : IsAt histories places number s.least.entry) (message : Message) → message_of s.least.entry ≡ Some message → IsSent set list message
sent_in set histories places list number s at message is =
    let sender = sender_is set histories message (s.sent number at.history at.there at.place s.least.entry message at.at is) in
    let from = entry_there histories sender.server sender.place sender.entry sender.there in
    let stamp = stamp_sent set sender.entry message sender.sends in
    let above = above_message set number _ s.least.entry message (lawful_in set number at.history at.place s.least.entry (s.lawful number at.history at.there) at.at) is in
    let within = slice_get_within histories sender.server from.0 from.1 in
    let many = s.merged.many in
    let gone = item places sender.server (omega arith) in
    elim (cases_lt sender.place gone.0) [
      | inl early ↦
          let here : slice_get (history_of sender.server list) sender.place ≡ Some sender.entry =
          ap (λ h. slice_get h sender.place) (s.merged.taken sender.server from.0 gone.0 from.1 gone.1)
          ∙ get_take from.0 gone.0 sender.place early ∙ from.2 in
          let there = in_list sender.server list sender.entry (in_place sender.entry _ sender.place here) in
          sends list (record { server = sender.server; entry = sender.entry }) there sender.sends
      | inr late ↦
          absurd (elim (least_of_all set histories places number s.least s.lawful sender.server from.0 gone.0 sender.place sender.entry from.1 gone.1 late from.2) [
            | inl less ↦ omega arith
            | inr same ↦ let equal = same.0 in omega arith
          ])
    ]
  where
    sends : (l : List Placed) (p : Placed) → IsIn p l → next_message set p.entry ≡ Some message → IsSent set l message
    sends [] p never it = absurd never
    sends (first ∷ l) p (inl same) it = inl (ap (λ (r : Placed). next_message set r.entry) same ∙ it)
    sends (first ∷ l) p (inr later) it = inr (sends l p later it)

-- one more entry comes behind a list in order
in_order-push : (list : List Placed) (last : Placed) → IsInOrder list → ((placed : Placed) → IsIn placed list → ComesBefore placed last) →
    IsInOrder (list ++ last ∷ [])
in_order-push list last in_order above place later one other below first second =
    let bound = slice_get_within (list ++ last ∷ []) later other second in
    let more = length-append list (last ∷ []) in
    let within : place < length list = omega (arith, more) in
    let first_there : slice_get list place ≡ Some one = sym (get_before list last place within) ∙ first in
    elim (cases_lt later (length list)) [
      | inl inside ↦ in_order place later one other below first_there (sym (get_before list last later inside) ∙ second)
      | inr outside ↦
          let at_end : later ≡ length list = omega (arith, more) in
          let same : last ≡ other = one_of last other (slice_get (list ++ last ∷ []) later) (ap (slice_get (list ++ last ∷ [])) at_end ∙ get_last list last) second in
          subst (ComesBefore one) same (above one (in_place one list place first_there))
    ]

-- the history of a server with one more entry
pub taken-push : (number : ℕ) (list : List Placed) (entry : Entry) →
    history_of number (list ++ record { server = number; entry = entry } ∷ []) ≡ history_of number list ++ entry ∷ []
taken-push number list entry =
    history_of-push number list (record { server = number; entry = entry })
    ∙ ap (λ b. history_of number list ++ cond b (entry ∷ []) []) (eq-eqb number number refl)

pub elsewhere-push : (number other : ℕ) (list : List Placed) (entry : Entry) → nat_eq number other ≡ false →
    history_of other (list ++ record { server = number; entry = entry } ∷ []) ≡ history_of other list
elsewhere-push number other list entry away =
    history_of-push other list (record { server = number; entry = entry })
    ∙ ap (λ b. history_of other list ++ cond b (entry ∷ []) []) away ∙ append-nil (history_of other list)

-- the entry that comes next may follow
pub follows : (set : Set) (histories : List History) (places : List ℕ) (list : List Placed) (number : ℕ) (s : Step set histories places list number)
    (at : IsAt histories places number s.least.entry) → MayFollow set list (record { server = number; entry = s.least.entry })
follows set histories places list number s at = record {
  at_server = let within = slice_get_within histories number at.history at.there in let few = s.few in omega arith;
  lawful = subst (λ h. IsLawful set number h s.least.entry) (sym (s.merged.taken number at.history at.place at.there at.through))
      (lawful_in set number at.history at.place s.least.entry (s.lawful number at.history at.there) at.at);
  sent = λ message is. sent_in set histories places list number s at message is;
}

-- what a step leaves
pub merged_step : (set : Set) (histories : List History) (places : List ℕ) (list : List Placed) (number : ℕ) (s : Step set histories places list number)
    (at : IsAt histories places number s.least.entry) →
    IsMergedTo set histories (slice_set places number (at.place + 1)) (list ++ record { server = number; entry = s.least.entry } ∷ [])
merged_step set histories places list number s at = record {
  many = length-set places number (at.place + 1) ∙ s.merged.many;
  taken = λ server history place there through. elim (eqb_tells server number) [
    | inl (e, same) ↦ taken_here server history place same there through
    | inr (e, differs) ↦
        elsewhere-push number server list s.least.entry (away server differs)
        ∙ s.merged.taken server history place there (sym (put_other places number server (at.place + 1) differs) ∙ through)
  ];
  within = λ server history place there through. elim (eqb_tells server number) [
    | inl (e, same) ↦
        let history_is = here_is server history same there in
        let place_is = next_is server place same through in
        let bound = slice_get_within at.history at.place s.least.entry at.at in
        let long : length history ≡ length at.history = ap length history_is in omega arith
    | inr (e, differs) ↦ s.merged.within server history place there (sym (put_other places number server (at.place + 1) differs) ∙ through)
  ];
  before = λ placed server history place i other in_list there through low found. elim (in-push placed (record { server = number; entry = s.least.entry }) list in_list) [
    | inl was ↦ old_before placed server history place i other was there through low found
    | inr same ↦ subst (λ p. ComesBefore p (record { server = server; entry = other })) same (new_before server history place i other there through low found)
  ];
  in_order = in_order-push list (record { server = number; entry = s.least.entry }) s.merged.in_order
      (λ placed was. s.merged.before placed number at.history at.place at.place s.least.entry was at.there at.through (omega arith) at.at);
  legal = legal-push set list (record { server = number; entry = s.least.entry }) s.merged.legal (follows set histories places list number s at);
}
  where
    away : (server : ℕ) → server ≢ number → nat_eq number server ≡ false
    away server differs = elim (eqb_tells number server) [
      | inl (e, same) ↦ absurd (differs (sym same))
      | inr (e, apart) ↦ e
    ]

    here_is : (server : ℕ) (history : History) → server ≡ number → slice_get histories server ≡ Some history → history ≡ at.history
    here_is server history same there = one_of history at.history (slice_get histories number) (ap (slice_get histories) (sym same) ∙ there) at.there

    next_is : (server place : ℕ) → server ≡ number → slice_get (slice_set places number (at.place + 1)) server ≡ Some place → place ≡ at.place + 1
    next_is server place same through =
        one_of place (at.place + 1) (slice_get (slice_set places number (at.place + 1)) number)
        (ap (slice_get (slice_set places number (at.place + 1))) (sym same) ∙ through) (put_same places number at.place (at.place + 1) at.through)

    taken_here : (server : ℕ) (history : History) (place : ℕ) → server ≡ number → slice_get histories server ≡ Some history →
        slice_get (slice_set places number (at.place + 1)) server ≡ Some place → history_of server (list ++ record { server = number; entry = s.least.entry } ∷ []) ≡ take place history
    taken_here server history place same there through =
        ap (λ n. history_of n (list ++ record { server = number; entry = s.least.entry } ∷ [])) same ∙ taken-push number list s.least.entry
        ∙ ap (λ h. h ++ s.least.entry ∷ []) (s.merged.taken number at.history at.place at.there at.through)
        ∙ sym (take_next at.history at.place s.least.entry at.at)
        ∙ ap (λ n. take n at.history) (sym (next_is server place same through))
        ∙ ap (take place) (sym (here_is server history same there))

    old_before : (placed : Placed) (server : ℕ) (history : History) (place i : ℕ) (other : Entry) → IsIn placed list →
        slice_get histories server ≡ Some history → slice_get (slice_set places number (at.place + 1)) server ≡ Some place → place ≤ i →
        slice_get history i ≡ Some other → ComesBefore placed (record { server = server; entry = other })
    old_before placed server history place i other was there through low found = elim (eqb_tells server number) [
      | inl (e, same) ↦
          let next = next_is server place same through in
          s.merged.before placed server history at.place i other was there (ap (slice_get places) same ∙ at.through) (omega arith) found
      | inr (e, differs) ↦
          s.merged.before placed server history place i other was there (sym (put_other places number server (at.place + 1) differs) ∙ through) low found
    ]

    new_before : (server : ℕ) (history : History) (place i : ℕ) (other : Entry) →
        slice_get histories server ≡ Some history → slice_get (slice_set places number (at.place + 1)) server ≡ Some place → place ≤ i →
        slice_get history i ≡ Some other → ComesBefore (record { server = number; entry = s.least.entry }) (record { server = server; entry = other })
    new_before server history place i other there through low found = elim (eqb_tells server number) [
      | inl (e, same) ↦
          let next = next_is server place same through in
          let mine : slice_get at.history i ≡ Some other = ap (λ h. slice_get h i) (sym (here_is server history same there)) ∙ found in
          inl (rises set number at.history (s.lawful number at.history at.there) i at.place s.least.entry other (omega arith) at.at mine)
      | inr (e, differs) ↦
          let apart : server ≢ number = differs in
          elim (least_of_all set histories places number s.least s.lawful server history place i other there
          (sym (put_other places number server (at.place + 1) differs) ∙ through) low found) [
            | inl less ↦ inl less
            | inr same ↦ let low_number = same.1 in inr (same.0, omega arith)
          ]
    ]

-- at the start nothing is in the list
pub merged_start : (set : Set) (histories : List History) (places : List ℕ) → length places ≡ length histories →
    ((server place : ℕ) → slice_get places server ≡ Some place → place ≡ 0) → IsMergedTo set histories places []
merged_start set histories places many zeros = record {
  many = many;
  taken = λ server history place there through. ap (λ n. take n history) (sym (zeros server place through));
  within = λ server history place there through. let none = zeros server place through in omega arith;
  before = λ placed server history place i entry never there through low found. absurd never;
  in_order = λ place later one other below first second. cc;
  legal = tt;
}

-- where nothing is left the list has all entries
pub merged_end : (set : Set) (histories : List History) (places : List ℕ) (list : List Placed) → IsMergedTo set histories places list →
    IsNextAt histories places None → IsListOf set histories list
merged_end set histories places list merged none = record {
  legal = merged.legal;
  in_order = merged.in_order;
  histories_are = λ server history there.
      let within = slice_get_within histories server history there in
      let many = merged.many in
      let gone = item places server (omega arith) in
      merged.taken server history gone.0 there gone.1
      ∙ take_whole history gone.0 (through history gone.0
      (sym (ap (option_and_then (entry_in histories server)) gone.1 ∙ entry_here histories server gone.0 history there) ∙ none server));
}
  where
    through : (history : History) (place : ℕ) → slice_get history place ≡ None → length history ≤ place
    through history place nothing = elim (cases_lt place (length history)) [
      | inl inside ↦ let there = item history place inside in let both = sym there.1 ∙ nothing in cc
      | inr outside ↦ outside
    ]
