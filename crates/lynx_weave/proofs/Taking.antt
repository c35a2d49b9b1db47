-- Taking entries in order of stamp, each of whose message was sent by one that is taken, comes to the greatest fronts that fit together.
use Rattle.std.specs.Prelude.{◌↔◌, IsTrue}
use Rattle.std.proofs.Common.{◌≡◌, ◌≢◌, ℕ, zero, suc, ◌+◌, ◌-◌, ◌<◌, ◌≤◌, Bool, false, nat_eq, List, [], ◌∷◌, ◌++◌, take, length, get_or, slice_get, slice_set, Some, None, option_and_then, inl, inr, ◌⊎◌, refl, sym, ap, ◌∙◌, subst, arith}
use Rattle.std.proofs.lemmas.Bool.{cases_lt}
use Rattle.std.proofs.lemmas.Bool.Decides.{eqb_tells}
use Rattle.std.proofs.lemmas.List.{length-set}
use Rattle.std.proofs.lemmas.Option.{get_or_from_slice_get, slice_get_within}
use Rattle.lynx_set.specs.Set.{Set}
use Rattle.lynx_entry.specs.declared.entry.Entry.{Entry}
use Rattle.lynx_entry.specs.declared.entry.Entry.TheVariants.{Hop}
use Rattle.lynx_entry.specs.declared.entry.HopEntry.{HopEntry}
use Rattle.lynx_entry.specs.declared.message.Message.{Message}
use Rattle.lynx_entry.specs.Entry.{History, stamp_of}
use Rattle.lynx_rules.specs.Lawful.{IsLawful}
use Rattle.lynx_rules.specs.Messages.{next_message}
use Rattle.lynx_server.proofs.InHistory.{lawful_in}
use Rattle.lynx_world.specs.Placed.{Placed}
use Rattle.lynx_world.specs.Legal.{IsLegal, IsSent, MayFollow}
use Rattle.lynx_world.specs.Worlds.{history_of}
use Rattle.lynx_world.proofs.LegalSteps.{legal-push}
use Rattle.lynx_world.proofs.Members.{IsIn, in_history, in_list, sender_of}
use Rattle.lynx_world.proofs.Sent.{message-sent}
use Rattle.lynx_world.proofs.Standing.{stands}
use Rattle.lynx_keep.specs.Kept.{KeptState}
use Rattle.lynx_server.specs.Serving.{Serving}
use Rattle.lynx_world.specs.Servers.{Servers}
use Rattle.lynx_weave.specs.Senders.{IsSentBefore}
use Rattle.lynx_weave.specs.Servers.{histories_of}
use Rattle.lynx_weave.proofs.Agreements.{history_there}
use Rattle.lynx_weave.proofs.Servings.{lawful_all, many_of}
use Rattle.lynx_weave.specs.inner.Rebuilt.{AreRebuilt}
use Rattle.lynx_weave.specs.Cuts.{FitTogether, IsCut, fronts}
use Rattle.lynx_weave.specs.Lists.{entry_in}
use Rattle.lynx_weave.specs.inner.Taken.{MayTake}
use Rattle.lynx_weave.specs.inner.Orders.{IsLeastNext, IsNextAt}
use Rattle.lynx_weave.proofs.Gets.{get_take, in_place, item, place_in, take_next}
use Rattle.lynx_weave.proofs.Lawfuls.{above_message}
use Rattle.lynx_weave.proofs.Merging.{IsAt, elsewhere-push, least_of_all, put_other, put_same, some_then, taken-push}
use Rattle.lynx_weave.proofs.Sending.{AreLawful, entry_here, entry_there, sender_is, sent_is, stamp_sent}
use Rattle.lynx_weave.proofs.Fronts.{one_of, front_at, length_fronts, front_there, fronts_lawful, in_front, ended_by}

-- ---- what is kept from step to step

-- no counts that fit together are above that of the server
abbrev pub IsMost : Set → List History → ℕ → ℕ → Type 0
IsMost set histories server count =
    (others : List ℕ) (other : ℕ) → FitTogether set histories others → slice_get others server ≡ Some other → other ≤ count

-- So many entries of each history are gone over, and so many are in the list, which is legal: all that are gone over, or the
-- history is ended, and no more of it fit.
pub record IsCutTo (set : Set) (histories : List History) (places counts : List ℕ) (list : List Placed) : Type 0 where
  pub many_places : length places ≡ length histories
  pub many_counts : length counts ≡ length histories
  pub taken : (server : ℕ) (history : History) (count : ℕ) → slice_get histories server ≡ Some history → slice_get counts server ≡ Some count →
      (count ≤ length history) × (history_of server list ≡ take count history)
  pub still : (server : ℕ) (history : History) (place count : ℕ) → slice_get histories server ≡ Some history → slice_get places server ≡ Some place →
      slice_get counts server ≡ Some count → (count ≡ place) ⊎ ((length history ≤ place) × IsMost set histories server count)
  pub legal : IsLegal set list

-- one step, at the least entry that is next
pub record CutStep (set : Set) (histories : List History) (places counts : List ℕ) (list : List Placed) (number : ℕ) : Type 0 where
  pub going : IsCutTo set histories places counts list
  pub least : IsLeastNext histories places number
  pub lawful : AreLawful set histories
  pub few : length histories ≡ set.servers
  pub at : IsAt histories places number least.entry

-- of its server all that was gone over was taken
pub count_is : (set : Set) (histories : List History) (places counts : List ℕ) (list : List Placed) (number : ℕ) (s : CutStep set histories places counts list number)
    (count : ℕ) → slice_get counts number ≡ Some count → count ≡ s.at.place
count_is set histories places counts list number s count is =
    elim (s.going.still number s.at.history s.at.place count s.at.there s.at.through is) [
      | inl same ↦ same
      | inr ended ↦
          let within = slice_get_within s.at.history s.at.place s.least.entry s.at.at in
          let long = ended.0 in absurd (omega (arith, within, long))
    ]

-- an entry of a front is in the list
in_the_list : (set : Set) (histories : List History) (places counts : List ℕ) (list : List Placed) → IsCutTo set histories places counts list →
    (server place : ℕ) (entry : Entry) → entry_in (fronts counts histories) server place ≡ Some entry → IsIn (record { server = server; entry = entry }) list
in_the_list set histories places counts list going server place entry is =
    let at = entry_there (fronts counts histories) server place entry is in
    let of = front_there counts histories server at.0 at.1 in
    let there : slice_get (history_of server list) place ≡ Some entry =
    ap (λ h. slice_get h place) ((going.taken server of.history of.count of.there of.counted).1 ∙ sym of.front_is) ∙ at.2 in
    in_list server list entry (in_place entry _ place there)

sends_in : (set : Set) (message : Message) (list : List Placed) (placed : Placed) → IsIn placed list → next_message set placed.entry ≡ Some message → IsSent set list message
sends_in set message [] placed never it = absurd never
sends_in set message (first ∷ list) placed (inl same) it = inl (ap (λ (r : Placed). next_message set r.entry) same ∙ it)
sends_in set message (first ∷ list) placed (inr later) it = inr (sends_in set message list placed later it)

-- an entry that may be taken may follow the list
pub may_follow : (set : Set) (histories : List History) (places counts : List ℕ) (list : List Placed) (number : ℕ) (s : CutStep set histories places counts list number)
    (count : ℕ) → slice_get counts number ≡ Some count → MayTake set (fronts counts histories) s.least.entry →
    MayFollow set list (record { server = number; entry = s.least.entry })
may_follow set histories places counts list number s count counted may = record {
  at_server = let within = slice_get_within histories number s.at.history s.at.there in let few = s.few in omega (arith, within, few);
  lawful = subst (λ h. IsLawful set number h s.least.entry)
      (sym ((s.going.taken number s.at.history count s.at.there counted).1 ∙ ap (λ n. take n s.at.history) (count_is set histories places counts list number s count counted)))
      (lawful_in set number s.at.history s.at.place s.least.entry (s.lawful number s.at.history s.at.there) s.at.at);
  sent = λ message is.
      let sender = sender_is set (fronts counts histories) message (may message is) in
      sends_in set message list (record { server = sender.server; entry = sender.entry })
      (in_the_list set histories places counts list s.going sender.server sender.place sender.entry sender.there) sender.sends;
}

-- ---- a step that takes the entry

pub cut_takes : (set : Set) (histories : List History) (places counts : List ℕ) (list : List Placed) (number : ℕ) (s : CutStep set histories places counts list number)
    (count : ℕ) → slice_get counts number ≡ Some count → MayTake set (fronts counts histories) s.least.entry →
    IsCutTo set histories (slice_set places number (s.at.place + 1)) (slice_set counts number (s.at.place + 1))
    (list ++ record { server = number; entry = s.least.entry } ∷ [])
cut_takes set histories places counts list number s count counted may = record {
  many_places = length-set places number (s.at.place + 1) ∙ s.going.many_places;
  many_counts = length-set counts number (s.at.place + 1) ∙ s.going.many_counts;
  taken = λ server history n there is. elim (eqb_tells server number) [
    | inl (e, same) ↦ taken_here server history n same there is
    | inr (e, differs) ↦
        let was = s.going.taken server history n there (sym (put_other counts number server (s.at.place + 1) differs) ∙ is) in
        (was.0, elsewhere-push number server list s.least.entry (away server differs) ∙ was.1)
  ];
  still = λ server history place n there through is. elim (eqb_tells server number) [
    | inl (e, same) ↦
        inl (one_of n (s.at.place + 1) (slice_get (slice_set counts number (s.at.place + 1)) server) is (now counts count server same counted)
        ∙ sym (one_of place (s.at.place + 1) (slice_get (slice_set places number (s.at.place + 1)) server) through (now places s.at.place server same s.at.through)))
    | inr (e, differs) ↦
        s.going.still server history place n there (sym (put_other places number server (s.at.place + 1) differs) ∙ through)
        (sym (put_other counts number server (s.at.place + 1) differs) ∙ is)
  ];
  legal = legal-push set list (record { server = number; entry = s.least.entry }) s.going.legal
      (may_follow set histories places counts list number s count counted may);
}
  where
    now : (xs : List ℕ) (x server : ℕ) → server ≡ number → slice_get xs number ≡ Some x → slice_get (slice_set xs number (s.at.place + 1)) server ≡ Some (s.at.place + 1)
    now xs x server same there = ap (slice_get (slice_set xs number (s.at.place + 1))) same ∙ put_same xs number x (s.at.place + 1) there

    away : (server : ℕ) → server ≢ number → nat_eq number server ≡ false
    away server differs = elim (eqb_tells number server) [
      | inl (e, same) ↦ absurd (differs (sym same))
      | inr (e, apart) ↦ e
    ]

    taken_here : (server : ℕ) (history : History) (n : ℕ) → server ≡ number → slice_get histories server ≡ Some history →
        slice_get (slice_set counts number (s.at.place + 1)) server ≡ Some n →
        (n ≤ length history) × (history_of server (list ++ record { server = number; entry = s.least.entry } ∷ []) ≡ take n history)
    taken_here server history n same there is =
        let history_is = one_of history s.at.history (slice_get histories number) (ap (slice_get histories) (sym same) ∙ there) s.at.there in
        let n_is : n ≡ s.at.place + 1 = one_of n (s.at.place + 1) (slice_get (slice_set counts number (s.at.place + 1)) server) is (now counts count server same counted) in
        let within = slice_get_within s.at.history s.at.place s.least.entry s.at.at in
        let long : length history ≡ length s.at.history = ap length history_is in (
          omega (arith, n_is, within, long),
          ap (λ m. history_of m (list ++ record { server = number; entry = s.least.entry } ∷ [])) same ∙ taken-push number list s.least.entry
              ∙ ap (λ h. h ++ s.least.entry ∷ []) ((s.going.taken number s.at.history count s.at.there counted).1
              ∙ ap (λ m. take m s.at.history) (count_is set histories places counts list number s count counted))
              ∙ sym (take_next s.at.history s.at.place s.least.entry s.at.at)
              ∙ ap (λ m. take m s.at.history) (sym n_is) ∙ ap (take n) (sym history_is),
        )

-- ---- a step that ends the server

-- what is below counts that fit is among what was taken, where it is below the least entry
among_taken : (set : Set) (histories : List History) (places counts : List ℕ) (list : List Placed) (number : ℕ) (s : CutStep set histories places counts list number)
    (others : List ℕ) → FitTogether set histories others → (server place other count : ℕ) (history : History) (entry : Entry) →
    slice_get histories server ≡ Some history → slice_get others server ≡ Some other → slice_get counts server ≡ Some count →
    place < other → slice_get history place ≡ Some entry → stamp_of entry < stamp_of s.least.entry → place < count
among_taken set histories places counts list number s others fit server place other count history entry there is counted below at lower =
    let inside = slice_get_within histories server history there in
    let many = s.going.many_places in
    let gone = item places server (omega (arith, inside, many)) in
    elim (s.going.still server history gone.0 count there gone.1 counted) [
      | inl same ↦ elim (cases_lt place gone.0) [
        | inl early ↦ omega (arith, same, early)
        | inr late ↦ absurd (elim (least_of_all set histories places number s.least s.lawful server history gone.0 place entry there gone.1 late at) [
          | inl less ↦ omega (arith, less, lower)
          | inr equal ↦ let stamps = equal.0 in omega (arith, stamps, lower)
        ])
      ]
      | inr ended ↦ let most = ended.1 others other fit is in omega (arith, below, most)
    ]

-- a message of an entry below counts that fit is sent by what was taken
sent_by_taken : (set : Set) (histories : List History) (places counts : List ℕ) (list : List Placed) (number : ℕ) (s : CutStep set histories places counts list number)
    (others : List ℕ) → FitTogether set histories others → (other : ℕ) → slice_get others number ≡ Some other → s.at.place < other →
    MayTake set (fronts counts histories) s.least.entry
sent_by_taken set histories places counts list number s others fit other is below message of_message =
    let part : history_of number fit.list ≡ take other s.at.history = fit.parts.each number (take other s.at.history) (front_at others histories number other s.at.history is s.at.there) in
    let here : slice_get (history_of number fit.list) s.at.place ≡ Some s.least.entry =
    ap (λ h. slice_get h s.at.place) part ∙ get_take s.at.history other s.at.place below ∙ s.at.at in
    let placed : Placed = record { server = number; entry = s.least.entry } in
    let listed : IsIn placed fit.list = in_list number fit.list s.least.entry (in_place s.least.entry _ s.at.place here) in
    let sent = sender_of set fit.list message (message-sent set fit.list placed message fit.legal listed of_message) in
    let home = (stands set fit.list sent.0 fit.legal sent.1).may_follow.at_server in
    let few = s.few in
    let inside : sent.0.server < length histories = omega (arith, home, few) in
    let history = item histories sent.0.server inside in
    let many_others = fit.many in
    let theirs = item others sent.0.server (omega (arith, inside, many_others)) in
    let many_counts = s.going.many_counts in
    let ours = item counts sent.0.server (omega (arith, inside, many_counts)) in
    let whole : history_of sent.0.server fit.list ≡ take theirs.0 history.0 =
    fit.parts.each sent.0.server (take theirs.0 history.0) (front_at others histories sent.0.server theirs.0 history.0 theirs.1 history.1) in
    let member : IsIn sent.0.entry (take theirs.0 history.0) = subst (IsIn sent.0.entry) whole (in_history sent.0.server fit.list sent.0 sent.1 refl) in
    let at = place_in sent.0.entry (take theirs.0 history.0) member in
    let there = in_front history.0 theirs.0 at.0 sent.0.entry at.1 in
    let stamp = stamp_sent set sent.0.entry message sent.2 in
    let above = above_message set number _ s.least.entry message
    (lawful_in set number s.at.history s.at.place s.least.entry (s.lawful number s.at.history s.at.there) s.at.at) of_message in
    let lower : stamp_of sent.0.entry < stamp_of s.least.entry = omega (arith, stamp, above) in
    let taken = among_taken set histories places counts list number s others fit sent.0.server at.0 theirs.0 ours.0 history.0 sent.0.entry
    history.1 theirs.1 ours.1 there.0 there.1 lower in
    let front = front_at counts histories sent.0.server ours.0 history.0 ours.1 history.1 in
    sent_is set (fronts counts histories) sent.0.server at.0 sent.0.entry message (fronts_lawful set counts histories s.lawful)
    (entry_here (fronts counts histories) sent.0.server at.0 (take ours.0 history.0) front ∙ get_take history.0 ours.0 at.0 taken ∙ there.1) sent.2

pub cut_ends : (set : Set) (histories : List History) (places counts : List ℕ) (list : List Placed) (number : ℕ) (s : CutStep set histories places counts list number) →
    (MayTake set (fronts counts histories) s.least.entry → ⊥) →
    IsCutTo set histories (slice_set places number (length s.at.history)) counts list
cut_ends set histories places counts list number s never = record {
  many_places = length-set places number (length s.at.history) ∙ s.going.many_places;
  many_counts = s.going.many_counts;
  taken = s.going.taken;
  still = λ server history place n there through is. elim (eqb_tells server number) [
    | inl (e, same) ↦ inr (ended server history place n same there through is)
    | inr (e, differs) ↦ s.going.still server history place n there (sym (put_other places number server (length s.at.history) differs) ∙ through) is
  ];
  legal = s.going.legal;
}
  where
    ended : (server : ℕ) (history : History) (place n : ℕ) → server ≡ number → slice_get histories server ≡ Some history →
        slice_get (slice_set places number (length s.at.history)) server ≡ Some place → slice_get counts server ≡ Some n →
        (length history ≤ place) × IsMost set histories server n
    ended server history place n same there through is =
        let history_is = one_of history s.at.history (slice_get histories number) (ap (slice_get histories) (sym same) ∙ there) s.at.there in
        let long : length history ≡ length s.at.history = ap length history_is in
        let place_is : place ≡ length s.at.history =
        one_of place (length s.at.history) (slice_get (slice_set places number (length s.at.history)) server) through
        (ap (slice_get (slice_set places number (length s.at.history))) same ∙ put_same places number s.at.place (length s.at.history) s.at.through) in
        let n_is = count_is set histories places counts list number s n (ap (slice_get counts) (sym same) ∙ is) in (
          omega (arith, long, place_is),
          λ others other fit its. elim (cases_lt s.at.place other) [
            | inl below ↦ absurd (never (sent_by_taken set histories places counts list number s others fit other (ap (slice_get others) (sym same) ∙ its) below))
            | inr above ↦ omega (arith, n_is, above)
          ],
        )

-- ---- what is left, start and end

-- how many entries are left
pub left : List History → List ℕ → ℕ
left [] places = 0
left (history ∷ histories) [] = 0
left (history ∷ histories) (place ∷ places) = (length history - place) + left histories places

pub fewer_left : (histories : List History) (places : List ℕ) (number place next : ℕ) (history : History) → slice_get histories number ≡ Some history →
    slice_get places number ≡ Some place → place < length history → place < next → left histories (slice_set places number next) < left histories places
unfolding left
fewer_left [] places number place next history there through within more = cc
fewer_left (first ∷ histories) [] number place next history there through within more = cc
fewer_left (first ∷ histories) (other ∷ places) zero place next history there through within more =
    let same : first ≡ history = cc in
    let at : other ≡ place = cc in
    let long : length first ≡ length history = ap length same in
    omega (arith, at, long, within, more)
fewer_left (first ∷ histories) (other ∷ places) (suc number) place next history there through within more =
    let less = fewer_left histories places number place next history there through within more in omega (arith, less)

pub cut_start : (set : Set) (histories : List History) (places counts : List ℕ) → length places ≡ length histories → length counts ≡ length histories →
    ((server place : ℕ) → slice_get places server ≡ Some place → place ≡ 0) → ((server count : ℕ) → slice_get counts server ≡ Some count → count ≡ 0) →
    IsCutTo set histories places counts []
cut_start set histories places counts many_places many_counts no_places no_counts = record {
  many_places = many_places;
  many_counts = many_counts;
  taken = λ server history count there is.
      let none = no_counts server count is in (omega (arith, none), ap (λ n. take n history) (sym none));
  still = λ server history place count there through is. inl (no_counts server count is ∙ sym (no_places server place through));
  legal = tt;
}

pub cut_end : (set : Set) (histories : List History) (places counts : List ℕ) (list : List Placed) → length histories ≡ set.servers →
    IsCutTo set histories places counts list → IsNextAt histories places None → IsCut set histories counts
cut_end set histories places counts list few going none = record {
  fit = record {
    many = going.many_counts;
    within = λ server count history is there. (going.taken server history count there is).0;
    list = list;
    legal = going.legal;
    parts = record {
      many = length_fronts counts histories going.many_counts ∙ few;
      each = λ server front there.
          let of = front_there counts histories server front there in
          (going.taken server of.history of.count of.there of.counted).1 ∙ sym of.front_is;
    };
  };
  greatest = λ others server count other fit is its.
      let many = going.many_counts in
      let many_places = going.many_places in
      let counted = slice_get_within counts server count is in
      let history = item histories server (omega (arith, counted, many)) in
      let gone = item places server (omega (arith, counted, many, many_places)) in
      let through = ended_by history.0 gone.0
      (sym (ap (option_and_then (entry_in histories server)) gone.1 ∙ entry_here histories server gone.0 history.0 history.1) ∙ none server) in
      elim (going.still server history.0 gone.0 count history.1 gone.1 is) [
        | inl same ↦ let within = fit.within server other history.0 its history.1 in omega (arith, same, through, within)
        | inr ended ↦ ended.1 others other fit its
      ];
}

-- ---- the entry that is next, at its server

pub record IsHere (set : Set) (servers : Servers) (places counts : List ℕ) (list : List Placed) (number place : ℕ)
    (here : Serving KeptState) : Type 0 where
  pub step : CutStep set (histories_of servers) places counts list number
  pub place_is : step.at.place ≡ place
  pub history_is : step.at.history ≡ here.history
  pub counted : slice_get counts number ≡ Some place
  pub entry_is : slice_get here.history place ≡ Some step.least.entry

pub here_is : (set : Set) (servers : Servers) (places counts : List ℕ) (list : List Placed) (number place : ℕ) (here : Serving KeptState) →
    AreRebuilt set servers → IsCutTo set (histories_of servers) places counts list → IsLeastNext (histories_of servers) places number →
    place ≡ get_or places number place → slice_get servers number ≡ Some here → IsHere set servers places counts list number place here
here_is set servers places counts list number place here are going least place_is there =
    let at = some_then (histories_of servers) places number least.entry least.next in
    let step : CutStep set (histories_of servers) places counts list number =
    record { going = going; least = least; lawful = lawful_all set servers are; few = many_of servers ∙ are.many; at = at } in
    let its : at.place ≡ place = sym (place_is ∙ get_or_from_slice_get places number at.place place at.through) in
    let history_is : at.history ≡ here.history = one_of at.history here.history (slice_get (histories_of servers) number) at.there (history_there servers number here there) in
    let inside = slice_get_within (histories_of servers) number at.history at.there in
    let many = going.many_counts in
    let count = item counts number (omega (arith, inside, many)) in
    record {
      step = step;
      place_is = its;
      history_is = history_is;
      counted = count.1 ∙ ap Some (count_is set (histories_of servers) places counts list number step count.0 count.1 ∙ its);
      entry_is = ap (λ h. slice_get h place) (sym history_is) ∙ ap (slice_get at.history) (sym its) ∙ at.at;
    }

-- a step that takes it, as the places are written
pub takes_on : (set : Set) (servers : Servers) (places counts : List ℕ) (list : List Placed) (number place : ℕ) (here : Serving KeptState)
    (is : IsHere set servers places counts list number place here) → MayTake set (fronts counts (histories_of servers)) is.step.least.entry →
    (more : List Placed) × IsCutTo set (histories_of servers) (slice_set places number (place + 1)) (slice_set counts number (place + 1)) more
takes_on set servers places counts list number place here is may = (
  list ++ record { server = number; entry = is.step.least.entry } ∷ [],
  subst (λ p. IsCutTo set (histories_of servers) (slice_set places number (p + 1)) (slice_set counts number (p + 1))
      (list ++ record { server = number; entry = is.step.least.entry } ∷ [])) is.place_is
      (cut_takes set (histories_of servers) places counts list number is.step place is.counted may),
)

-- a step that ends its server, as the places are written
pub ends_on : (set : Set) (servers : Servers) (places counts : List ℕ) (list : List Placed) (number place long : ℕ) (here : Serving KeptState)
    (is : IsHere set servers places counts list number place here) → (MayTake set (fronts counts (histories_of servers)) is.step.least.entry → ⊥) →
    long ≡ length here.history → (more : List Placed) × IsCutTo set (histories_of servers) (slice_set places number long) counts more
ends_on set servers places counts list number place long here is never whole = (
  list,
  subst (λ n. IsCutTo set (histories_of servers) (slice_set places number n) counts list) (ap (λ (h : History). length h) is.history_is ∙ sym whole)
      (cut_ends set (histories_of servers) places counts list number is.step never),
)

-- what is left then is less
pub nearer_by : (set : Set) (servers : Servers) (places counts : List ℕ) (list : List Placed) (number place next : ℕ) (here : Serving KeptState) →
    IsHere set servers places counts list number place here → place < next →
    left (histories_of servers) (slice_set places number next) < left (histories_of servers) places
nearer_by set servers places counts list number place next here is more =
    let its = is.place_is in
    let within = slice_get_within is.step.at.history is.step.at.place is.step.least.entry is.step.at.at in
    fewer_left (histories_of servers) places number is.step.at.place next is.step.at.history is.step.at.there is.step.at.through within (omega (arith, its, more))

-- the entry that was read is the one that is next
pub entry_read : (set : Set) (servers : Servers) (places counts : List ℕ) (list : List Placed) (number place : ℕ) (here : Serving KeptState)
    (is : IsHere set servers places counts list number place here) (history : History) (entry : Entry) → history ≡ here.history →
    entry ≡ get_or history place entry → entry ≡ is.step.least.entry
entry_read set servers places counts list number place here is history entry whole read =
    read ∙ get_or_from_slice_get history place is.step.least.entry entry (ap (λ h. slice_get h place) whole ∙ is.entry_is)

-- a later hop may be taken where its message is sent
pub hop_may : (set : Set) (histories : List History) (entry : Entry) (ran : HopEntry) (taken : Bool) → entry ≡ Hop ran →
    (IsTrue taken ↔ IsSentBefore set histories ran.message) → IsTrue taken ↔ MayTake set histories entry
hop_may set histories entry ran taken is both = subst (λ e. IsTrue taken ↔ MayTake set histories e) (sym is) (
  λ yes message it. subst (IsSentBefore set histories) (some_same ran.message message it) (both.0 yes),
  λ all. both.1 (all ran.message refl),
)
  where
    some_same : (a b : Message) → Some a ≡ Some b → a ≡ b
    some_same a b it = cc
