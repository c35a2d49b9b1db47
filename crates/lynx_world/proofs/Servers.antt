-- Servers of a world, and the list of what they added.
use Rattle.std.proofs.Common.{◌≡◌, ◌≢◌, ◌<◌, ℕ, zero, suc, false, cond, nat_eq, length, List, [], ◌∷◌, ◌++◌, slice_get, slice_set, Option, Some, None, IsSome, IfSome, All, refl, sym, ap, ◌∙◌, subst, inl, inr, eq-eqb, arith}
use Rattle.std.specs.Prelude.{option_map}
use Rattle.std.specs.List.{cons_option}
use Rattle.std.specs.Option.{option_and_then}
use Rattle.std.proofs.lemmas.Bool.{lt-ltb, le-ltb}
use Rattle.std.proofs.lemmas.Bool.Decides.{eqb_tells}
use Rattle.std.proofs.lemmas.List.{append-nil, length-set, map-set}
use Rattle.std.proofs.lemmas.List.Elements.{All-append, All-cons, All-head, All-nil, All-tail, filter_map-append}
use Rattle.std.proofs.lemmas.Option.{slice_get_within}
use Rattle.lynx_set.specs.Set.{Set}
use Rattle.lynx_entry.specs.declared.entry.Entry.{Entry}
use Rattle.lynx_entry.specs.declared.message.Message.{Message}
use Rattle.lynx_entry.specs.Entry.{History}
use Rattle.lynx_keep.specs.Kept.{KeptState}
use Rattle.lynx_server.specs.History.{grown}
use Rattle.lynx_server.specs.inner.Repeating.{HasAdded}
use Rattle.lynx_server.specs.Serving.{Serving}
use Rattle.lynx_server.proofs.Chains.{get_before, get_last}
use Rattle.lynx_world.specs.declared.added.Added.{Added}
use Rattle.lynx_world.specs.Placed.{Placed}
use Rattle.lynx_world.specs.Legal.{IsLegal, IsSent, MayFollow}
use Rattle.lynx_world.specs.Servers.{AreServers, IsServerOf, Servers, held_of, list_of, placed_of}
use Rattle.lynx_world.specs.inner.Calls.{noted}
use Rattle.lynx_world.specs.Steps.{list_with}
use Rattle.lynx_world.specs.Worlds.{history_of}
use Rattle.lynx_world.proofs.Histories.{history_of-push}
use Rattle.lynx_world.proofs.LegalSteps.{legal-push}
use Rattle.lynx_world.proofs.Sent.{sent-append}

-- what is put at a place is there
get_set_same : {X : Type 0} (xs : List X) (i : ℕ) (x y : X) → slice_get xs i ≡ Some x → slice_get (slice_set xs i y) i ≡ Some y
get_set_same [] i x y is = cc
get_set_same (first ∷ xs) zero x y is = refl
get_set_same (first ∷ xs) (suc i) x y is = get_set_same xs i x y is

-- and elsewhere is what was
get_set_other : {X : Type 0} (xs : List X) (i j : ℕ) (y : X) → j ≢ i → slice_get (slice_set xs i y) j ≡ slice_get xs j
get_set_other [] i j y differs = refl
get_set_other (first ∷ xs) zero zero y differs = absurd (differs refl)
get_set_other (first ∷ xs) zero (suc j) y differs = refl
get_set_other (first ∷ xs) (suc i) zero y differs = refl
get_set_other (first ∷ xs) (suc i) (suc j) y differs = get_set_other xs i j y (λ same. differs (ap suc same))

-- what is there, put there
pub set_same : {X : Type 0} (xs : List X) (i : ℕ) (x : X) → slice_get xs i ≡ Some x → slice_set xs i x ≡ xs
set_same [] i x is = refl
set_same (first ∷ xs) zero x is = let same : first ≡ x = cc in ap (λ y. y ∷ xs) (sym same)
set_same (first ∷ xs) (suc i) x is = ap (λ ys. first ∷ ys) (set_same xs i x is)

-- an entry of a history is where it was when there is one more
get_grown : (history : History) (added : Option Entry) (place : ℕ) (entry : Entry) → slice_get history place ≡ Some entry →
    slice_get (grown history added) place ≡ Some entry
get_grown history None place entry is = is
get_grown history (Some more) place entry is = get_before history more place (slice_get_within history place entry is) ∙ is

-- the entry that was added, by its server
abbrev placed_at : ℕ → ℕ → Option (Serving KeptState) → Option Placed
placed_at server place here =
    option_map (λ entry. record { server = server; entry = entry }) (option_and_then (λ (h : Serving KeptState). slice_get h.history place) here)

-- an entry that is found is found when its server has one more
found_more : (server place : ℕ) (old new : Serving KeptState) (added : Option Entry) (placed : Placed) → new.history ≡ grown old.history added →
    placed_at server place (Some old) ≡ Some placed → placed_at server place (Some new) ≡ Some placed
found_more server place old new added placed grew is = by (slice_get old.history place) refl is
  where
    by : (o : Option Entry) → slice_get old.history place ≡ o → option_map (λ entry. record { server = server; entry = entry }) o ≡ Some placed →
        placed_at server place (Some new) ≡ Some placed
    by None there found = cc
    by (Some entry) there found =
        ap (λ (h : History). option_map (λ e. record { server = server; entry = e }) (slice_get h place)) grew
        ∙ ap (option_map (λ e. record { server = server; entry = e })) (get_grown old.history added place entry there) ∙ found

-- what was added is found where a server has one more
pub placed_stays : (servers : Servers) (server : ℕ) (old new : Serving KeptState) (added : Option Entry) (one : Added) (placed : Placed) →
    slice_get servers server ≡ Some old → new.history ≡ grown old.history added → placed_of servers one ≡ Some placed →
    placed_of (slice_set servers server new) one ≡ Some placed
placed_stays servers server old new added one placed there grew is =
    elim (eqb_tells one.server server) [
      | inl (e, same) ↦
          let here : slice_get servers one.server ≡ Some old = ap (slice_get servers) same ∙ there in
          let put : slice_get (slice_set servers server new) one.server ≡ Some new = ap (slice_get (slice_set servers server new)) same ∙ get_set_same servers server old new there in
          ap (placed_at one.server one.place) put
          ∙ found_more one.server one.place old new added placed grew (sym (ap (placed_at one.server one.place) here) ∙ is)
      | inr (e, differs) ↦ ap (placed_at one.server one.place) (get_set_other servers server one.server new differs) ∙ is
    ]

some_of : {X : Type 0} (o : Option X) → IsSome o → (x : X) × (o ≡ Some x)
some_of None is = cc
some_of (Some x) is = (x, refl)

is_some_of : {X : Type 0} (o : Option X) (x : X) → o ≡ Some x → IsSome o
is_some_of None x is = cc
is_some_of (Some y) x is = refl

-- what was added is found
abbrev pub IsThere : Servers → Added → Type 0
IsThere servers one = IsSome (placed_of servers one)

-- all that was added is found, and stands in the list as it did
pub found_stays : (servers : Servers) (server : ℕ) (old new : Serving KeptState) (added : Option Entry) (order : List Added) →
    slice_get servers server ≡ Some old → new.history ≡ grown old.history added → All (IsThere servers) order →
    All (IsThere (slice_set servers server new)) order
found_stays servers server old new added [] there grew found = All-nil _
found_stays servers server old new added (one ∷ order) there grew found =
    let placed = some_of _ (All-head (IsThere servers) one order found) in
    All-cons (IsThere (slice_set servers server new)) one order (is_some_of _ placed.0 (placed_stays servers server old new added one placed.0 there grew placed.1))
    (found_stays servers server old new added order there grew (All-tail (IsThere servers) one order found))

pub list_stays : (servers : Servers) (server : ℕ) (old new : Serving KeptState) (added : Option Entry) (order : List Added) →
    slice_get servers server ≡ Some old → new.history ≡ grown old.history added → All (IsThere servers) order →
    list_of (slice_set servers server new) order ≡ list_of servers order
list_stays servers server old new added [] there grew found = refl
list_stays servers server old new added (one ∷ order) there grew found =
    let placed = some_of _ (All-head (IsThere servers) one order found) in
    ap (λ o. cons_option o (list_of (slice_set servers server new) order)) (placed_stays servers server old new added one placed.0 there grew placed.1 ∙ sym placed.1)
    ∙ ap (cons_option (placed_of servers one)) (list_stays servers server old new added order there grew (All-tail (IsThere servers) one order found))

-- as many as were added stand in the list
pub list_len : (servers : Servers) (order : List Added) → All (IsThere servers) order → length (list_of servers order) ≡ length order
list_len servers [] found = refl
list_len servers (one ∷ order) found =
    let placed = some_of _ (All-head (IsThere servers) one order found) in
    ap (λ o. length (cons_option o (list_of servers order))) placed.1
    ∙ ap suc (list_len servers order (All-tail (IsThere servers) one order found))

-- each at its place
pub list_get : (servers : Servers) (order : List Added) (place : ℕ) → All (IsThere servers) order →
    slice_get (list_of servers order) place ≡ option_and_then (placed_of servers) (slice_get order place)
list_get servers [] place found = refl
list_get servers (one ∷ order) zero found =
    let placed = some_of _ (All-head (IsThere servers) one order found) in
    ap (λ o. slice_get (cons_option o (list_of servers order)) zero) placed.1 ∙ sym placed.1
list_get servers (one ∷ order) (suc place) found =
    let placed = some_of _ (All-head (IsThere servers) one order found) in
    ap (λ o. slice_get (cons_option o (list_of servers order)) (suc place)) placed.1
    ∙ list_get servers order place (All-tail (IsThere servers) one order found)

-- what a call added
abbrev placed_added : ℕ → Option Entry → List Placed
placed_added server None = []
placed_added server (Some entry) = record { server = server; entry = entry } ∷ []

with_added : (server : ℕ) (added : Option Entry) (list : List Placed) → list_with server added list ≡ list ++ placed_added server added
with_added server None list = sym (append-nil list)
with_added server (Some entry) list = refl

-- what is noted of a call that added nothing, and of one that added an entry
noted_none : (server : ℕ) (history : History) → noted server (length history) (length history) ≡ []
noted_none server history = ap (λ b. cond b (record { server = server; place = length history } ∷ []) []) (le-ltb (length history) (length history) (omega arith))

noted_one : (server : ℕ) (history : History) (entry : Entry) →
    noted server (length history) (length (history ++ entry ∷ [])) ≡ record { server = server; place = length history } ∷ []
noted_one server history entry =
    ap (λ b. cond b (record { server = server; place = length history } ∷ []) []) (lt-ltb (length history) (length (history ++ entry ∷ [])) (longer history entry))
  where
    longer : (h : History) (e : Entry) → length h < length (h ++ e ∷ [])
    longer [] e = omega arith
    longer (first ∷ h) e = let more = longer h e in omega arith

record IsNoted (servers : Servers) (server : ℕ) (old new : Serving KeptState) (added : Option Entry) : Type 0 where
  list_is : list_of (slice_set servers server new) (noted server (length old.history) (length new.history)) ≡ placed_added server added
  found : All (IsThere (slice_set servers server new)) (noted server (length old.history) (length new.history))

-- what is noted stands in the list
is_noted : (servers : Servers) (server : ℕ) (old new : Serving KeptState) (added : Option Entry) →
    slice_get servers server ≡ Some old → new.history ≡ grown old.history added → IsNoted servers server old new added
is_noted servers server old new None there grew =
    let none : noted server (length old.history) (length new.history) ≡ [] =
    ap (λ (h : History). noted server (length old.history) (length h)) grew ∙ noted_none server old.history in
    record {
      list_is = ap (list_of (slice_set servers server new)) none;
      found = subst (All (IsThere (slice_set servers server new))) (sym none) (All-nil _);
    }
is_noted servers server old new (Some entry) there grew =
    let ns = slice_set servers server new in
    let one : Added = record { server = server; place = length old.history } in
    let just : noted server (length old.history) (length new.history) ≡ one ∷ [] =
    ap (λ (h : History). noted server (length old.history) (length h)) grew ∙ noted_one server old.history entry in
    let placed : placed_of ns one ≡ Some (record { server = server; entry = entry }) =
    ap (placed_at server (length old.history)) (get_set_same servers server old new there)
    ∙ ap (λ (h : History). option_map (λ e. record { server = server; entry = e }) (slice_get h (length old.history))) grew
    ∙ ap (option_map (λ e. record { server = server; entry = e })) (get_last old.history entry) in
    record {
      list_is = ap (list_of ns) just ∙ ap (λ o. cons_option o []) placed;
      found = subst (All (IsThere ns)) (sym just) (All-cons (IsThere ns) one [] (is_some_of _ _ placed) (All-nil _));
    }

-- the history of a server in a list with what was added
history_here : (server : ℕ) (added : Option Entry) (list : List Placed) → history_of server (list_with server added list) ≡ grown (history_of server list) added
history_here server None list = refl
history_here server (Some entry) list =
    history_of-push server list (record { server = server; entry = entry })
    ∙ ap (λ b. history_of server list ++ cond b (entry ∷ []) []) (eq-eqb server server refl)

history_elsewhere : (server other : ℕ) (added : Option Entry) (list : List Placed) → nat_eq server other ≡ false → history_of other (list_with server added list) ≡ history_of other list
history_elsewhere server other None list away = refl
history_elsewhere server other (Some entry) list away =
    history_of-push other list (record { server = server; entry = entry })
    ∙ ap (λ b. history_of other list ++ cond b (entry ∷ []) []) away ∙ append-nil (history_of other list)

-- what was sent stays sent
pub sent_with : (set : Set) (server : ℕ) (added : Option Entry) (list : List Placed) (message : Message) → IsSent set list message → IsSent set (list_with server added list) message
sent_with set server None list message sent = sent
sent_with set server (Some entry) list message sent = sent-append set list (record { server = server; entry = entry } ∷ []) message sent

pub all_sent_with : (set : Set) (server : ℕ) (added : Option Entry) (list : List Placed) (held : List Message) → All (IsSent set list) held → All (IsSent set (list_with server added list)) held
all_sent_with set server added list held each = λ k d within. sent_with set server added list _ (each k d within)

pub legal_with : (set : Set) (server : ℕ) (added : Option Entry) (list : List Placed) → IsLegal set list →
    IfSome added (λ entry. MayFollow set list (record { server = server; entry = entry })) → IsLegal set (list_with server added list)
legal_with set server None list legal may = legal
legal_with set server (Some entry) list legal may = legal-push set list (record { server = server; entry = entry }) legal may

-- a world after a call of one of its servers
pub record HasMoved (set : Set) (servers : Servers) (order : List Added) (server : ℕ) (added : Option Entry) (held : List Message) (after : Servers) (later : List Added) : Type 0 where
  pub list_is : list_of after later ≡ list_with server added (list_of servers order)
  pub held_is : held_of after ≡ slice_set (held_of servers) server held
  pub are : AreServers set after later

-- each server after the call is one of the list after it
each_after : (set : Set) (servers : Servers) (order : List Added) (server : ℕ) (old new : Serving KeptState) (added : Option Entry) (held : List Message) →
    AreServers set servers order → slice_get servers server ≡ Some old → HasAdded old added held new →
    All (IsSent set (list_with server added (list_of servers order))) held →
    (other : ℕ) (here : Serving KeptState) → slice_get (slice_set servers server new) other ≡ Some here →
    IsServerOf set (list_with server added (list_of servers order)) other here
each_after set servers order server old new added held are there goes sent other here is =
    let list = list_of servers order in
    let was = are.each server old there in
    elim (eqb_tells server other) [
      | inl (e, same) ↦
          let new_is : new ≡ here = some_is new here (sym (get_set_same servers server old new there) ∙ ap (slice_get (slice_set servers server new)) same ∙ is) in
          subst (λ (h : Serving KeptState). IsServerOf set (list_with server added list) other h) new_is
          (subst (λ n. IsServerOf set (list_with server added list) n new) same
          (record {
            set_is = goes.set_is ∙ was.set_is;
            server_is = goes.server_is ∙ was.server_is;
            history_is = goes.history_is ∙ ap (λ h. grown h added) was.history_is ∙ sym (history_here server added list);
            runs = goes.runs;
            unmarked = goes.acknowledged_is ∙ was.unmarked;
            sent = subst (All (IsSent set (list_with server added list))) (sym goes.held_is) sent;
          }))
      | inr (e, differs) ↦
          let stood = are.each other here (sym (get_set_other servers server other new (λ same. differs (sym same))) ∙ is) in
          record {
            set_is = stood.set_is;
            server_is = stood.server_is;
            history_is = stood.history_is ∙ sym (history_elsewhere server other added list e);
            runs = stood.runs;
            unmarked = stood.unmarked;
            sent = all_sent_with set server added list here.held stood.sent;
          }
    ]
  where
    some_is : (a b : Serving KeptState) → Some a ≡ Some b → a ≡ b
    some_is a b e = cc

-- a call of one server, which adds an entry that may follow, or none, and holds messages that were sent
pub has_moved : (set : Set) (servers : Servers) (order : List Added) (server : ℕ) (old new : Serving KeptState) (added : Option Entry) (held : List Message) →
    AreServers set servers order → slice_get servers server ≡ Some old → HasAdded old added held new →
    IfSome added (λ entry. MayFollow set (list_of servers order) (record { server = server; entry = entry })) →
    All (IsSent set (list_with server added (list_of servers order))) held →
    HasMoved set servers order server added held (slice_set servers server new) (order ++ noted server (length old.history) (length new.history))
has_moved set servers order server old new added held are there goes may sent =
    let ns = slice_set servers server new in
    let more = noted server (length old.history) (length new.history) in
    let list = list_of servers order in
    let is = is_noted servers server old new added there goes.history_is in
    let list_is : list_of ns (order ++ more) ≡ list_with server added list =
    filter_map-append (placed_of ns) order more
    ∙ ap (λ l. l ++ list_of ns more) (list_stays servers server old new added order there goes.history_is are.found)
    ∙ ap (λ l. list ++ l) is.list_is ∙ sym (with_added server added list) in
    record {
      list_is = list_is;
      held_is = map-set (λ (h : Serving KeptState). h.held) servers server new ∙ ap (slice_set (held_of servers) server) goes.held_is;
      are = record {
        many = length-set servers server new ∙ are.many;
        each = λ other here found.
            subst (λ l. IsServerOf set l other here) (sym list_is)
            (each_after set servers order server old new added held are there goes sent other here found);
        found = All-append (IsThere ns) order more (found_stays servers server old new added order there goes.history_is are.found) is.found;
        is_legal = subst (IsLegal set) (sym list_is) (legal_with set server added list are.is_legal may);
      };
    }
