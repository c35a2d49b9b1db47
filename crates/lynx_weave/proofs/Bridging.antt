-- What stands in the list of histories is what stands in them.
use Rattle.std.proofs.Common.{◌≡◌, ℕ, ◌&&◌, ◌||◌, Bool, true, false, not, nat_lt, List, [], ◌∷◌, length, slice_get, Option, Some, None, option_map, count_by, inl, inr, ◌⊎◌, refl, sym, ap, ◌∙◌, subst, arith}
use Rattle.std.specs.Prelude.{unwrap_or}
use Rattle.std.specs.List.{list_any}
use Rattle.lynx_names.specs.declared.limits.TheConstants.{MAX_ENTRIES}
use Rattle.lynx_set.specs.Set.{Set}
use Rattle.lynx_entry.specs.declared.entry.Entry.{Entry}
use Rattle.lynx_entry.specs.Entry.{History}
use Rattle.lynx_world.specs.Placed.{Placed}
use Rattle.lynx_world.specs.Worlds.{history_of}
use Rattle.lynx_world.proofs.Members.{IsIn, any_of, in_history, in_list}
use Rattle.lynx_world.proofs.Standing.{stands as stands_in_legal}
use Rattle.lynx_weave.specs.declared.told.ToldItem.{ToldItem}
use Rattle.lynx_weave.specs.Lists.{IsListOf, entry_in}
use Rattle.lynx_weave.specs.inner.Judging.{StandsIn, agrees_at, are_topped, is_fresh_at, is_full_here}
use Rattle.lynx_weave.specs.Told.{agrees, is_fresh, is_fresh_by, is_full_in, is_topmost, server_told, stands, tells_full}
use Rattle.lynx_weave.proofs.Gets.{in_place, item, place_in}
use Rattle.lynx_weave.proofs.Sending.{entry_here, entry_there}

-- ---- tests

pub both_ways : (a b : Bool) → (a ≡ true → b ≡ true) → (b ≡ true → a ≡ true) → a ≡ b
both_ways true b to from = sym (to refl)
both_ways false true to from = from refl
both_ways false false to from = refl

pub or_either : (a b : Bool) → (a || b) ≡ true → (a ≡ true) ⊎ (b ≡ true)
or_either true b is = inl refl
or_either false b is = inr is

pub or_left : (a b : Bool) → a ≡ true → (a || b) ≡ true
or_left true b is = refl
or_left false b is = cc

pub or_right : (a b : Bool) → b ≡ true → (a || b) ≡ true
or_right true b is = refl
or_right false b is = is

pub not_true : (b : Bool) → (b ≡ true → ⊥) → b ≡ false
not_true true never = absurd (never refl)
not_true false never = refl

pub any_at : {X : Type 0} (test : X → Bool) (xs : List X) → list_any test xs ≡ true → (x : X) × IsIn x xs × (test x ≡ true)
any_at test [] is = cc
any_at {X} test (x ∷ xs) is = by (or_either (test x) (list_any test xs) is) (any_at test xs)
  where
    by : (test x ≡ true) ⊎ (list_any test xs ≡ true) → (list_any test xs ≡ true → (y : X) × IsIn y xs × (test y ≡ true)) →
        (y : X) × IsIn y (x ∷ xs) × (test y ≡ true)
    by (inl here) rest = (x, inl refl, here)
    by (inr there) rest = let later = rest there in (later.0, inr later.1, later.2)

-- ---- entries of a list and of its histories

-- an entry by its server and place
pub record IsPlaced (histories : List History) (placed : Placed) : Type 0 where
  pub place : ℕ
  pub there : entry_in histories placed.server place ≡ Some placed.entry

pub placed_is : (set : Set) (histories : List History) (list : List Placed) (placed : Placed) → length histories ≡ set.servers →
    IsListOf set histories list → IsIn placed list → IsPlaced histories placed
placed_is set histories list placed few is there =
    let stood = stands_in_legal set list placed is.legal there in
    let at = stood.may_follow.at_server in
    let history = item histories placed.server (omega arith) in
    let in_it = subst (IsIn placed.entry) (is.histories_are placed.server history.0 history.1) (in_history placed.server list placed there refl) in
    let place = place_in placed.entry history.0 in_it in
    record { place = place.0; there = entry_here histories placed.server place.0 history.0 history.1 ∙ place.1 }

pub in_the_list : (set : Set) (histories : List History) (list : List Placed) (server place : ℕ) (entry : Entry) → IsListOf set histories list →
    entry_in histories server place ≡ Some entry → IsIn (record { server = server; entry = entry }) list
in_the_list set histories list server place entry is there =
    let at = entry_there histories server place entry there in
    in_list server list entry (in_place entry _ place (ap (λ h. slice_get h place) (is.histories_are server at.0 at.1) ∙ at.2))

-- no entry stands at a server that there isn't
none_beyond : (set : Set) (histories : List History) (list : List Placed) (server : ℕ) → length histories ≡ set.servers →
    IsListOf set histories list → slice_get histories server ≡ None → history_of server list ≡ []
none_beyond set histories list server few is none = by (history_of server list) refl
  where
    by : (h : History) → history_of server list ≡ h → h ≡ []
    by [] empty = refl
    by (entry ∷ h) some =
        let there = in_list server list entry (subst (IsIn entry) (sym some) (inl refl)) in
        let stood = stands_in_legal set list (record { server = server; entry = entry }) is.legal there in
        let at = stood.may_follow.at_server in
        let history = item histories server (omega arith) in
        let never = sym none ∙ history.1 in cc

-- ---- what agrees

-- the entry that agrees
pub record Agrees (histories : List History) (item : ToldItem) (server place : ℕ) : Type 0 where
  pub entry : Entry
  pub there : entry_in histories server place ≡ Some entry
  pub agrees_so : agrees item (record { server = server; entry = entry }) ≡ true

pub agrees_by : (histories : List History) (item : ToldItem) (server place : ℕ) → agrees_at histories item server place ≡ true → Agrees histories item server place
agrees_by histories item server place is = by (entry_in histories server place) refl is
  where
    by : (o : Option Entry) → entry_in histories server place ≡ o →
        unwrap_or (option_map (λ entry. agrees item (record { server = server; entry = entry })) o) false ≡ true → Agrees histories item server place
    by None none passes = cc
    by (Some entry) there passes = record { entry = entry; there = there; agrees_so = passes }

pub agrees_is : (histories : List History) (item : ToldItem) (server place : ℕ) (entry : Entry) → entry_in histories server place ≡ Some entry →
    agrees_at histories item server place ≡ agrees item (record { server = server; entry = entry })
agrees_is histories item server place entry there =
    ap (λ o. unwrap_or (option_map (λ e. agrees item (record { server = server; entry = e })) o) false) there

-- ---- full servers

topped_is : (set : Set) (histories : List History) (list : List Placed) → length histories ≡ set.servers → IsListOf set histories list →
    list_any (λ (placed : Placed). is_topmost placed.entry) list ≡ are_topped histories
topped_is set histories list few is = both_ways _ _ to from
  where
    to : list_any (λ (placed : Placed). is_topmost placed.entry) list ≡ true → are_topped histories ≡ true
    to passes =
        let one = any_at (λ (placed : Placed). is_topmost placed.entry) list passes in
        let placed = placed_is set histories list one.0 few is one.1 in
        let at = entry_there histories one.0.server placed.place one.0.entry placed.there in
        any_of (list_any is_topmost) histories at.0 (in_place at.0 histories one.0.server at.1)
        (any_of is_topmost at.0 one.0.entry (in_place one.0.entry at.0 placed.place at.2) one.2)

    from : are_topped histories ≡ true → list_any (λ (placed : Placed). is_topmost placed.entry) list ≡ true
    from passes =
        let history = any_at (list_any is_topmost) histories passes in
        let entry = any_at is_topmost history.0 history.2 in
        let server = place_in history.0 histories history.1 in
        let place = place_in entry.0 history.0 entry.1 in
        any_of (λ (placed : Placed). is_topmost placed.entry) list (record { server = server.0; entry = entry.0 })
        (in_the_list set histories list server.0 place.0 entry.0 is (entry_here histories server.0 place.0 history.0 server.1 ∙ place.1)) entry.2

history_is : (set : Set) (histories : List History) (list : List Placed) (server : ℕ) → length histories ≡ set.servers → IsListOf set histories list →
    history_of server list ≡ unwrap_or (slice_get histories server) []
history_is set histories list server few is = by (slice_get histories server) refl
  where
    by : (o : Option History) → slice_get histories server ≡ o → history_of server list ≡ unwrap_or o []
    by None none = none_beyond set histories list server few is none
    by (Some history) there = is.histories_are server history there

full_is : (set : Set) (histories : List History) (list : List Placed) (server : ℕ) → length histories ≡ set.servers → IsListOf set histories list →
    is_full_in server list ≡ is_full_here histories server
full_is set histories list server few is =
    ap (λ (h : History). not (nat_lt (length h) MAX_ENTRIES) || list_any (λ (placed : Placed). is_topmost placed.entry) list)
    (history_is set histories list server few is)
    ∙ ap (λ b. not (nat_lt (length (unwrap_or (slice_get histories server) [])) MAX_ENTRIES) || b) (topped_is set histories list few is)

-- ---- what stands

pub stands_so : (set : Set) (histories : List History) (list : List Placed) (item : ToldItem) → length histories ≡ set.servers →
    IsListOf set histories list → StandsIn histories item → stands list item ≡ true
stands_so set histories list item few is (inl (server, place, passes)) =
    let one = agrees_by histories item server place passes in
    or_left (list_any (agrees item) list) (tells_full item && is_full_in (server_told item) list)
    (any_of (agrees item) list (record { server = server; entry = one.entry })
    (in_the_list set histories list server place one.entry is one.there) one.agrees_so)
stands_so set histories list item few is (inr full) =
    or_right (list_any (agrees item) list) (tells_full item && is_full_in (server_told item) list)
    (ap (λ b. tells_full item && b) (full_is set histories list (server_told item) few is) ∙ full)

pub stands_back : (set : Set) (histories : List History) (list : List Placed) (item : ToldItem) → length histories ≡ set.servers →
    IsListOf set histories list → stands list item ≡ true → StandsIn histories item
stands_back set histories list item few is passes =
    elim (or_either (list_any (agrees item) list) (tells_full item && is_full_in (server_told item) list) passes) [
      | inl some ↦
          let one = any_at (agrees item) list some in
          let placed = placed_is set histories list one.0 few is one.1 in
          inl (one.0.server, placed.place, agrees_is histories item one.0.server placed.place one.0.entry placed.there ∙ one.2)
      | inr full ↦ inr (ap (λ b. tells_full item && b) (sym (full_is set histories list (server_told item) few is)) ∙ full)
    ]

pub stands_not : (set : Set) (histories : List History) (list : List Placed) (item : ToldItem) → length histories ≡ set.servers →
    IsListOf set histories list → (StandsIn histories item → ⊥) → stands list item ≡ false
stands_not set histories list item few is never =
    not_true (stands list item) (λ passes. never (stands_back set histories list item few is passes))

-- ---- fresh items

pub fresh_is : (histories : List History) (server place : ℕ) (entry : Entry) (items : List ToldItem) → entry_in histories server place ≡ Some entry →
    count_by (is_fresh_at histories server place) items ≡ count_by (is_fresh_by (record { server = server; entry = entry })) items
fresh_is histories server place entry items there =
    ap (λ o. count_by (λ i. is_fresh i && unwrap_or (option_map (λ e. agrees i (record { server = server; entry = e })) o) false) items) there
