-- What servers keep and sessions were told, whatever happens, is never told to disagree.
use Rattle.std.proofs.Common.{◌≡◌, ◌≢◌, ◌∙◌, ℕ, zero, suc, ◌+◌, ◌≤◌, Bool, true, false, not, cond, nat_lt, length, take, List, [], ◌∷◌, ◌++◌, slice_get, Some, Err, unwrap_or, count_by, inl, inr, append_assoc, refl, sym, ap, subst, arith}
use Rattle.std.specs.List.{list_any}
use Rattle.std.proofs.lemmas.Bool.{cases_lt}
use Rattle.lynx_names.specs.declared.limits.TheConstants.{MAX_ENTRIES}
use Rattle.lynx_set.specs.Set.{Set}
use Rattle.lynx_entry.specs.Entry.{History}
use Rattle.lynx_world.specs.Legal.{IsLegal}
use Rattle.lynx_world.specs.Placed.{Placed}
use Rattle.lynx_world.specs.Worlds.{history_of}
use Rattle.lynx_world.proofs.Members.{IsIn, any_of, in_history, in_list}
use Rattle.lynx_world.proofs.Standing.{stands as stands_in_legal}
use Rattle.lynx_weave.specs.declared.fault.WeaveFault.{WeaveFault}
use Rattle.lynx_weave.specs.declared.fault.WeaveFault.TheVariants.{Mismatch, Told, Memory}
use Rattle.lynx_weave.specs.declared.told.ToldItem.{ToldItem}
use Rattle.lynx_weave.specs.Lists.{IsListOf}
use Rattle.lynx_weave.specs.Parts.{ArePartsOf}
use Rattle.lynx_weave.specs.Told.{is_fresh_by, is_full_in, is_topmost, server_told, stands}
use Rattle.lynx_weave.specs.Weaving.{IsFalselyTold, IsInTime, IsToldFault, Weaves, all_told}
use Rattle.lynx_weave.proofs.Bridging.{any_at, or_either, or_left, or_right}
use Rattle.lynx_weave.proofs.Gets.{in_place, item}
use Rattle.lynx_weave.proofs.Marking.{count_joined}
use Rattle.lynx_weave.proofs.Parted.{parts_weave}
use Rattle.lynx_promises.specs.Stops.{told_to}
use Rattle.lynx_promises.proofs.Agreeing.{stands_by, stands_full, stands_so}
use Rattle.lynx_promises.proofs.Honest.{IsHonest}
use Rattle.lynx_promises.proofs.ToldLists.{told_in}

-- ---- two lists of the same parts

-- no entry stands at a server that there isn't
empty_beyond : (set : Set) (list : List Placed) (server : ℕ) → IsLegal set list → set.servers ≤ server → history_of server list ≡ []
empty_beyond set list server legal beyond = by (history_of server list) refl
  where
    by : (h : History) → history_of server list ≡ h → h ≡ []
    by [] empty = refl
    by (entry ∷ h) some =
        let there = in_list server list entry (subst (IsIn entry) (sym some) (inl refl)) in
        let stood = stands_in_legal set list (record { server = server; entry = entry }) legal there in
        let at = stood.may_follow.at_server in absurd (omega arith)

abbrev HasSameParts : List Placed → List Placed → Type 0
HasSameParts one other = (server : ℕ) → history_of server one ≡ history_of server other

same_parts : (set : Set) (histories : List History) (list woven : List Placed) → IsLegal set list → ArePartsOf set list histories → IsListOf set histories woven →
    HasSameParts list woven
same_parts set histories list woven legal parts is server = elim (cases_lt server set.servers) [
  | inl within ↦
      let many = parts.many in
      let part = item histories server (omega arith) in
      parts.each server part.0 part.1 ∙ sym (is.histories_are server part.0 part.1)
  | inr beyond ↦ empty_beyond set list server legal beyond ∙ sym (empty_beyond set woven server is.legal beyond)
]

-- each entry of the one list is of the other
in_other : (one other : List Placed) (placed : Placed) → HasSameParts one other → IsIn placed one → IsIn placed other
in_other one other placed same there =
    in_list placed.server other placed.entry (subst (IsIn placed.entry) (same placed.server) (in_history placed.server one placed there refl))

full_in_other : (one other : List Placed) (server : ℕ) → HasSameParts one other → is_full_in server one ≡ true → is_full_in server other ≡ true
full_in_other one other server same is = elim (or_either (not (nat_lt (length (history_of server one)) MAX_ENTRIES)) (list_any (λ placed. is_topmost placed.entry) one) is) [
  | inl many ↦ or_left _ _ (subst (λ h. not (nat_lt (length h) MAX_ENTRIES) ≡ true) (same server) many)
  | inr top ↦
      let at = any_at (λ (placed : Placed). is_topmost placed.entry) one top in
      or_right (not (nat_lt (length (history_of server other)) MAX_ENTRIES)) _
      (any_of (λ (placed : Placed). is_topmost placed.entry) other at.0 (in_other one other at.0 same at.1) at.2)
]

-- what stands in the one stands in the other
stands_in_other : (one other : List Placed) (told : ToldItem) → HasSameParts one other → stands one told ≡ true → stands other told ≡ true
stands_in_other one other told same is = elim (stands_by one told is) [
  | inl found ↦ stands_so other told found.0 (in_other one other found.0 same found.1) found.2
  | inr full ↦ stands_full other told full.0 (full_in_other one other (server_told told) same full.1)
]

-- ---- the place of an item

told_split : (told : List (List ToldItem)) (session : ℕ) (items : List ToldItem) → slice_get told session ≡ Some items →
    (rest : List ToldItem) × (all_told told ≡ all_told (take session told) ++ (items ++ rest))
told_split [] session items is = cc
told_split (first ∷ told) zero items is = let same : first ≡ items = cc in (all_told told, ap (λ l. l ++ all_told told) same)
told_split (first ∷ told) (suc session) items is =
    let rest = told_split told session items is in
    (rest.0, ap (λ l. first ++ l) rest.1 ∙ sym (append_assoc first (all_told (take session told)) (items ++ rest.0)))

item_split : (items : List ToldItem) (place : ℕ) (one : ToldItem) → slice_get items place ≡ Some one →
    (behind : List ToldItem) × (items ≡ take place items ++ one ∷ behind)
item_split [] place one is = cc
item_split (first ∷ items) zero one is = let same : first ≡ one = cc in (items, ap (λ x. x ∷ items) same)
item_split (first ∷ items) (suc place) one is = let rest = item_split items place one is in (rest.0, ap (λ l. first ∷ l) rest.1)

session_is : (told : List (List ToldItem)) (session : ℕ) (items : List ToldItem) → slice_get told session ≡ Some items → told_to told session ≡ items
session_is told session items is = ap (λ o. unwrap_or o []) is

in_all : (told : List (List ToldItem)) (session place : ℕ) (items : List ToldItem) (one : ToldItem) → slice_get told session ≡ Some items → slice_get items place ≡ Some one →
    IsIn one (all_told told)
in_all told session place items one is there = told_in told session one (subst (IsIn one) (sym (session_is told session items is)) (in_place one items place there))

-- ---- no item is falsely told

-- one that passes counts
count_first : (test : ToldItem → Bool) (one : ToldItem) (items : List ToldItem) → test one ≡ true → count_by test (one ∷ items) ≡ 1 + count_by test items
count_first test one items passes =
    count_joined test (one ∷ []) items ∙ ap (λ b. (0 + cond b 1 0) + count_by test items) passes

-- by as many as before, by this one, and by those behind
count_around : (test : ToldItem → Bool) (told : List (List ToldItem)) (session place : ℕ) (items : List ToldItem) (one : ToldItem) → slice_get told session ≡ Some items →
    slice_get items place ≡ Some one → test one ≡ true → count_by test (all_told (take session told) ++ take place items) + 1 ≤ count_by test (all_told told)
count_around test told session place items one is there passes =
    let sessions = told_split told session items is in
    let here = item_split items place one there in
    let whole = ap (count_by test) sessions.1 in
    let first = count_joined test (all_told (take session told)) (items ++ sessions.0) in
    let second = count_joined test items sessions.0 in
    let third = ap (count_by test) here.1 ∙ count_joined test (take place items) (one ∷ here.0) in
    let own = count_first test one here.0 passes in
    let before = count_joined test (all_told (take session told)) (take place items) in omega arith

never_false : (set : Set) (list : List Placed) (histories : List History) (told : List (List ToldItem)) (session place : ℕ) → IsLegal set list → IsHonest list told →
    ArePartsOf set list histories → IsToldFault set histories told session place → ⊥
never_false set list histories told session place legal honest parts fault = by fault.falsely
  where
    same : HasSameParts list fault.list
    same = same_parts set histories list fault.list legal parts fault.list_is

    back : HasSameParts fault.list list
    back server = sym (same server)

    by : IsFalselyTold fault.list told session fault.items place fault.item → ⊥
    by (inl falls) =
        let stood = stands_in_other list fault.list fault.item same (honest.stand fault.item (in_all told session place fault.items fault.item fault.items_are fault.there)) in
        let never : true ≡ false = sym stood ∙ falls in cc
    by (inr (inl late)) =
        let in_time = subst IsInTime (session_is told session fault.items fault.items_are) (honest.in_time session) in
        let above = in_time place fault.item fault.there late.0 in
        let below = late.1 in absurd (omega arith)
    by (inr (inr again)) =
        let once = honest.once again.placed (in_other fault.list list again.placed back (in_place again.placed fault.list again.at again.there)) in
        let more = count_around (is_fresh_by again.placed) told session place fault.items fault.item fault.items_are fault.there again.is_by in
        let before = again.again in absurd (omega arith)

pub never_told : (set : Set) (list : List Placed) (histories : List History) (told : List (List ToldItem)) (fault : WeaveFault) → IsLegal set list → IsHonest list told →
    ArePartsOf set list histories → fault ≢ Memory → Weaves set histories told (Err fault) → ⊥
never_told set list histories told (Mismatch server place) legal honest parts no_want wrong = parts_weave set list histories server place legal parts wrong
never_told set list histories told (Told session place) legal honest parts no_want wrong = never_false set list histories told session place legal honest parts wrong
never_told set list histories told Memory legal honest parts no_want wrong = no_want refl
