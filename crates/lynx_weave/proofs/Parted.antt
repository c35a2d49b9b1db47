-- The parts of a legal list weave, and what is woven keeps order.
use Rattle.std.proofs.Common.{◌≡◌, ◌∙◌, ◌<◌, ◌≤◌, ℕ, Bool, true, false, cond, nat_eq, List, [], ◌∷◌, ◌++◌, length, slice_get, Option, Some, None, inl, inr, refl, sym, ap, subst, arith}
use Rattle.std.specs.Prelude.{option_and_then}
use Rattle.std.specs.List.{cons_option}
use Rattle.std.proofs.lemmas.Bool.{eqb-true}
use Rattle.std.proofs.lemmas.List.{append-nil}
use Rattle.lynx_names.specs.declared.limits.TheConstants.{MAX_SERVERS}
use Rattle.lynx_set.specs.Set.{Set}
use Rattle.lynx_entry.specs.Entry.{History}
use Rattle.lynx_rules.specs.Lawful.{IsLawful}
use Rattle.lynx_server.specs.History.{IsLawfulAfter, IsLawfulHistory}
use Rattle.lynx_server.proofs.InHistory.{lawful_in}
use Rattle.lynx_world.specs.Placed.{Placed}
use Rattle.lynx_world.specs.Legal.{IsLegal, IsLegalAfter}
use Rattle.lynx_world.specs.Order.{IsInOriginOrder, IsOnceAndInOrder}
use Rattle.lynx_world.specs.Worlds.{WorldState, history_of}
use Rattle.lynx_world.proofs.Histories.{history_of-push}
use Rattle.lynx_world.proofs.Members.{IsIn, in_history, in_list, sender_of}
use Rattle.lynx_world.proofs.Once.{once_and_in_order}
use Rattle.lynx_world.proofs.Origins.{origin_order}
use Rattle.lynx_world.proofs.Sent.{message-sent}
use Rattle.lynx_world.proofs.Standing.{stands}
use Rattle.lynx_weave.specs.declared.told.ToldItem.{ToldItem}
use Rattle.lynx_weave.specs.Weaving.{IsMismatch, IsUnsentAt, IsWoven}
use Rattle.lynx_weave.proofs.Gets.{in_place, item, place_in}
use Rattle.lynx_weave.specs.Parts.{ArePartsOf}

-- behind a list each server's part of a legal one is lawful
parts_lawful : (set : Set) (server : ℕ) (before list : List Placed) → IsLegalAfter set before list →
    IsLawfulAfter set server (history_of server before) (history_of server list)
parts_lawful set server before [] legal = tt
parts_lawful set server before (placed ∷ list) legal =
    by (nat_eq placed.server server) refl (parts_lawful set server (before ++ placed ∷ []) list legal.1)
  where
    by : (b : Bool) → nat_eq placed.server server ≡ b → IsLawfulAfter set server (history_of server (before ++ placed ∷ [])) (history_of server list) →
        IsLawfulAfter set server (history_of server before) (cons_option (cond b (Some placed.entry) None) (history_of server list))
    by false is later =
        subst (λ h. IsLawfulAfter set server h (history_of server list))
        (history_of-push server before placed ∙ ap (λ b. history_of server before ++ cond b (placed.entry ∷ []) []) is ∙ append-nil (history_of server before)) later
    by true is later = (
      subst (λ n. IsLawful set n (history_of n before) placed.entry) (eqb-true placed.server server is) legal.0.lawful,
      subst (λ h. IsLawfulAfter set server h (history_of server list))
          (history_of-push server before placed ∙ ap (λ b. history_of server before ++ cond b (placed.entry ∷ []) []) is) later,
    )

-- each server's part of a legal list is lawful
pub part_lawful : (set : Set) (server : ℕ) (list : List Placed) → IsLegal set list → IsLawfulHistory set server (history_of server list)
part_lawful set server list legal = parts_lawful set server [] list legal

-- an entry of a part ran on a message that an entry of a part sends
sent_by_part : (set : Set) (list : List Placed) (histories : List History) (server place : ℕ) → IsLegal set list → ArePartsOf set list histories →
    IsUnsentAt set histories server place → ⊥
sent_by_part set list histories server place legal parts unsent = by (slice_get histories server) refl unsent.there
  where
    by : (o : Option History) → slice_get histories server ≡ o → option_and_then (λ h. slice_get h place) o ≡ Some unsent.entry → ⊥
    by None is there = cc
    by (Some history) is there =
        let placed : Placed = record { server = server; entry = unsent.entry } in
        let listed : IsIn placed list = in_list server list unsent.entry (subst (IsIn unsent.entry) (sym (parts.each server history is)) (in_place unsent.entry history place there)) in
        let sent = sender_of set list unsent.message (message-sent set list placed unsent.message legal listed unsent.message_is) in
        let within : sent.0.server < length histories =
        let below = (stands set list sent.0 legal sent.1).may_follow.at_server in let many = parts.many in omega (arith, below, many) in
        let part = item histories sent.0.server within in
        let member : IsIn sent.0.entry part.0 = subst (IsIn sent.0.entry) (parts.each sent.0.server part.0 part.1) (in_history sent.0.server list sent.0 sent.1 refl) in
        let at = place_in sent.0.entry part.0 member in
        unsent.unsent sent.0.server at.0 sent.0.entry (ap (option_and_then (λ h. slice_get h at.0)) part.1 ∙ at.1) sent.2

-- no entry of a legal list's parts is a mismatch
pub parts_weave : (set : Set) (list : List Placed) (histories : List History) (server place : ℕ) → IsLegal set list → ArePartsOf set list histories →
    IsMismatch set histories server place → ⊥
parts_weave set list histories server place legal parts (inl unlawful) =
    let lawful : IsLawfulHistory set server unlawful.history =
    subst (IsLawfulHistory set server) (parts.each server unlawful.history unlawful.there) (part_lawful set server list legal) in
    unlawful.first.unlawful (lawful_in set server unlawful.history place unlawful.first.entry lawful unlawful.first.there)
parts_weave set list histories server place legal parts (inr unsent) = sent_by_part set list histories server place legal parts unsent

-- each hop of a woven world acts at most once and in chain order, and chains of one origin keep their order
pub woven_in_order : (set : Set) (histories : List History) (told : List (List ToldItem)) (world : WorldState) → set.servers ≤ MAX_SERVERS →
    IsWoven set histories told world → IsOnceAndInOrder world.list × IsInOriginOrder world.list
woven_in_order set histories told world few woven =
    (once_and_in_order set world.list woven.list_is.legal, origin_order set world.list few woven.list_is.legal)
