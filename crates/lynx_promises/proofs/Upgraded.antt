-- What is lawful and legal for a set is so for the same set at version 2: nothing that a server decides asks for the version.
use Rattle.std.proofs.Common.{◌≡◌, ℕ, List, [], ◌∷◌, ◌++◌, inl, inr, refl}
use Rattle.lynx_set.specs.Set.{Set}
use Rattle.lynx_set.specs.declared.version.Version.TheVariants.{Two}
use Rattle.lynx_entry.specs.declared.entry.Entry.{Entry}
use Rattle.lynx_entry.specs.declared.entry.Entry.TheVariants.{Begun, Refused, Hop}
use Rattle.lynx_entry.specs.declared.message.Message.{Message}
use Rattle.lynx_entry.specs.declared.request.Request.{Request}
use Rattle.lynx_entry.specs.Entry.{History}
use Rattle.lynx_rules.specs.Lawful.{IsLawful, MayBegin}
use Rattle.lynx_rules.specs.Visits.{visited}
use Rattle.lynx_server.specs.History.{IsLawfulAfter, IsLawfulHistory}
use Rattle.lynx_server.specs.Keeping.{kept_of}
use Rattle.lynx_world.specs.Legal.{IsLegal, IsLegalAfter, IsSent, MayFollow}
use Rattle.lynx_world.specs.Placed.{Placed}
use Rattle.lynx_world.specs.Worlds.{history_of}

-- the set at version 2
abbrev pub second : Set → Set
second set = record set { version = Two }

may_begin : (set : Set) (server : ℕ) (history : History) (request : Request) → MayBegin set server history request → MayBegin (second set) server history request
may_begin set server history request may = record { new = may.new; in_order = may.in_order; in_turn = may.in_turn }

lawful : (set : Set) (server : ℕ) (history : History) (entry : Entry) → IsLawful set server history entry → IsLawful (second set) server history entry
unfolding visited
lawful set server history (Begun begun) is = record {
  room = is.room;
  stamp = is.stamp;
  may_begin = may_begin set server history begun.request is.may_begin;
  origin = is.origin;
  index = is.index;
  numbers = is.numbers;
  results = is.results;
}
lawful set server history (Refused refused) is = record {
  room = is.room;
  stamp = is.stamp;
  may_begin = may_begin set server history refused.request is.may_begin;
  need = is.need;
}
lawful set server history (Hop ran) is = record {
  room = is.room;
  stamp = is.stamp;
  well_formed = is.well_formed;
  new = is.new;
  in_turn = is.in_turn;
  results = is.results;
}

lawful_after : (set : Set) (server : ℕ) (before history : History) → IsLawfulAfter set server before history → IsLawfulAfter (second set) server before history
lawful_after set server before [] is = tt
lawful_after set server before (entry ∷ history) is = (lawful set server before entry is.0, lawful_after set server (before ++ entry ∷ []) history is.1)

sent : (set : Set) (list : List Placed) (message : Message) → IsSent set list message → IsSent (second set) list message
sent set [] message never = never
sent set (placed ∷ list) message (inl sends) = inl sends
sent set (placed ∷ list) message (inr later) = inr (sent set list message later)

may_follow : (set : Set) (before : List Placed) (placed : Placed) → MayFollow set before placed → MayFollow (second set) before placed
may_follow set before placed may = record {
  at_server = may.at_server;
  lawful = lawful set placed.server (history_of placed.server before) placed.entry may.lawful;
  sent = λ message is. sent set before message (may.sent message is);
}

legal_after : (set : Set) (before list : List Placed) → IsLegalAfter set before list → IsLegalAfter (second set) before list
legal_after set before [] legal = tt
legal_after set before (placed ∷ list) legal = (may_follow set before placed legal.0, legal_after set (before ++ placed ∷ []) list legal.1)

pub upgraded_lawful : (set : Set) (server : ℕ) (history : History) → IsLawfulHistory set server history →
    IsLawfulHistory (second set) server history × (kept_of (second set) history ≡ kept_of set history)
upgraded_lawful set server history is = (lawful_after set server [] history is, refl)

pub upgraded_legal : (set : Set) (list : List Placed) → IsLegal set list → IsLegal (second set) list
upgraded_legal set list legal = legal_after set [] list legal
