-- The numbers for a server rise with the begins of the chains of one origin, so two chains have different numbers.
use Rattle.std.proofs.Common.{◌≡◌, ◌≢◌, ℕ, ◌+◌, ◌<◌, List, [], ◌∷◌, ◌++◌, inl, inr, ◌⊎◌, sym, ap, ◌∙◌, subst, arith}
use Rattle.std.proofs.lemmas.Bool.{cases_lt}
use Rattle.std.proofs.lemmas.Bool.Decides.{eqb_tells}
use Rattle.lynx_names.specs.declared.limits.TheConstants.{MAX_SERVERS}
use Rattle.lynx_set.specs.Set.{Set}
use Rattle.lynx_entry.specs.declared.entry.BegunEntry.{BegunEntry}
use Rattle.lynx_entry.specs.declared.entry.Entry.TheVariants.{Begun}
use Rattle.lynx_rules.specs.Turns.{is_begun, begins_visiting, begun_count, number_for}
use Rattle.lynx_world.specs.Placed.{Placed}
use Rattle.lynx_world.specs.Worlds.{history_of}
use Rattle.lynx_world.specs.Legal.{MayFollow, IsLegal}
use Rattle.lynx_world.proofs.Members.{in-push}
use Rattle.lynx_world.proofs.Standing.{stands, legal_induction}
use Rattle.lynx_world.proofs.Counts.{count-grows, count-here}
use Rattle.lynx_world.proofs.Numbers.{number_in, number_in-lawful, BeginsAt, IsVisiting}

-- numbers for the server rise with the begins at the origin
pub record Rises (set : Set) (origin server : ℕ) (list : List Placed) : Type 0 where
  pub indexed : (begun : BegunEntry) → BeginsAt origin begun list → begun.chain.index < begun_count (history_of origin list)
  pub numbered : (begun : BegunEntry) → BeginsAt origin begun list → IsVisiting set server begun →
      number_in begun.numbers server < number_for set (history_of origin list) server
  pub rising : (one other : BegunEntry) → BeginsAt origin one list → BeginsAt origin other list → IsVisiting set server one →
      IsVisiting set server other → one.chain.index < other.chain.index → number_in one.numbers server < number_in other.numbers server

-- what is told of the last entry, where it is a begin at the origin
record IsLast (set : Set) (origin server : ℕ) (list : List Placed) (last : Placed) (begun : BegunEntry) : Type 0 where
  index : begun.chain.index ≡ begun_count (history_of origin list)
  more_begun : begun_count (history_of origin (list ++ last ∷ [])) ≡ begun_count (history_of origin list) + 1
  number : IsVisiting set server begun → number_in begun.numbers server ≡ number_for set (history_of origin list) server
  more_visiting : IsVisiting set server begun → number_for set (history_of origin (list ++ last ∷ [])) server ≡ number_for set (history_of origin list) server + 1

-- such an entry has the next index, and the next number for each server that it visits
is_last : (set : Set) (origin server : ℕ) (list : List Placed) (last : Placed) (begun : BegunEntry) → server < MAX_SERVERS →
    MayFollow set list last → last ≡ record { server = origin; entry = Begun begun } → IsLast set origin server list last begun
is_last set origin server list last begun below may same =
    let here : MayFollow set list (record { server = origin; entry = Begun begun }) = subst (MayFollow set list) same may in
    let at : last.server ≡ origin = ap (λ (p : Placed). p.server) same in
    record {
      index = here.lawful.index;
      more_begun = count-here is_begun origin list last at (ap (λ (p : Placed). is_begun p.entry) same);
      number = λ visiting. number_in-lawful set origin server (history_of origin list) begun here.lawful below visiting;
      more_visiting = λ visiting. count-here (begins_visiting set server) origin list last at
          (ap (λ (p : Placed). begins_visiting set server p.entry) same ∙ visiting);
    }

-- numbers still rise with one more entry
rises-push : (set : Set) (origin server : ℕ) (list : List Placed) (last : Placed) → server < MAX_SERVERS → Rises set origin server list →
    MayFollow set list last → Rises set origin server (list ++ last ∷ [])
rises-push set origin server list last below old may = record {
  indexed = λ begun there. index_after begun (in-push (record { server = origin; entry = Begun begun }) last list there);
  numbered = λ begun there visiting. number_after begun (in-push (record { server = origin; entry = Begun begun }) last list there) visiting;
  rising = λ one other here there v w before.
      order one other (in-push (record { server = origin; entry = Begun one }) last list here) (in-push (record { server = origin; entry = Begun other }) last list there) v w before;
}
  where
    index_after : (begun : BegunEntry) → BeginsAt origin begun list ⊎ (last ≡ record { server = origin; entry = Begun begun }) →
        begun.chain.index < begun_count (history_of origin (list ++ last ∷ []))
    index_after begun (inl there) =
        let index = old.indexed begun there in let more = count-grows is_begun origin list last in omega arith
    index_after begun (inr same) =
        let new = is_last set origin server list last begun below may same in
        let index = new.index in let more = new.more_begun in omega arith

    number_after : (begun : BegunEntry) → BeginsAt origin begun list ⊎ (last ≡ record { server = origin; entry = Begun begun }) → IsVisiting set server begun →
        number_in begun.numbers server < number_for set (history_of origin (list ++ last ∷ [])) server
    number_after begun (inl there) visiting =
        let number = old.numbered begun there visiting in
        let more = count-grows (begins_visiting set server) origin list last in omega arith
    number_after begun (inr same) visiting =
        let new = is_last set origin server list last begun below may same in
        let number = new.number visiting in let more = new.more_visiting visiting in omega arith

    order : (one other : BegunEntry) → BeginsAt origin one list ⊎ (last ≡ record { server = origin; entry = Begun one }) →
        BeginsAt origin other list ⊎ (last ≡ record { server = origin; entry = Begun other }) → IsVisiting set server one →
        IsVisiting set server other → one.chain.index < other.chain.index → number_in one.numbers server < number_in other.numbers server
    order one other (inl here) (inl there) v w before = old.rising one other here there v w before
    order one other (inl here) (inr same) v w before =
        let new = is_last set origin server list last other below may same in
        let number = new.number w in let lower = old.numbered one here v in omega arith
    order one other (inr same) (inl there) v w before =
        let new = is_last set origin server list last one below may same in
        let index = new.index in let lower = old.indexed other there in absurd (omega arith)
    order one other (inr same) (inr again) v w before =
        let first = is_last set origin server list last one below may same in
        let second = is_last set origin server list last other below may again in
        let index = first.index in let other_index = second.index in absurd (omega arith)

-- the numbers of chains of one origin rise with begin
pub rises : (set : Set) (origin server : ℕ) (list : List Placed) → server < MAX_SERVERS → IsLegal set list → Rises set origin server list
rises set origin server list below =
    legal_induction set (Rises set origin server)
    (record { indexed = λ begun never. absurd never; numbered = λ begun never. absurd never; rising = λ one other never. absurd never })
    (λ before last was old may. rises-push set origin server before last below old may) list

-- so two chains of one origin with one number for a server that both visit are the same
pub one_chain : (set : Set) (origin server : ℕ) (list : List Placed) (one other : BegunEntry) → server < MAX_SERVERS → IsLegal set list →
    BeginsAt origin one list → BeginsAt origin other list → IsVisiting set server one → IsVisiting set server other →
    number_in one.numbers server ≡ number_in other.numbers server → one.chain ≡ other.chain
one_chain set origin server list one other below legal here there v w same =
    let rise = rises set origin server list below legal in
    let at_one = (stands set list (record { server = origin; entry = Begun one }) legal here).may_follow.lawful.origin in
    let at_other = (stands set list (record { server = origin; entry = Begun other }) legal there).may_follow.lawful.origin in
    let index : one.chain.index ≡ other.chain.index =
    equal one.chain.index other.chain.index
    (λ before. let less = rise.rising one other here there v w before in omega arith)
    (λ behind. let less = rise.rising other one there here w v behind in omega arith) in
    λ i. record { origin = (at_one ∙ sym at_other) i; index = index i }
  where
    equal : (a b : ℕ) → (a < b → ⊥) → (b < a → ⊥) → a ≡ b
    equal a b not_below not_above = elim (cases_lt a b) [
      | inl below ↦ absurd (not_below below)
      | inr least ↦ elim (eqb_tells a b) [
        | inl is ↦ is.1
        | inr differs ↦ let apart : a ≢ b = differs.1 in absurd (not_above (omega arith))
      ]
    ]
