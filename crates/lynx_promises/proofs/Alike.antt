-- What sessions were told of one request at one server is alike, and new once.
use Rattle.std.proofs.Common.{◌≡◌, ◌∙◌, ℕ, ◌+◌, ◌≤◌, ◌&&◌, Bool, true, false, cond, nat_eq, if◌then◌else◌, List, [], ◌∷◌, slice_get, Option, Some, None, All, count_by, inl, inr, ◌⊎◌, refl, sym, ap, subst, arith}
use Rattle.std.specs.List.{cons_option, filter_map}
use Rattle.std.proofs.lemmas.Bool.{eqb-true}
use Rattle.std.proofs.lemmas.Option.{get_or_from_slice_get, slice_get_within}
use Rattle.lynx_set.specs.Set.{Set}
use Rattle.lynx_entry.specs.declared.answer.Answer.{Answer}
use Rattle.lynx_entry.specs.declared.answer.Answer.TheVariants.{Begun as BegunAnswer, Refused as RefusedAnswer, Clash, UnknownProgram, WrongOrigin, ArgCount, OutsideRange, WrongShard, Full, Busy, Stopped, Memory}
use Rattle.lynx_entry.specs.declared.entry.Entry.{Entry}
use Rattle.lynx_entry.specs.declared.entry.Entry.TheVariants.{Begun, Refused, Hop}
use Rattle.lynx_entry.specs.declared.request.Request.{Request}
use Rattle.lynx_entry.specs.Entry.{History}
use Rattle.lynx_rules.specs.Lawful.{is_record_of}
use Rattle.lynx_world.specs.Legal.{IsLegal}
use Rattle.lynx_world.specs.Placed.{Placed}
use Rattle.lynx_world.specs.Worlds.{WorldState, history_of}
use Rattle.lynx_world.proofs.Members.{IsIn, in_history}
use Rattle.lynx_world.proofs.Once.{both}
use Rattle.lynx_world.proofs.Tests.{and-true, not_both}
use Rattle.lynx_weave.specs.declared.told.ToldItem.{ToldItem}
use Rattle.lynx_weave.specs.declared.told.ToldItem.TheVariants.{Answered, Seen}
use Rattle.lynx_weave.specs.Told.{agrees, bears_answer, is_fresh_answer, is_fresh_by, is_full_answer, stands}
use Rattle.lynx_weave.specs.Weaving.{IsWoven, all_told}
use Rattle.lynx_weave.proofs.Agreements.{sought}
use Rattle.lynx_weave.proofs.Gets.{in_place, place_in}
use Rattle.lynx_weave.proofs.Lawfuls.{sole_record}
use Rattle.lynx_weave.proofs.Marking.{count_joined, full_stale}
use Rattle.lynx_weave.proofs.Parted.{part_lawful}
use Rattle.lynx_order.specs.Lists.{AreDifferent}
use Rattle.lynx_order.proofs.Lists.{in-either}
use Rattle.lynx_order.proofs.Places.{place_of_in}
use Rattle.lynx_promises.specs.Requests.{AnswersAlike, answer_again, told_new}
use Rattle.lynx_promises.proofs.Agreeing.{stands_by}
use Rattle.lynx_promises.proofs.Honest.{IsHonest}
use Rattle.lynx_promises.proofs.Borne.{same_borne}

-- ---- the one entry of a request

same_entry : (set : Set) (list : List Placed) (request : Request) (server : ℕ) (one other : Placed) → IsLegal set list → IsIn one list → IsIn other list →
    one.server ≡ server → other.server ≡ server → is_record_of request one.entry ≡ true → is_record_of request other.entry ≡ true → one.entry ≡ other.entry
same_entry set list request server one other legal there too here also is_it is_too =
    let history : History = history_of server list in
    let first = place_in one.entry history (in_history server list one there here) in
    let second = place_in other.entry history (in_history server list other too also) in
    let place = sole_record set server history request (part_lawful set server list legal) first.0 second.0 one.entry other.entry first.1 second.1 is_it is_too in
    let same : Some one.entry ≡ Some other.entry = sym first.1 ∙ ap (slice_get history) place ∙ second.1 in cc

-- an entry that agrees with an answer to a request is its record
at_server : (server : ℕ) (request : Request) (answer : Answer) (placed : Placed) → agrees (Answered server request answer) placed ≡ true →
    (placed.server ≡ server) × (bears_answer request answer placed.entry ≡ true)
at_server server request answer placed agreed =
    let parts = both (nat_eq placed.server server) (bears_answer request answer placed.entry) agreed in (eqb-true _ _ parts.0, parts.1)

is_record : (server : ℕ) (request : Request) (answer : Answer) (placed : Placed) → agrees (Answered server request answer) placed ≡ true →
    is_record_of request placed.entry ≡ true
is_record server request answer placed agreed = sought (Answered server request answer) placed.entry (at_server server request answer placed agreed).1

-- ---- alike

full_only : (given : Answer) → is_full_answer given ≡ true → given ≡ Full
full_only (BegunAnswer chain stamp results again) is = cc
full_only (RefusedAnswer need stamp again) is = cc
full_only Clash is = cc
full_only UnknownProgram is = cc
full_only WrongOrigin is = cc
full_only ArgCount is = cc
full_only OutsideRange is = cc
full_only WrongShard is = cc
full_only Full is = refl
full_only Busy is = cc
full_only Stopped is = cc
full_only Memory is = cc

never_full : (one again : Answer) → is_full_answer one ≡ true → answer_again one ≡ Some again → ⊥
never_full one again full is =
    let none : answer_again one ≡ None = ap answer_again (full_only one full) in
    let never : None ≡ Some again = sym none ∙ is in cc

alike : (set : Set) (list : List Placed) (server : ℕ) (request : Request) (one other again : Answer) → IsLegal set list → stands list (Answered server request one) ≡ true →
    stands list (Answered server request other) ≡ true → answer_again one ≡ Some again → (other ≡ Full) ⊎ (answer_again other ≡ Some again)
alike set list server request one other again legal stood too is = elim (stands_by list (Answered server request one) stood) [
  | inl first ↦ elim (stands_by list (Answered server request other) too) [
    | inl second ↦
        let at = at_server server request one first.0 first.2 in
        let also = at_server server request other second.0 second.2 in
        let entry = same_entry set list request server first.0 second.0 legal first.1 second.1 at.0 also.0 (is_record server request one first.0 first.2)
        (is_record server request other second.0 second.2) in
        inr (same_borne request one other again first.0.entry at.1 (subst (λ e. bears_answer request other e ≡ true) (sym entry) also.1) is)
    | inr full ↦ inl (full_only other full.0)
  ]
  | inr full ↦ absurd (never_full one again full.0 is)
]

-- ---- new once

same_parts : (one other : ℕ × ℕ × ℕ) → Some one ≡ Some other → (one.0 ≡ other.0) × (one.1 ≡ other.1) × (one.2 ≡ other.2)
same_parts one other is =
    let same : one ≡ other = cc in
    (ap (λ (k : ℕ × ℕ × ℕ). k.0) same, ap (λ (k : ℕ × ℕ × ℕ). k.1) same, ap (λ (k : ℕ × ℕ × ℕ). k.2) same)

-- the entry by which an item tells of a request as new
record IsNewBy (list : List Placed) (item : ToldItem) (key : ℕ × ℕ × ℕ) : Type 0 where
  placed : Placed
  there : IsIn placed list
  is_by : is_fresh_by placed item ≡ true
  request : Request
  record_is : is_record_of request placed.entry ≡ true
  server_is : placed.server ≡ key.0
  client_is : request.client ≡ key.1
  number_is : request.number ≡ key.2

new_by : (list : List Placed) (item : ToldItem) (key : ℕ × ℕ × ℕ) → stands list item ≡ true → told_new item ≡ Some key → IsNewBy list item key
new_by list (Answered server request answer) key stood is = by (is_fresh_answer answer) refl is
  where
    by : (b : Bool) → is_fresh_answer answer ≡ b → (if b then Some (server, request.client, request.number) else None) ≡ Some key → IsNewBy list (Answered server request answer) key
    by true fresh told =
        let parts = same_parts (server, request.client, request.number) key told in
        elim (stands_by list (Answered server request answer) stood) [
          | inl found ↦ record {
            placed = found.0;
            there = found.1;
            is_by = and-true _ _ fresh found.2;
            request = request;
            record_is = is_record server request answer found.0 found.2;
            server_is = (at_server server request answer found.0 found.2).0 ∙ parts.0;
            client_is = parts.1;
            number_is = parts.2;
          }
          | inr full ↦ absurd (not_both (is_fresh_answer answer) fresh (full_stale (Answered server request answer) full.0))
        ]
    by false stale told = cc
new_by list (Seen server chain hop stamp results) key stood is = cc

-- requests of one client and number have one record
record_alike : (a b : Request) → a.client ≡ b.client → a.number ≡ b.number → (entry : Entry) → is_record_of a entry ≡ is_record_of b entry
record_alike a b client number (Begun begun) = λ i. (nat_eq begun.request.client (client i) && nat_eq begun.request.number (number i))
record_alike a b client number (Refused refused) = λ i. (nat_eq refused.request.client (client i) && nat_eq refused.request.number (number i))
record_alike a b client number (Hop ran) = refl

-- two items that tell of one request as new do so by one entry
same_new : (set : Set) (list : List Placed) (one other : ToldItem) (key : ℕ × ℕ × ℕ) → IsLegal set list → (first : IsNewBy list one key) → (second : IsNewBy list other key) →
    first.placed ≡ second.placed
same_new set list one other key legal first second =
    let server : first.placed.server ≡ second.placed.server = first.server_is ∙ sym second.server_is in
    let alike = record_alike first.request second.request (first.client_is ∙ sym second.client_is) (first.number_is ∙ sym second.number_is) in
    let entry = same_entry set list second.request second.placed.server first.placed second.placed legal first.there second.there server refl
    (sym (alike first.placed.entry) ∙ first.record_is) second.record_is in
    λ i. record { server = server i; entry = entry i }

count_more : (test : ToldItem → Bool) (item : ToldItem) (items : List ToldItem) → count_by test items ≤ count_by test (item ∷ items)
count_more test item items = let whole = count_joined test (item ∷ []) items in omega arith

count_passed : (test : ToldItem → Bool) (item : ToldItem) (items : List ToldItem) → test item ≡ true → count_by test (item ∷ items) ≡ 1 + count_by test items
count_passed test item items passes = count_joined test (item ∷ []) items ∙ ap (λ b. (0 + cond b 1 0) + count_by test items) passes

count_some : (test : ToldItem → Bool) (item : ToldItem) (items : List ToldItem) → IsIn item items → test item ≡ true → 1 ≤ count_by test items
count_some test item [] never passes = absurd never
count_some test item (first ∷ items) (inl same) passes = let whole = count_passed test first items (ap test same ∙ passes) in omega arith
count_some test item (first ∷ items) (inr later) passes =
    let rest = count_some test item items later passes in
    let more = count_more test first items in omega arith

new_once : (set : Set) (list : List Placed) (items : List ToldItem) → IsLegal set list → ((item : ToldItem) → IsIn item items → stands list item ≡ true) →
    ((placed : Placed) → IsIn placed list → count_by (is_fresh_by placed) items ≤ 1) → AreDifferent (filter_map told_new items)
new_once set list [] legal stand once = tt
new_once set list (item ∷ items) legal stand once =
    by (told_new item) refl
    (new_once set list items legal (λ other there. stand other (inr there))
    (λ placed there. let whole = once placed there in let more = count_more (is_fresh_by placed) item items in omega arith))
  where
    by : (o : Option (ℕ × ℕ × ℕ)) → told_new item ≡ o → AreDifferent (filter_map told_new items) → AreDifferent (cons_option o (filter_map told_new items))
    by None is rest = rest
    by (Some key) is rest = (
      λ there.
          let other = place_of_in told_new key items there in
          let in_it = in_place other.1 items other.0 other.2 in
          let first = new_by list item key (stand item (inl refl)) is in
          let second = new_by list other.1 key (stand other.1 (inr in_it)) other.3 in
          let same = same_new set list item other.1 key legal first second in
          let one = count_passed (is_fresh_by first.placed) item items first.is_by in
          let some = count_some (is_fresh_by first.placed) other.1 items in_it (subst (λ p. is_fresh_by p other.1 ≡ true) (sym same) second.is_by) in
          let few = once first.placed first.there in absurd (omega arith),
      rest,
    )

-- what stands in a legal list, no two items new by one entry, is answered alike
stands_alike : (set : Set) (list : List Placed) (told : List (List ToldItem)) → IsLegal set list → ((item : ToldItem) → IsIn item (all_told told) → stands list item ≡ true) →
    ((placed : Placed) → IsIn placed list → count_by (is_fresh_by placed) (all_told told) ≤ 1) → AnswersAlike told
stands_alike set list told legal stand once = record {
  alike = λ server request one other again there too is.
      alike set list server request one other again legal (stand (Answered server request one) there) (stand (Answered server request other) too) is;
  new = new_once set list (all_told told) legal stand once;
}

pub answers_alike : (set : Set) (list : List Placed) (told : List (List ToldItem)) → IsLegal set list → IsHonest list told → AnswersAlike told
answers_alike set list told legal honest = stands_alike set list told legal honest.stand honest.once

-- ---- in a world that was woven

-- what holds of all of a list holds of each value in it
all_in : {X : Type 0} (P : X → Type 0) (x : X) (xs : List X) → All P xs → IsIn x xs → P x
all_in P x xs all there =
    let place = place_in x xs there in
    subst P (get_or_from_slice_get xs place.0 x x place.1) (all place.0 x (slice_get_within xs place.0 x place.1))

-- what was told was told to some session
told_within : (told : List (List ToldItem)) (item : ToldItem) → IsIn item (all_told told) → (items : List ToldItem) × IsIn items told × IsIn item items
told_within [] item never = absurd never
told_within (first ∷ told) item there = elim (in-either item first (all_told told) there) [
  | inl here ↦ (first, inl refl, here)
  | inr later ↦ let rest = told_within told item later in (rest.0, inr rest.1, rest.2)
]

pub woven_alike : (set : Set) (histories : List History) (told : List (List ToldItem)) (world : WorldState) → IsWoven set histories told world → AnswersAlike told
woven_alike set histories told world woven =
    stands_alike set world.list told woven.list_is.legal
    (λ item there.
    let within = told_within told item there in
    all_in (λ i. stands world.list i ≡ true) item within.0
    (all_in (λ items. All (λ i. stands world.list i ≡ true) items) within.0 told woven.stand within.1) within.2)
    (λ placed there. all_in (λ p. count_by (is_fresh_by p) (all_told told) ≤ 1) placed world.list woven.once there)
