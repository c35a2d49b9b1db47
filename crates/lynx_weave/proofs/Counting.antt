-- How many items are fresh and tell of one server, and how many of its entries answer a begin.
use Rattle.std.proofs.Common.{◌≡◌, ◌≢◌, ℕ, zero, suc, ◌+◌, ◌<◌, ◌≤◌, ◌&&◌, ◌++◌, Bool, true, false, cond, nat_eq, eq-eqb, List, [], ◌∷◌, take, length, slice_get, Option, Some, None, drop, get_or, count_by, inl, inr, refl, sym, ap, ◌∙◌, subst, arith}
use Rattle.std.specs.Prelude.{slice_index, unwrap_or}
use Rattle.std.proofs.lemmas.Bool.{eqb-true}
use Rattle.std.proofs.lemmas.Bool.Decides.{eqb_tells}
use Rattle.std.proofs.lemmas.List.Concat.{flat_map-cons}
use Rattle.std.proofs.Math.ListN.{drop_of_length-le}
use Rattle.std.proofs.lemmas.List.{append-nil}
use Rattle.std.proofs.lemmas.List.Sums.{sum_by-cons, sum_by_more_le}
use Rattle.std.proofs.lemmas.Option.{slice_get_within}
use Rattle.lynx_names.specs.declared.limits.TheConstants.{MAX_ENTRIES}
use Rattle.lynx_set.specs.Set.{Set}
use Rattle.lynx_entry.specs.Entry.{History}
use Rattle.lynx_keep.specs.Kept.{KeptState}
use Rattle.lynx_server.specs.History.{IsLawfulHistory}
use Rattle.lynx_server.specs.Serving.{Serving}
use Rattle.lynx_server.proofs.InHistory.{lawful_in}
use Rattle.lynx_world.specs.Servers.{Servers}
use Rattle.lynx_world.proofs.Once.{both}
use Rattle.lynx_weave.specs.declared.told.ToldItem.{ToldItem}
use Rattle.lynx_weave.specs.inner.Judging.{AreAllWellTold, StandsIn, agrees_at, is_fresh_at, is_full_here}
use Rattle.lynx_weave.specs.inner.Rebuilt.{AreRebuilt}
use Rattle.lynx_weave.specs.Servers.{histories_of}
use Rattle.lynx_weave.specs.Since.{answers_begin, counts_at, is_fresh_of}
use Rattle.lynx_weave.specs.Told.{bears, is_fresh, server_told, tells_full}
use Rattle.lynx_weave.specs.Weaving.{all_told}
use Rattle.lynx_weave.proofs.Bridging.{agrees_by}
use Rattle.lynx_weave.proofs.Agreements.{history_there}
use Rattle.lynx_weave.proofs.Gets.{item, take_whole}
use Rattle.lynx_weave.proofs.Lawfuls.{few_before}
use Rattle.lynx_weave.proofs.Marking.{count_joined, full_stale, told_next}
use Rattle.lynx_weave.proofs.Sending.{entry_there}
use Rattle.lynx_weave.proofs.Servings.{lawful_all}

-- ---- sums over the numbers below another

abbrev sum_below : (ℕ → ℕ) → ℕ → ℕ
sum_below f zero = 0
sum_below f (suc n) = sum_below f n + f n

sum_two : (f g h : ℕ → ℕ) (n : ℕ) → ((k : ℕ) → h k ≡ f k + g k) → sum_below h n ≡ sum_below f n + sum_below g n
sum_two f g h zero each = refl
sum_two f g h (suc n) each = let rest = sum_two f g h n each in let here = each n in omega arith

sum_few : (f : ℕ → ℕ) (n : ℕ) → ((k : ℕ) → f k ≤ 1) → sum_below f n ≤ n
sum_few f zero few = omega arith
sum_few f (suc n) few = let rest = sum_few f n few in let here = few n in omega arith

sum_some : (f : ℕ → ℕ) (n k : ℕ) → k < n → f k ≤ sum_below f n
sum_some f zero k below = absurd (omega arith)
sum_some f (suc n) k below = elim (eqb_tells k n) [
  | inl same ↦ let is : f k ≡ f n = ap f same.1 in omega arith
  | inr differs ↦ let apart : k ≢ n = differs.1 in let rest = sum_some f n k (omega arith) in omega arith
]

-- ---- each item of a list

abbrev Each : (ToldItem → Type 0) → List ToldItem → Type 0
Each P [] = Unit {0}
Each P (told ∷ items) = P told × Each P items

each_place : (P : ToldItem → Type 0) (items : List ToldItem) → ((place : ℕ) (told : ToldItem) → slice_get items place ≡ Some told → P told) → Each P items
each_place P [] all = tt
each_place P (told ∷ items) all = (all 0 told refl, each_place P items (λ place one there. all (suc place) one there))

each_joined : (P : ToldItem → Type 0) (left right : List ToldItem) → Each P left → Each P right → Each P (left ++ right)
each_joined P [] right here there = there
each_joined P (told ∷ left) right here there = (here.0, each_joined P left right here.1 there)

each_told : (P : ToldItem → Type 0) (told : List (List ToldItem)) →
    ((session : ℕ) (items : List ToldItem) → slice_get told session ≡ Some items → Each P items) → Each P (all_told told)
each_told P [] all = tt
each_told P (items ∷ told) all =
    rw flat_map-cons
    (each_joined P items (all_told told) (all 0 items refl) (each_told P told (λ session one there. all (suc session) one there)))

-- ---- an entry for each fresh item

-- if the item is fresh and tells of the server, it is so by one of its first entries
abbrev IsByOne : List History → ℕ → ℕ → ToldItem → Type 0
IsByOne histories server many told = is_fresh_of server told ≡ true → (place : ℕ) × (place < many) × (is_fresh_at histories server place told ≡ true)

one_more : (histories : List History) (server many : ℕ) (told : ToldItem) → IsByOne histories server many told →
    cond (is_fresh_of server told) 1 0 ≤ sum_below (λ place. cond (is_fresh_at histories server place told) 1 0) many
one_more histories server many told by_one = by (is_fresh_of server told) by_one
  where
    by : (b : Bool) → (b ≡ true → (place : ℕ) × (place < many) × (is_fresh_at histories server place told ≡ true)) →
        cond b 1 0 ≤ sum_below (λ place. cond (is_fresh_at histories server place told) 1 0) many
    by false some = omega arith
    by true some =
        let one = some refl in
        subst (λ n. n ≤ sum_below (λ place. cond (is_fresh_at histories server place told) 1 0) many) (ap (λ b. cond b 1 0) one.2)
        (sum_some (λ place. cond (is_fresh_at histories server place told) 1 0) many one.0 one.1)

fresh_below : (histories : List History) (server many : ℕ) (items : List ToldItem) → Each (IsByOne histories server many) items →
    count_by (is_fresh_of server) items ≤ sum_below (λ place. count_by (is_fresh_at histories server place) items) many
fresh_below histories server many [] each = omega arith
fresh_below histories server many (told ∷ items) each =
    let rest = fresh_below histories server many items each.1 in
    let here = one_more histories server many told each.0 in
    let split : count_by (is_fresh_of server) (told ∷ items) ≡ cond (is_fresh_of server told) 1 0 + count_by (is_fresh_of server) items =
    sum_by-cons (λ t. cond (is_fresh_of server t) 1 0) told items in
    let sums = sum_two (λ place. cond (is_fresh_at histories server place told) 1 0) (λ place. count_by (is_fresh_at histories server place) items)
    (λ place. count_by (is_fresh_at histories server place) (told ∷ items)) many
    (λ place. sum_by-cons (λ t. cond (is_fresh_at histories server place t) 1 0) told items) in
    omega arith

by_one : (histories : List History) (server : ℕ) (told : ToldItem) → StandsIn histories told →
    IsByOne histories server (length (unwrap_or (slice_get histories server) [])) told
by_one histories server told (inl (other, place, agreed)) fresh =
    let parts = both (is_fresh told) (nat_eq (server_told told) server) fresh in
    let one = agrees_by histories told other place agreed in
    let home = eqb-true other (server_told told) (both (nat_eq other (server_told told)) (bears told one.entry) one.agrees_so).0 in
    let same : other ≡ server = home ∙ eqb-true (server_told told) server parts.1 in
    let at = entry_there histories other place one.entry one.there in
    let many : length (unwrap_or (slice_get histories server) []) ≡ length at.0 =
    ap (λ n. length (unwrap_or (slice_get histories n) [])) (sym same) ∙ ap (λ h. length (unwrap_or h [])) at.1 in
    let within = slice_get_within at.0 place one.entry at.2 in
    (place, omega arith, ap (λ b. b && agrees_at histories told server place) parts.0 ∙ ap (λ n. agrees_at histories told n place) (sym same) ∙ agreed)
by_one histories server told (inr full) fresh =
    let parts = both (is_fresh told) (nat_eq (server_told told) server) fresh in
    let full_so = both (tells_full told) (is_full_here histories (server_told told)) full in
    let never = sym parts.0 ∙ full_stale told full_so.0 in cc

-- no more items are fresh and tell of a server than it has entries
fresh_few : (histories : List History) (starts : List ℕ) (told : List (List ToldItem)) (server : ℕ) → AreAllWellTold histories starts told →
    count_by (is_fresh_of server) (all_told told) ≤ length (unwrap_or (slice_get histories server) [])
fresh_few histories starts told server well =
    let below = fresh_below histories server (length (unwrap_or (slice_get histories server) [])) (all_told told)
    (each_told (IsByOne histories server (length (unwrap_or (slice_get histories server) []))) told
    (λ session items there. each_place (IsByOne histories server (length (unwrap_or (slice_get histories server) []))) items
    (λ place one at. by_one histories server one (well.each session items there place one at).stands))) in
    let few = sum_few (λ place. count_by (is_fresh_at histories server place) (all_told told)) (length (unwrap_or (slice_get histories server) []))
    (well.once server) in
    omega arith

-- ---- a lawful history has no more entries than there may be

length_take : (history : History) (n : ℕ) → n ≤ length history → length (take n history) ≡ n
length_take history zero low = refl
length_take [] (suc n) low = absurd (omega arith)
length_take (entry ∷ history) (suc n) low = ap suc (length_take history n (omega arith))

few_lawful : (set : Set) (server : ℕ) (history : History) → IsLawfulHistory set server history → length history ≤ MAX_ENTRIES
few_lawful set server history lawful = by (length history) refl
  where
    by : (n : ℕ) → length history ≡ n → n ≤ MAX_ENTRIES
    by zero is = omega arith
    by (suc n) is =
        let last = item history n (omega arith) in
        let few = few_before set server (take n history) last.0 (lawful_in set server history n last.0 lawful last.1) in
        let long = length_take history n (omega arith) in omega arith

pub fresh_fits : (set : Set) (servers : Servers) (starts : List ℕ) (told : List (List ToldItem)) → AreRebuilt set servers →
    AreAllWellTold (histories_of servers) starts told → (server : ℕ) → count_by (is_fresh_of server) (all_told told) ≤ MAX_ENTRIES
fresh_fits set servers starts told are well server =
    let fresh = fresh_few (histories_of servers) starts told server well in
    let few = by (slice_get (histories_of servers) server) refl in
    omega arith
  where
    by : (o : Option History) → slice_get (histories_of servers) server ≡ o → length (unwrap_or (slice_get (histories_of servers) server) []) ≤ MAX_ENTRIES
    by None there = let is : length (unwrap_or (slice_get (histories_of servers) server) []) ≡ 0 = ap (λ h. length (unwrap_or h [])) there in omega arith
    by (Some history) there =
        let is : length (unwrap_or (slice_get (histories_of servers) server) []) ≡ length history = ap (λ h. length (unwrap_or h [])) there in
        let few = few_lawful set server history (lawful_all set servers are server history there) in omega arith

-- ---- counting on

-- there is room for one more
pub room_for : (items : List ToldItem) (place server : ℕ) (told : ToldItem) → place < length items → told ≡ get_or items place told →
    is_fresh told ≡ true → server ≡ server_told told →
    count_by (is_fresh_of server) (take place items) + 1 ≤ count_by (is_fresh_of server) items
room_for items place server told within there fresh of =
    let test : is_fresh_of server (get_or items place told) ≡ true =
    ap (is_fresh_of server) (sym there) ∙ ap (λ b. b && nat_eq (server_told told) server) fresh ∙ eq-eqb (server_told told) server (sym of) in
    subst (λ n. count_by (is_fresh_of server) (take place items) + n ≤ count_by (is_fresh_of server) items) (ap (λ b. cond b 1 0) test)
    (sum_by_more_le (λ t. cond (is_fresh_of server t) 1 0) items place told within)

-- a slice written back is the vector
pub written : (old new : List ℕ) (many : ℕ) → length new ≡ length old → many ≡ length old → take many (new ++ drop (length new) old) ≡ new
written old new many same whole =
    ap (λ l. take many (new ++ l)) (drop_of_length-le old {i = length new} (omega arith))
    ∙ ap (take many) (append-nil new) ∙ take_whole new many (omega arith)

-- with the items of one session more
pub session_more : (told : List (List ToldItem)) (session server : ℕ) (items : List ToldItem) → slice_get told session ≡ Some items →
    count_by (is_fresh_of server) (all_told (take (session + 1) told))
    ≡ count_by (is_fresh_of server) (all_told (take session told)) + count_by (is_fresh_of server) items
session_more told session server items there =
    ap (count_by (is_fresh_of server)) (told_next told session items there)
    ∙ count_joined (is_fresh_of server) (all_told (take session told)) items

-- the items of the first session, and of the others
first_session : (server : ℕ) (items : List ToldItem) (told : List (List ToldItem)) →
    count_by (is_fresh_of server) (all_told (items ∷ told)) ≡ count_by (is_fresh_of server) items + count_by (is_fresh_of server) (all_told told)
first_session server items told =
    ap (count_by (is_fresh_of server)) (flat_map-cons (λ (l : List ToldItem). l) items told)
    ∙ count_joined (is_fresh_of server) items (all_told told)

-- .. which are among all
pub session_room : (told : List (List ToldItem)) (session server : ℕ) (items : List ToldItem) → slice_get told session ≡ Some items →
    count_by (is_fresh_of server) (all_told (take session told)) + count_by (is_fresh_of server) items ≤ count_by (is_fresh_of server) (all_told told)
session_room [] session server items there = cc
session_room (first ∷ told) zero server items there =
    let same : first ≡ items = cc in
    let is : count_by (is_fresh_of server) first ≡ count_by (is_fresh_of server) items = ap (count_by (is_fresh_of server)) same in
    let all = first_session server first told in
    omega arith
session_room (first ∷ told) (suc session) server items there =
    let rest = session_room told session server items there in
    let all = first_session server first told in
    let some = first_session server first (take session told) in
    omega arith

-- the counts of a server
pub counts_there : (servers : Servers) (starts : List ℕ) (items : List ToldItem) (number fresh begins : ℕ) (here : Serving KeptState) →
    slice_get servers number ≡ Some here → fresh ≡ count_by (is_fresh_of number) items →
    begins ≡ count_by answers_begin (drop (slice_index starts number) here.history) →
    record { fresh = fresh; begins = begins } ≡ counts_at (histories_of servers) starts items number
counts_there servers starts items number fresh begins here there fresh_is begins_is =
    let begins_all : begins ≡ (counts_at (histories_of servers) starts items number).begins =
    begins_is ∙ ap (λ h. count_by answers_begin (drop (slice_index starts number) (unwrap_or h []))) (sym (history_there servers number here there)) in
    λ i. record { fresh = fresh_is i; begins = begins_all i }
