-- Fronts of histories: what stands in them, and what is found there.
use Rattle.std.proofs.Common.{◌≡◌, ℕ, zero, suc, ◌+◌, ◌-◌, ◌<◌, ◌≤◌, Bool, true, List, [], ◌∷◌, ◌++◌, find, take, length, slice_get, Option, Some, None, option_and_then, inl, inr, refl, sym, ap, ◌∙◌, subst, arith}
use Rattle.std.proofs.lemmas.Bool.{cases_lt}
use Rattle.std.proofs.lemmas.Option.{slice_get_within}
use Rattle.lynx_set.specs.Set.{Set}
use Rattle.lynx_entry.specs.declared.entry.Entry.{Entry}
use Rattle.lynx_entry.specs.declared.message.Message.{Message}
use Rattle.lynx_entry.specs.Entry.{History}
use Rattle.lynx_names.specs.declared.chain.ChainId.{ChainId}
use Rattle.lynx_server.specs.Acts.{act_of, is_act}
use Rattle.lynx_server.specs.History.{IsLawfulAfter, IsLawfulHistory}
use Rattle.lynx_world.proofs.Standing.{stands}
use Rattle.lynx_keep.specs.Kept.{KeptState}
use Rattle.lynx_server.specs.Serving.{Serving}
use Rattle.lynx_set.specs.Lookups.{server_at}
use Rattle.lynx_world.specs.Servers.{Servers}
use Rattle.lynx_weave.specs.Senders.{sender_at}
use Rattle.lynx_weave.specs.Servers.{histories_of}
use Rattle.lynx_weave.proofs.Agreements.{history_there}
use Rattle.lynx_weave.proofs.Servings.{many_of}
use Rattle.lynx_weave.specs.Cuts.{fronts}
use Rattle.lynx_weave.proofs.Gets.{found_at, found_none, found_passes, get_take, item}
use Rattle.lynx_weave.proofs.Lawfuls.{IsSole, sole_act}
use Rattle.lynx_weave.proofs.Sending.{AreLawful}

pub one_of : {X : Type 0} (a b : X) (o : Option X) → o ≡ Some a → o ≡ Some b → a ≡ b
one_of a b o is was = let same : Some a ≡ Some b = sym is ∙ was in cc

-- ---- fronts

pub front_at : (counts : List ℕ) (histories : List History) (server count : ℕ) (history : History) → slice_get counts server ≡ Some count →
    slice_get histories server ≡ Some history → slice_get (fronts counts histories) server ≡ Some (take count history)
front_at [] histories server count history is there = cc
front_at (n ∷ counts) [] server count history is there = cc
front_at (n ∷ counts) (h ∷ histories) zero count history is there =
    let same : n ≡ count = cc in
    let alike : h ≡ history = cc in
    ap (λ m. Some (take m h)) same ∙ ap (λ it. Some (take count it)) alike
front_at (n ∷ counts) (h ∷ histories) (suc server) count history is there = front_at counts histories server count history is there

pub length_fronts : (counts : List ℕ) (histories : List History) → length counts ≡ length histories → length (fronts counts histories) ≡ length histories
length_fronts [] histories many = many
length_fronts (n ∷ counts) [] many = refl
length_fronts (n ∷ counts) (h ∷ histories) many =
    let more : length counts ≡ length histories = omega (arith, many) in ap suc (length_fronts counts histories more)

-- a front is that of a history
pub record IsFront (counts : List ℕ) (histories : List History) (server : ℕ) (front : History) : Type 0 where
  pub count : ℕ
  pub history : History
  pub counted : slice_get counts server ≡ Some count
  pub there : slice_get histories server ≡ Some history
  pub front_is : front ≡ take count history

pub front_there : (counts : List ℕ) (histories : List History) (server : ℕ) (front : History) → slice_get (fronts counts histories) server ≡ Some front →
    IsFront counts histories server front
front_there [] histories server front is = cc
front_there (n ∷ counts) [] server front is = cc
front_there (n ∷ counts) (h ∷ histories) zero front is =
    let same : take n h ≡ front = cc in record { count = n; history = h; counted = refl; there = refl; front_is = sym same }
front_there (n ∷ counts) (h ∷ histories) (suc server) front is =
    let later = front_there counts histories server front is in
    record { count = later.count; history = later.history; counted = later.counted; there = later.there; front_is = later.front_is }

pub take_lawful : (set : Set) (server : ℕ) (before history : History) (n : ℕ) → IsLawfulAfter set server before history → IsLawfulAfter set server before (take n history)
take_lawful set server before history zero lawful = tt
take_lawful set server before [] (suc n) lawful = tt
take_lawful set server before (entry ∷ history) (suc n) lawful = (lawful.0, take_lawful set server (before ++ entry ∷ []) history n lawful.1)

pub fronts_lawful : (set : Set) (counts : List ℕ) (histories : List History) → AreLawful set histories → AreLawful set (fronts counts histories)
fronts_lawful set counts histories lawful server front there =
    let of = front_there counts histories server front there in
    subst (IsLawfulHistory set server) (sym of.front_is) (take_lawful set server [] of.history of.count (lawful server of.history of.there))

-- ---- what is found in a front

pub take_short : {X : Type 0} (n : ℕ) (xs : List X) → length (take n xs) ≤ n
take_short zero xs = omega arith
take_short (suc n) [] = omega arith
take_short (suc n) (x ∷ xs) = let short = take_short n xs in omega (arith, short)

-- what is found in a front stands there
pub in_front : {X : Type 0} (xs : List X) (n i : ℕ) (x : X) → slice_get (take n xs) i ≡ Some x → (i < n) × (slice_get xs i ≡ Some x)
in_front xs n i x is =
    let within = slice_get_within (take n xs) i x is in
    let short = take_short n xs in
    let below : i < n = omega (arith, within, short) in
    (below, sym (get_take xs n i below) ∙ is)

pub found_inside : (test : Entry → Bool) (history : History) (n i : ℕ) (entry : Entry) → IsSole test history → i < n → slice_get history i ≡ Some entry →
    test entry ≡ true → find test (take n history) ≡ Some entry
found_inside test history n i entry sole below there passes = by (find test (take n history)) refl
  where
    by : (o : Option Entry) → find test (take n history) ≡ o → find test (take n history) ≡ Some entry
    by None none = absurd (found_none test (take n history) i entry none (get_take history n i below ∙ there) passes)
    by (Some other) found =
        let at = found_at test (take n history) other found in
        let inside = in_front history n at.0 other at.1 in
        let same = sole at.0 i other entry inside.1 there (found_passes test (take n history) other found) passes in
        let alike = one_of other entry (slice_get history i) (ap (slice_get history) (sym same) ∙ inside.1) there in
        found ∙ ap Some alike

pub found_outside : (test : Entry → Bool) (history : History) (n i : ℕ) (entry : Entry) → IsSole test history → n ≤ i → slice_get history i ≡ Some entry →
    test entry ≡ true → find test (take n history) ≡ None
found_outside test history n i entry sole above there passes = by (find test (take n history)) refl
  where
    by : (o : Option Entry) → find test (take n history) ≡ o → find test (take n history) ≡ None
    by None none = none
    by (Some other) found =
        let at = found_at test (take n history) other found in
        let inside = in_front history n at.0 other at.1 in
        let same = sole at.0 i other entry inside.1 there (found_passes test (take n history) other found) passes in
        let below = inside.0 in absurd (omega (arith, same, below, above))

pub found_nowhere : (test : Entry → Bool) (history : History) (n : ℕ) → find test history ≡ None → find test (take n history) ≡ None
found_nowhere test history n none = by (find test (take n history)) refl
  where
    by : (o : Option Entry) → find test (take n history) ≡ o → find test (take n history) ≡ None
    by None is = is
    by (Some other) found =
        let at = found_at test (take n history) other found in
        let inside = in_front history n at.0 other at.1 in
        absurd (found_none test history at.0 other none inside.1 (found_passes test (take n history) other found))

-- the act of a hop in a front, by its place in the history
pub act_inside : (set : Set) (server : ℕ) (history : History) (chain : ChainId) (hop n place : ℕ) → IsLawfulHistory set server history → place < n →
    place < length history → slice_get history place ≡ act_of chain hop history → slice_get history place ≡ act_of chain hop (take n history)
act_inside set server history chain hop n place lawful below within is =
    let here = item history place within in
    let act : act_of chain hop history ≡ Some here.0 = sym is ∙ here.1 in
    here.1 ∙ sym (found_inside (is_act chain hop) history n place here.0 (sole_act set server history chain hop lawful) below here.1
    (found_passes (is_act chain hop) history here.0 act))

pub act_outside : (set : Set) (server : ℕ) (history : History) (chain : ChainId) (hop n place : ℕ) → IsLawfulHistory set server history → n ≤ place →
    place < length history → slice_get history place ≡ act_of chain hop history → act_of chain hop (take n history) ≡ None
act_outside set server history chain hop n place lawful above within is =
    let here = item history place within in
    let act : act_of chain hop history ≡ Some here.0 = sym is ∙ here.1 in
    found_outside (is_act chain hop) history n place here.0 (sole_act set server history chain hop lawful) above here.1
    (found_passes (is_act chain hop) history here.0 act)

-- ---- the entry of a hop among those that were taken

pub beyond : {X : Type 0} (xs : List X) (i : ℕ) → length xs ≤ i → slice_get xs i ≡ None
beyond xs i above = by (slice_get xs i) refl
  where
    by : (o : Option _) → slice_get xs i ≡ o → slice_get xs i ≡ None
    by None none = none
    by (Some x) there = let within = slice_get_within xs i x there in absurd (omega (arith, above, within))

pub ended_by : {X : Type 0} (xs : List X) (i : ℕ) → slice_get xs i ≡ None → length xs ≤ i
ended_by xs i nothing = elim (cases_lt i (length xs)) [
  | inl inside ↦ let there = item xs i inside in let both = sym there.1 ∙ nothing in cc
  | inr outside ↦ outside
]

-- at a server that there isn't nothing was sent
pub sender_nowhere : (set : Set) (servers : Servers) (counts : List ℕ) (message : Message) (before server : ℕ) → length counts ≡ length servers →
    server_at set message.program before ≡ Some server → length servers ≤ server →
    sender_at set (fronts counts (histories_of servers)) message before ≡ None
sender_nowhere set servers counts message before server many home above =
    let histories = many_of servers in
    let whole = length_fronts counts (histories_of servers) (many ∙ sym histories) in
    let none = beyond (fronts counts (histories_of servers)) server (omega (arith, above, histories, whole)) in
    ap (λ s. option_and_then (act_of message.chain before) (option_and_then (slice_get (fronts counts (histories_of servers))) s)) home
    ∙ ap (option_and_then (act_of message.chain before)) none

-- at a server it is the act among those that were taken there
pub sender_front : (set : Set) (servers : Servers) (counts : List ℕ) (message : Message) (before server count : ℕ) (here : Serving KeptState) →
    server_at set message.program before ≡ Some server → slice_get servers server ≡ Some here → slice_get counts server ≡ Some count →
    sender_at set (fronts counts (histories_of servers)) message before ≡ act_of message.chain before (take count here.history)
sender_front set servers counts message before server count here home there counted =
    ap (λ s. option_and_then (act_of message.chain before) (option_and_then (slice_get (fronts counts (histories_of servers))) s)) home
    ∙ ap (option_and_then (act_of message.chain before)) (front_at counts (histories_of servers) server count here.history counted (history_there servers server here there))
