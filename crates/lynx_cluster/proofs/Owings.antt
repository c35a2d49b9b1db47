-- The messages that a server owes, found one after another.
use Rattle.std.proofs.Common.{◌≡◌, ◌∙◌, ◌⊎◌, ℕ, ◌+◌, ◌<◌, ◌≤◌, List, [], ◌∷◌, ◌++◌, length, length-take, max, take, Option, None, Some, inl, inr, sym, ap, subst, arith}
use Rattle.std.specs.Prelude.{IfSome, MatchOption, slice_get}
use Rattle.std.proofs.lemmas.Bool.{cases_lt}
use Rattle.std.proofs.lemmas.Option.{slice_get_within}
use Rattle.lynx_entry.specs.declared.entry.Entry.{Entry}
use Rattle.lynx_entry.specs.declared.entry.Entry.TheVariants.{Begun, Refused, Hop as HopRan}
use Rattle.lynx_entry.specs.declared.message.Message.{Message}
use Rattle.lynx_entry.specs.Entry.{History}
use Rattle.lynx_names.specs.declared.limits.TheConstants.{MAX_ENTRIES}
use Rattle.lynx_rules.specs.Lawful.{IsLawful}
use Rattle.lynx_server.specs.History.{IsLawfulHistory}
use Rattle.lynx_server.proofs.InHistory.{lawful_in}
use Rattle.lynx_server.specs.Owed.{IsOwed, OwesNothingBetween}
use Rattle.lynx_server.specs.Serving.{Serving}
use Rattle.lynx_set.specs.Lookups.{server_at}
use Rattle.lynx_set.specs.Set.{Set}
use Rattle.lynx_worker.specs.declared.steps.Due.{Due}
use Rattle.lynx_worker.specs.declared.steps.Owed.{Owed}
use Rattle.lynx_cluster.specs.inner.Serving.{AddsFound, AreOwed, AreOwedBetween, AreRising, HasPlace, IsDueOf, OwesFrom, OwesOnlyAt}

nothing_on : {K : Type 0} (serving : Serving K) (from mid to : ℕ) → OwesNothingBetween serving from mid → OwesNothingBetween serving mid to → OwesNothingBetween serving from to
nothing_on serving from mid to first second other low high message owed = elim (cases_lt other mid) [
  | inl below ↦ first other low below message owed
  | inr past ↦ second other past high message owed
]

nothing_here : {K : Type 0} (serving : Serving K) (from : ℕ) → OwesNothingBetween serving from from
nothing_here serving from other low high message owed = absurd (omega (arith, low, high))

pub owed_none : {K : Type 0} (serving : Serving K) (from : ℕ) → AreOwedBetween serving from [] from
owed_none serving from = (omega arith, nothing_here serving from)

pub owed_upto : {K : Type 0} (serving : Serving K) (from : ℕ) (dues : List Due) (to : ℕ) → AreOwedBetween serving from dues to → from ≤ to
owed_upto serving from [] to are = are.0
owed_upto serving from (due ∷ dues) to are = let later = owed_upto serving (due.place + 1) dues to are.4 in let low = are.0 in omega (arith, later, low)

-- behind these nothing is owed
pub owed_end : {K : Type 0} (serving : Serving K) (from : ℕ) (dues : List Due) (mid to : ℕ) → AreOwedBetween serving from dues mid → mid ≤ to → OwesNothingBetween serving mid to →
    AreOwedBetween serving from dues to
owed_end serving from [] mid to are below rest = (let low = are.0 in omega (arith, low, below), nothing_on serving from mid to are.1 rest)
owed_end serving from (due ∷ dues) mid to are below rest = (are.0, are.1, are.2, are.3, owed_end serving (due.place + 1) dues mid to are.4 below rest)

-- the next that is owed
pub owed_more : {K : Type 0} (serving : Serving K) (from : ℕ) (dues : List Due) (mid : ℕ) (due : Due) → AreOwedBetween serving from dues mid → mid ≤ due.place →
    OwesNothingBetween serving mid due.place → IsOwed serving due.place due.message →
    server_at serving.set due.message.program due.message.hop ≡ Some due.to → AreOwedBetween serving from (dues ++ due ∷ []) (due.place + 1)
owed_more serving from [] mid due are above rest owed to =
    (let low = are.0 in omega (arith, low, above), nothing_on serving from mid due.place are.1 rest, owed, to, owed_none serving (due.place + 1))
owed_more serving from (one ∷ dues) mid due are above rest owed to =
    (are.0, are.1, are.2, are.3, owed_more serving (one.place + 1) dues mid due are.4 above rest owed to)

-- the message that is found, with its server, is the next
pub due_more : {K : Type 0} (serving : Serving K) (from : ℕ) (dues : List Due) (mid place : ℕ) (message : Message) (due : Due) → AreOwedBetween serving from dues mid → mid ≤ place →
    OwesNothingBetween serving mid place → IsOwed serving place message → IsDueOf serving.set place message due →
    AreOwedBetween serving from (dues ++ due ∷ []) (place + 1)
due_more serving from dues mid place message due are above rest owed is =
    subst (λ (n : ℕ). AreOwedBetween serving from (dues ++ due ∷ []) (n + 1)) is.place_is
    (owed_more serving from dues mid due are (let same = is.place_is in omega (arith, above, same))
    (subst (λ (n : ℕ). OwesNothingBetween serving mid n) (sym is.place_is) rest)
    (subst (λ (n : ℕ). IsOwed serving n due.message) (sym is.place_is) (subst (λ (m : Message). IsOwed serving place m) (sym is.message_is) owed))
    (subst (λ (m : Message). server_at serving.set m.program m.hop ≡ Some due.to) (sym is.message_is) is.to_is))

pub owed_within : {K : Type 0} (serving : Serving K) (place : ℕ) (message : Message) → IsOwed serving place message → place < length serving.history
owed_within serving place message owed = slice_get_within serving.history place owed.entry owed.there

-- a lawful history has so few entries
room_of : (set : Set) (server : ℕ) (history : History) (entry : Entry) → IsLawful set server history entry → length history < MAX_ENTRIES
room_of set server history (Begun begun) lawful = lawful.room.entries
room_of set server history (Refused refused) lawful = lawful.room.entries
room_of set server history (HopRan ran) lawful = lawful.room.entries

pub owed_few : {K : Type 0} (serving : Serving K) (place : ℕ) (message : Message) → IsLawfulHistory serving.set serving.server serving.history → IsOwed serving place message →
    place < MAX_ENTRIES
owed_few serving place message lawful owed =
    let within = owed_within serving place message owed in
    let room = room_of serving.set serving.server (take place serving.history) owed.entry (lawful_in serving.set serving.server serving.history place owed.entry lawful owed.there) in
    let many = length-take place serving.history in
    omega (arith, within, room, many)

-- ---- from a place on

abbrev OwesUpTo : {K : Type 0} → Serving K → ℕ → ℕ → ℕ → Type 0
OwesUpTo serving from next len = (len ≡ length serving.history) × (next ≡ max from len)

-- nothing is owed behind all entries
pub owes_past : {K : Type 0} (serving : Serving K) (owed : Owed) (len : ℕ) → owed.dues.items ≡ [] → owed.end ≡ Some len → len ≡ length serving.history → len ≤ owed.from →
    OwesFrom serving owed
owes_past serving owed len none is all past = record {
  next = owed.from;
  between = subst (λ (dues : List Due). AreOwedBetween serving owed.from dues owed.from) (sym none) (owed_none serving owed.from);
  end = subst (λ (end : Option ℕ). IfSome end (OwesUpTo serving owed.from owed.from)) (sym is) (all, omega (arith, past));
}

-- nothing was looked for
pub owes_unasked : {K : Type 0} (serving : Serving K) (owed : Owed) → owed.dues.items ≡ [] → owed.end ≡ None → OwesFrom serving owed
owes_unasked serving owed none is = record {
  next = owed.from;
  between = subst (λ (dues : List Due). AreOwedBetween serving owed.from dues owed.from) (sym none) (owed_none serving owed.from);
  end = subst (λ (end : Option ℕ). IfSome end (OwesUpTo serving owed.from owed.from)) (sym is) tt;
}

-- these were found
pub owes_found : {K : Type 0} (serving : Serving K) (owed : Owed) (dues : List Due) (end : Option ℕ) → owed.dues.items ≡ dues → owed.end ≡ end →
    MatchOption end ((next : ℕ) × AreOwedBetween serving owed.from dues next) (λ len. (len ≡ length serving.history) × AreOwedBetween serving owed.from dues len) →
    OwesFrom serving owed
owes_found serving owed dues None are is found = record {
  next = found.0;
  between = subst (λ (l : List Due). AreOwedBetween serving owed.from l found.0) (sym are) found.1;
  end = subst (λ (e : Option ℕ). IfSome e (OwesUpTo serving owed.from found.0)) (sym is) tt;
}
owes_found serving owed dues (Some len) are is found = record {
  next = len;
  between = subst (λ (l : List Due). AreOwedBetween serving owed.from l len) (sym are) found.1;
  end = subst (λ (e : Option ℕ). IfSome e (OwesUpTo serving owed.from len)) (sym is)
      (found.0, let upto = owed_upto serving owed.from dues len found.1 in omega (arith, upto));
}

-- ---- at places that are asked for

pub has_more : (dues : List Due) (due : Due) (place : ℕ) → HasPlace dues place → HasPlace (dues ++ due ∷ []) place
has_more [] due place has = absurd has
has_more (one ∷ dues) due place (inl same) = inl same
has_more (one ∷ dues) due place (inr later) = inr (has_more dues due place later)

has_last : (dues : List Due) (due : Due) (place : ℕ) → due.place ≡ place → HasPlace (dues ++ due ∷ []) place
has_last [] due place same = inl same
has_last (one ∷ dues) due place same = inr (has_last dues due place same)

owed_last : {K : Type 0} (serving : Serving K) (dues : List Due) (due : Due) → IsOwed serving due.place due.message →
    server_at serving.set due.message.program due.message.hop ≡ Some due.to → AreOwed serving dues → AreOwed serving (dues ++ due ∷ [])
owed_last serving [] due owed to are = ((owed, to), tt)
owed_last serving (one ∷ dues) due owed to are = (are.0, owed_last serving dues due owed to are.1)

-- the places before the number were gone over, and those behind it are not below one from which on nothing is owed up to a clear one
pub record AreGoneOver {K : Type 0} (serving : Serving K) (places : List ℕ) (number clear : ℕ) (dues : List Due) : Type 0 where
  pub owed : AreOwed serving dues
  pub before : AreRising places → (k place : ℕ) (message : Message) → k < number → slice_get places k ≡ Some place → IsOwed serving place message → HasPlace dues place
  pub low : ℕ
  pub nothing : OwesNothingBetween serving low clear
  pub behind : AreRising places → (k place : ℕ) → number ≤ k → slice_get places k ≡ Some place → low ≤ place

pub gone_none : {K : Type 0} (serving : Serving K) (places : List ℕ) → AreGoneOver serving places 0 0 []
gone_none serving places = record {
  owed = tt;
  before = λ rising k place message below there owed. absurd (omega (arith, below));
  low = 0;
  nothing = nothing_here serving 0;
  behind = λ rising k place upto there. omega arith;
}

same_place : (places : List ℕ) (k number one other : ℕ) → k ≡ number → slice_get places k ≡ Some one → slice_get places number ≡ Some other → one ≡ other
same_place places k number one other same there is = let both = sym there ∙ ap (slice_get places) same ∙ is in cc

-- a place that is below the clear one owes nothing
pub gone_by : {K : Type 0} (serving : Serving K) (places : List ℕ) (number clear : ℕ) (dues : List Due) (here : ℕ) → slice_get places number ≡ Some here → here < clear →
    AreGoneOver serving places number clear dues → AreGoneOver serving places (number + 1) clear dues
gone_by serving places number clear dues here there below gone = record {
  owed = gone.owed;
  before = λ rising k place message upto at owed. elim (cases_lt k number) [
    | inl earlier ↦ gone.before rising k place message earlier at owed
    | inr last ↦
        let same : place ≡ here = same_place places k number place here (omega (arith, upto, last)) at there in
        absurd (gone.nothing place (let low = gone.behind rising number here (omega arith) there in omega (arith, low, same)) (omega (arith, same, below)) message owed)
  ];
  low = gone.low;
  nothing = gone.nothing;
  behind = λ rising k place upto at. gone.behind rising k place (omega (arith, upto)) at;
}

-- the first that is owed from a place on was found
pub gone_on : {K : Type 0} (serving : Serving K) (places : List ℕ) (number clear : ℕ) (old new : List Due) (here found : ℕ) (message : Message) →
    slice_get places number ≡ Some here → here ≤ found → IsOwed serving found message → OwesNothingBetween serving here found →
    AddsFound serving.set here found message old new → AreGoneOver serving places number clear old → AreGoneOver serving places (number + 1) found new
gone_on {K} serving places number clear old new here found message there low owes nothing adds gone = record {
  owed = all_owed adds;
  before = λ rising k place other upto at owed. elim (cases_lt k number) [
    | inl earlier ↦ kept adds place (gone.before rising k place other earlier at owed)
    | inr last ↦
        let same : place ≡ here = same_place places k number place here (omega (arith, upto, last)) at there in
        now adds place other same owed
  ];
  low = here;
  nothing = nothing;
  behind = λ rising k place upto at. rising number k here place (omega (arith, upto)) there at;
}
  where
    all_owed : AddsFound serving.set here found message old new → AreOwed serving new
    all_owed (inl none) = subst (AreOwed serving) (sym none.1) gone.owed
    all_owed (inr one) =
        let due = one.1.0 in
        let is = one.1.1 in
        subst (AreOwed serving) (sym one.1.2)
        (owed_last serving old due
        (subst (λ (n : ℕ). IsOwed serving n due.message) (sym is.place_is) (subst (λ (m : Message). IsOwed serving found m) (sym is.message_is) owes))
        (subst (λ (m : Message). server_at serving.set m.program m.hop ≡ Some due.to) (sym is.message_is) is.to_is) gone.owed)

    kept : AddsFound serving.set here found message old new → (place : ℕ) → HasPlace old place → HasPlace new place
    kept (inl none) place has = subst (λ (dues : List Due). HasPlace dues place) (sym none.1) has
    kept (inr one) place has = subst (λ (dues : List Due). HasPlace dues place) (sym one.1.2) (has_more old one.1.0 place has)

    now : AddsFound serving.set here found message old new → (place : ℕ) (other : Message) → place ≡ here → IsOwed serving place other → HasPlace new place
    now (inl none) place other same owed = elim (cases_lt here found) [
      | inl below ↦ absurd (nothing place (omega (arith, same)) (omega (arith, same, below)) other owed)
      | inr above ↦ absurd (none.0 (omega (arith, above, low)))
    ]
    now (inr one) place other same owed =
        subst (λ (dues : List Due). HasPlace dues place) (sym one.1.2)
        (has_last old one.1.0 place (let is = one.1.1.place_is in let at = one.0 in omega (arith, is, at, same)))

-- all were gone over
pub gone_all : {K : Type 0} (serving : Serving K) (places : List ℕ) (number clear : ℕ) (dues : List Due) → length places ≤ number →
    AreGoneOver serving places number clear dues → AreRising places → OwesOnlyAt serving places dues
gone_all serving places number clear dues all gone rising k place message at owed =
    let within = slice_get_within places k place at in
    gone.before rising k place message (omega (arith, all, within)) at owed

-- .. and so were they where nothing is owed from the next place on
pub gone_past : {K : Type 0} (serving : Serving K) (places : List ℕ) (number clear : ℕ) (dues : List Due) (here : ℕ) → slice_get places number ≡ Some here →
    OwesNothingBetween serving here (length serving.history) → AreGoneOver serving places number clear dues → AreRising places → OwesOnlyAt serving places dues
gone_past serving places number clear dues here there nothing gone rising k place message at owed = elim (cases_lt k number) [
  | inl earlier ↦ gone.before rising k place message earlier at owed
  | inr past ↦ absurd (nothing place (above past (cases_lt number k)) (owed_within serving place message owed) message owed)
]
  where
    above : number ≤ k → (number < k) ⊎ (k ≤ number) → here ≤ place
    above past (inl behind) = rising number k here place behind there at
    above past (inr upto) = let same : here ≡ place = same_place places number k here place (omega (arith, past, upto)) there at in omega (arith, same)
