-- The least of the next entries, server by server.
use Rattle.std.proofs.Common.{◌≡◌, ◌≢◌, ℕ, ◌+◌, ◌<◌, ◌≤◌, Bool, true, false, cond, nat_lt, List, length, slice_get, Option, Some, None, option_map, option_and_then, inl, inr, ◌⊎◌, refl, sym, ap, ◌∙◌, subst, arith}
use Rattle.std.proofs.lemmas.Bool.Decides.{eqb_tells}
use Rattle.std.proofs.lemmas.Bool.{cases_lt, ltb-true, ltb-false}
use Rattle.std.proofs.lemmas.Option.{slice_get_past}
use Rattle.lynx_entry.specs.declared.entry.Entry.{Entry}
use Rattle.lynx_entry.specs.Entry.{History, stamp_of}
use Rattle.lynx_keep.specs.Kept.{KeptState}
use Rattle.lynx_server.specs.Serving.{Serving}
use Rattle.lynx_world.specs.Servers.{Servers}
use Rattle.lynx_weave.specs.Lists.{entry_in}
use Rattle.lynx_weave.specs.inner.Orders.{IsNextAt, next_in, with_next}
use Rattle.lynx_weave.specs.Servers.{histories_of}
use Rattle.lynx_weave.proofs.Agreements.{history_there}
use Rattle.lynx_weave.proofs.Sending.{entry_here}

-- the entry is the next of that server, with that stamp, and none of the first servers' comes before it
pub record IsLeastOf (histories : List History) (places : List ℕ) (below stamp number : ℕ) : Type 0 where
  pub under : number < below
  pub entry : Entry
  pub next : next_in histories places number ≡ Some entry
  pub stamp_is : stamp_of entry ≡ stamp
  pub least : (other : ℕ) (its : Entry) → other < below → next_in histories places other ≡ Some its →
      (stamp < stamp_of its) ⊎ ((stamp ≡ stamp_of its) × (number ≤ other))

abbrev pub IsLeastBelow : List History → List ℕ → ℕ → Option (ℕ × ℕ) → Type 0
IsLeastBelow histories places below None = (server : ℕ) → server < below → next_in histories places server ≡ None
IsLeastBelow histories places below (Some least) = IsLeastOf histories places below least.0 least.1

-- the next entry of a server
pub next_is : (servers : Servers) (places : List ℕ) (server place : ℕ) (here : Serving KeptState) → slice_get servers server ≡ Some here →
    slice_get places server ≡ Some place → next_in (histories_of servers) places server ≡ slice_get here.history place
next_is servers places server place here there through =
    ap (option_and_then (entry_in (histories_of servers) server)) through
    ∙ entry_here (histories_of servers) server place here.history (history_there servers server here there)

none_some : (o : Option Entry) (entry : Entry) → o ≡ None → o ≡ Some entry → ⊥
none_some o entry none some = let both = sym none ∙ some in cc

one_of : (o : Option Entry) (a b : Entry) → o ≡ Some a → o ≡ Some b → a ≡ b
one_of o a b is was = let same : Some a ≡ Some b = sym is ∙ was in cc

-- a server with nothing left
pub least_past : (histories : List History) (places : List ℕ) (number : ℕ) (least : Option (ℕ × ℕ)) → next_in histories places number ≡ None →
    IsLeastBelow histories places number least → IsLeastBelow histories places (number + 1) least
least_past histories places number None none below = λ server within. elim (eqb_tells server number) [
  | inl same ↦ ap (next_in histories places) same.1 ∙ none
  | inr differs ↦ let apart : server ≢ number = differs.1 in below server (omega arith)
]
least_past histories places number (Some least) none below = record {
  under = let under = below.under in omega arith;
  entry = below.entry;
  next = below.next;
  stamp_is = below.stamp_is;
  least = λ other its within there. elim (eqb_tells other number) [
    | inl same ↦ absurd (none_some (next_in histories places number) its none (ap (next_in histories places) (sym same.1) ∙ there))
    | inr differs ↦ let apart : other ≢ number = differs.1 in below.least other its (omega arith) there
  ];
}

-- a server whose next entry doesn't come before the least
pub least_stays : (histories : List History) (places : List ℕ) (number stamp first : ℕ) (entry : Entry) → next_in histories places number ≡ Some entry →
    stamp ≤ stamp_of entry → IsLeastOf histories places number stamp first → IsLeastOf histories places (number + 1) stamp first
least_stays histories places number stamp first entry next low below = record {
  under = let under = below.under in omega arith;
  entry = below.entry;
  next = below.next;
  stamp_is = below.stamp_is;
  least = λ other its within there. elim (eqb_tells other number) [
    | inl same ↦
        let alike = one_of (next_in histories places number) entry its next (ap (next_in histories places) (sym same.1) ∙ there) in
        let stamps : stamp_of entry ≡ stamp_of its = ap stamp_of alike in
        elim (eqb_tells stamp (stamp_of its)) [
          | inl equal ↦ inr (equal.1, let here = same.1 in let under = below.under in omega arith)
          | inr unequal ↦ let apart : stamp ≢ stamp_of its = unequal.1 in inl (omega arith)
        ]
    | inr differs ↦ let apart : other ≢ number = differs.1 in below.least other its (omega arith) there
  ];
}

-- a server whose next entry comes before all
pub least_new : (histories : List History) (places : List ℕ) (number : ℕ) (entry : Entry) (old : Option (ℕ × ℕ)) → next_in histories places number ≡ Some entry →
    IsLeastBelow histories places number old → ((least : ℕ × ℕ) → old ≡ Some least → stamp_of entry < least.0) →
    IsLeastOf histories places (number + 1) (stamp_of entry) number
least_new histories places number entry old next below under = record {
  under = omega arith;
  entry = entry;
  next = next;
  stamp_is = refl;
  least = λ other its within there. elim (eqb_tells other number) [
    | inl same ↦
        let alike = one_of (next_in histories places number) entry its next (ap (next_in histories places) (sym same.1) ∙ there) in
        inr (ap stamp_of alike, let here = same.1 in omega arith)
    | inr differs ↦ let apart : other ≢ number = differs.1 in before old other its (omega arith) there below under
  ];
}
  where
    before : (o : Option (ℕ × ℕ)) (other : ℕ) (its : Entry) → other < number → next_in histories places other ≡ Some its →
        IsLeastBelow histories places number o → ((least : ℕ × ℕ) → o ≡ Some least → stamp_of entry < least.0) →
        (stamp_of entry < stamp_of its) ⊎ ((stamp_of entry ≡ stamp_of its) × (number ≤ other))
    before None other its within there none lower = absurd (none_some (next_in histories places other) its (none other within) there)
    before (Some least) other its within there so_far lower =
        let low = lower least refl in
        inl (elim (so_far.least other its within there) [ inl less ↦ omega arith | inr same ↦ let equal = same.0 in omega arith ])

-- one server more
pub least_more : (histories : List History) (places : List ℕ) (number : ℕ) (least : Option (ℕ × ℕ)) (next : Option Entry) →
    next_in histories places number ≡ next → IsLeastBelow histories places number least →
    IsLeastBelow histories places (number + 1) (with_next least number next)
least_more histories places number least None is below = least_past histories places number least is below
least_more histories places number None (Some entry) is below =
    least_new histories places number entry None is below (λ least never. cc)
least_more histories places number (Some least) (Some entry) is below = by (nat_lt (stamp_of entry) least.0) refl
  where
    lower : (other : ℕ × ℕ) → stamp_of entry < least.0 → Some least ≡ Some other → stamp_of entry < other.0
    lower other low same = let alike : least ≡ other = cc in subst (λ (l : ℕ × ℕ). stamp_of entry < l.0) alike low

    by : (b : Bool) → nat_lt (stamp_of entry) least.0 ≡ b →
        IsLeastBelow histories places (number + 1) (Some (cond b (stamp_of entry, number) least))
    by true low = least_new histories places number entry (Some least) is below (λ other same. lower other (ltb-true _ _ low) same)
    by false high = least_stays histories places number least.0 least.1 entry is (ltb-false _ _ high) below

-- .. as the walk over them has it
pub least_walk : (servers : Servers) (places : List ℕ) (number place : ℕ) (here : Serving KeptState) (least : Option (ℕ × ℕ)) →
    slice_get servers number ≡ Some here → slice_get places number ≡ Some place → IsLeastBelow (histories_of servers) places number least →
    IsLeastBelow (histories_of servers) places (number + 1) (with_next least number (slice_get here.history place))
least_walk servers places number place here least there through below =
    least_more (histories_of servers) places number least (slice_get here.history place) (next_is servers places number place here there through) below

-- all servers
pub least_end : (servers : Servers) (places : List ℕ) (number : ℕ) (least : Option (ℕ × ℕ)) → length servers ≤ number → length places ≡ length servers →
    IsLeastBelow (histories_of servers) places number least → IsNextAt (histories_of servers) places (option_map (λ (l : ℕ × ℕ). l.1) least)
least_end servers places number None all many below = λ server. elim (within_or server) [
  | inl within ↦ below server within
  | inr past ↦ beyond server past
]
  where
    within_or : (server : ℕ) → (server < number) ⊎ (number ≤ server)
    within_or server = cases_lt server number

    beyond : (server : ℕ) → number ≤ server → next_in (histories_of servers) places server ≡ None
    beyond server past = ap (option_and_then (entry_in (histories_of servers) server)) (slice_get_past places server (omega arith))
least_end servers places number (Some least) all many below = record {
  entry = below.entry;
  next = below.next;
  least = λ other its there. elim (cases_lt other number) [
    | inl within ↦
        let stamp = below.stamp_is in
        elim (below.least other its within there) [ inl less ↦ inl (omega arith) | inr same ↦ let equal = same.0 in inr (omega arith, same.1) ]
    | inr past ↦
        absurd (none_some (next_in (histories_of servers) places other) its
        (ap (option_and_then (entry_in (histories_of servers) other)) (slice_get_past places other (omega arith))) there)
  ];
}
