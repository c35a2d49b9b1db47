-- What a session is told of what its server did stands, in time, and by no entry from before.
use Rattle.std.proofs.Common.{◌≡◌, ◌∙◌, ℕ, ◌+◌, ◌<◌, ◌≤◌, ◌&&◌, Bool, true, false, not, max, nat_lt, nat_eq, if◌then◌else◌, fold, length, eq-eqb, IfSome, lit<, List, [], ◌∷◌, ◌++◌, Option, Some, None, Ok, Err, inl, inr, ◌⊎◌, refl, sym, ap, subst, arith}
use Rattle.std.specs.List.{list_any}
use Rattle.std.specs.Cmp.Lexicographic.{pointwise}
use Rattle.std.proofs.lemmas.Bool.{cases_lt, eqb-true, lt-ltb}
use Rattle.lynx_names.specs.declared.chain.ChainId.{ChainId}
use Rattle.lynx_names.specs.declared.limits.TheConstants.{MAX_ENTRIES, STAMP_LIMIT}
use Rattle.lynx_set.specs.Lookups.{program_at}
use Rattle.lynx_set.specs.declared.program.Program.{Program}
use Rattle.lynx_set.specs.Set.{Set}
use Rattle.lynx_hops.specs.Meaning.{HopOutcome, meaning}
use Rattle.lynx_entry.specs.declared.answer.Answer.{Answer}
use Rattle.lynx_entry.specs.declared.answer.Answer.TheVariants.{Begun as BegunAnswer, Refused as RefusedAnswer, Clash, UnknownProgram, WrongOrigin, ArgCount, OutsideRange, WrongShard, Full, Busy, Stopped, Memory}
use Rattle.lynx_entry.specs.declared.entry.Entry.{Entry}
use Rattle.lynx_entry.specs.declared.entry.Entry.TheVariants.{Begun, Refused, Hop}
use Rattle.lynx_entry.specs.declared.request.Request.{Request}
use Rattle.lynx_entry.specs.Entry.{History, stamp_of}
use Rattle.lynx_turn.specs.Held.{same_chain}
use Rattle.lynx_rules.specs.Answers.{Begins, answer, answer_new, answer_recorded, begun_by, begun_with, is_busy, is_full, only, recorded_answer, same_call}
use Rattle.lynx_rules.specs.Checks.{are_keys_placed, request_fault, request_fault_in}
use Rattle.lynx_rules.specs.Visits.{is_origin}
use Rattle.lynx_set.specs.Intervals.{are_in_range}
use Rattle.lynx_rules.specs.Lawful.{IsLawful, is_record_of, record_of}
use Rattle.lynx_rules.specs.Tables.{clock_of, tables_of}
use Rattle.lynx_rules.specs.Turns.{begun_count, numbers_of}
use Rattle.lynx_server.specs.Acts.{act_of, is_act}
use Rattle.lynx_world.specs.Legal.{IsLegal, MayFollow}
use Rattle.lynx_world.specs.Placed.{Placed}
use Rattle.lynx_world.specs.Steps.{list_with}
use Rattle.lynx_world.specs.Worlds.{history_of}
use Rattle.lynx_world.proofs.Alike.{nat-self, pointwise-self}
use Rattle.lynx_world.proofs.LegalSteps.{begun-may_follow}
use Rattle.lynx_world.proofs.Members.{IsIn, any_of, found_in, in-last, in_list}
use Rattle.lynx_world.proofs.Once.{both, same_chain-self}
use Rattle.lynx_world.proofs.Standing.{stands as stands_in_legal}
use Rattle.lynx_world.proofs.Tests.{and-true}
use Rattle.lynx_weave.specs.declared.told.ToldItem.{ToldItem}
use Rattle.lynx_weave.specs.declared.told.ToldItem.TheVariants.{Answered, Seen}
use Rattle.lynx_weave.specs.Told.{agrees, bears, tells_full, greatest_told, is_fresh, is_fresh_by, is_full_in, is_other_call, is_topmost, same_request, server_told, stamp_told, stands, told_by}
use Rattle.lynx_weave.proofs.Bridging.{not_true, or_either, or_left, or_right}
use Rattle.lynx_promises.specs.Stops.{seen_of}
use Rattle.lynx_promises.proofs.Agreeing.{never_again, stands_by, stands_full, stands_so}
use Rattle.lynx_promises.proofs.ToldLists.{greatest_is}

-- what is told after a call that came to this list: one item at most, which stands; a fresh one has a stamp above what was told, and is by no entry from before
pub record IsTelling (old new : List Placed) (seen : ℕ) (items : List ToldItem) : Type 0 where
  pub few : length items ≤ 1
  pub stand : (item : ToldItem) → IsIn item items → stands new item ≡ true
  pub late : (item : ToldItem) → IsIn item items → is_fresh item ≡ true → seen < stamp_told item
  pub apart : (placed : Placed) (item : ToldItem) → IsIn placed old → IsIn item items → is_fresh_by placed item ≡ false

pub telling_none : (old new : List Placed) (seen : ℕ) → IsTelling old new seen []
telling_none old new seen = record {
  few = omega arith;
  stand = λ item never. absurd never;
  late = λ item never fresh. absurd never;
  apart = λ placed item there never. absurd never;
}

-- an item that isn't fresh, and stands
pub telling_stale : (old new : List Placed) (seen : ℕ) (item : ToldItem) → is_fresh item ≡ false → stands new item ≡ true → IsTelling old new seen (item ∷ [])
telling_stale old new seen item stale stood = record {
  few = omega arith;
  stand = λ other there. elim there [ inl same ↦ subst (λ i. stands new i ≡ true) same stood | inr never ↦ absurd never ];
  late = λ other there fresh. elim there [ inl same ↦ absurd (differ item other same stale fresh) | inr never ↦ absurd never ];
  apart = λ placed other old_one there. elim there [
    | inl same ↦ subst (λ i. is_fresh_by placed i ≡ false) same (ap (λ b. b && agrees item placed) stale)
    | inr never ↦ absurd never
  ];
}
  where
    differ : (one other : ToldItem) → one ≡ other → is_fresh one ≡ false → is_fresh other ≡ true → ⊥
    differ one other same isnt is_it = let again = ap is_fresh same in cc

-- an item that the new entry bears out, with a later stamp
telling_fresh : (set : Set) (list : List Placed) (last : Placed) (seen : ℕ) (item : ToldItem) → IsLegal set list → MayFollow set list last →
    agrees item last ≡ true → seen < stamp_told item → IsTelling list (list ++ last ∷ []) seen (item ∷ [])
telling_fresh set list last seen item legal may agreed later = record {
  few = omega arith;
  stand = λ other there. elim there [
    | inl same ↦ subst (λ i. stands (list ++ last ∷ []) i ≡ true) same (stands_so (list ++ last ∷ []) item last (in-last last last list refl) agreed)
    | inr never ↦ absurd never
  ];
  late = λ other there fresh. elim there [ inl same ↦ subst (λ i. seen < stamp_told i) same later | inr never ↦ absurd never ];
  apart = λ placed other old there. elim there [
    | inl same ↦ subst (λ i. is_fresh_by placed i ≡ false) same
        (not_true (is_fresh_by placed item) (λ fresh. never_again set list last placed item legal may old (both (is_fresh item) (agrees item placed) fresh).1 agreed))
    | inr never ↦ absurd never
  ];
}

-- ---- requests alike

same_values : (xs : List ℕ) → pointwise nat_eq xs xs ≡ true
same_values xs = pointwise-self nat_eq nat-self xs

same_self : (request : Request) → same_request request request ≡ true
same_self request =
    let two = and-true _ _ (nat-self request.client) (nat-self request.number) in
    let three = and-true _ _ two (nat-self request.program) in
    and-true _ _ three (same_values request.args)

-- a recorded request with the same program and arguments is the same
same_recorded : (own request : Request) → (nat_eq own.client request.client && nat_eq own.number request.number) ≡ true → same_call own request ≡ true →
    same_request own request ≡ true
same_recorded own request named called =
    let parts = both (nat_eq own.program request.program) (pointwise nat_eq own.args request.args) called in
    and-true _ _ (and-true _ _ named parts.0) parts.1

other_recorded : (own request : Request) → (nat_eq own.client request.client && nat_eq own.number request.number) ≡ true → same_call own request ≡ false →
    is_other_call own request ≡ true
other_recorded own request named called = and-true _ _ named (ap not called)

-- ---- what a record answers

recorded_call : (list : List Placed) (server seen : ℕ) (own request : Request) (entry : Entry) (again : Answer) → IsIn (record { server = server; entry = entry }) list →
    (nat_eq own.client request.client && nat_eq own.number request.number) ≡ true → is_fresh (Answered server request again) ≡ false → told_by server request again ≡ Answered server request again ∷ [] →
    (same_request own request ≡ true → bears (Answered server request again) entry ≡ true) →
    (is_other_call own request ≡ true → bears (Answered server request Clash) entry ≡ true) →
    IsTelling list list seen (told_by server request (if same_call own request then again else Clash))
recorded_call list server seen own request entry again there named stale noted same clash = by (same_call own request) refl
  where
    by : (b : Bool) → same_call own request ≡ b → IsTelling list list seen (told_by server request (if b then again else Clash))
    by true called =
        subst (IsTelling list list seen) (sym noted)
        (telling_stale list list seen (Answered server request again) stale
        (stands_so list (Answered server request again) (record { server = server; entry = entry }) there
        (and-true _ _ (nat-self server) (same (same_recorded own request named called)))))
    by false called =
        telling_stale list list seen (Answered server request Clash) refl
        (stands_so list (Answered server request Clash) (record { server = server; entry = entry }) there
        (and-true _ _ (nat-self server) (clash (other_recorded own request named called))))

telling_recorded : (list : List Placed) (server seen : ℕ) (request : Request) (entry : Entry) → IsIn (record { server = server; entry = entry }) list →
    is_record_of request entry ≡ true → IsTelling list list seen (told_by server request (recorded_answer entry request))
telling_recorded list server seen request (Begun begun) there recorded =
    recorded_call list server seen begun.request request (Begun begun) (BegunAnswer begun.chain begun.stamp begun.results true) there recorded refl refl
    (λ same. and-true _ _ (and-true _ _ (and-true _ _ same (same_chain-self begun.chain)) (nat-self begun.stamp)) (same_values begun.results))
    (λ clash. clash)
telling_recorded list server seen request (Refused refused) there recorded =
    recorded_call list server seen refused.request request (Refused refused) (RefusedAnswer refused.need refused.stamp true) there recorded refl refl
    (λ same. and-true _ _ (and-true _ _ same (nat-self refused.need)) (nat-self refused.stamp))
    (λ clash. clash)
telling_recorded list server seen request (Hop ran) there recorded = cc

-- ---- what is wrong with a request is told to nobody

fault_untold : (set : Set) (server : ℕ) (request : Request) (fault : Answer) → request_fault set server request ≡ Some fault → told_by server request fault ≡ []
fault_untold set server request fault is = by (program_at set request.program) is
  where
    by : (o : Option Program) → request_fault_in set server request o ≡ Some fault → told_by server request fault ≡ []
    by None found = let same : UnknownProgram ≡ fault = cc in ap (told_by server request) (sym same)
    by (Some program) found =
        origin (is_origin set request.program server) (nat_eq (length request.args) program.parameters) (are_in_range program.ranges request.args)
        (are_keys_placed set request.args program.hops) found
      where
        origin : (a b c d : Bool) → (if not a then Some WrongOrigin else (if not b then Some ArgCount else (if not c then Some OutsideRange else (if not d then Some WrongShard else None))))
            ≡ Some fault → told_by server request fault ≡ []
        origin false b c d e = let same : WrongOrigin ≡ fault = cc in ap (told_by server request) (sym same)
        origin true false c d e = let same : ArgCount ≡ fault = cc in ap (told_by server request) (sym same)
        origin true true false d e = let same : OutsideRange ≡ fault = cc in ap (told_by server request) (sym same)
        origin true true true false e = let same : WrongShard ≡ fault = cc in ap (told_by server request) (sym same)
        origin true true true true e = cc

-- ---- a server that is full

limit_high : 1 < STAMP_LIMIT
limit_high = lit< tt

-- each stamp is below the limit
below_limit : (set : Set) (server : ℕ) (history : History) (entry : Entry) → IsLawful set server history entry → stamp_of entry < STAMP_LIMIT
below_limit set server history (Begun begun) lawful = let stamp = lawful.stamp in let room = lawful.room.stamps in omega arith
below_limit set server history (Refused refused) lawful = let stamp = lawful.stamp in let room = lawful.room.stamps in omega arith
below_limit set server history (Hop ran) lawful = let stamp = lawful.stamp in let room = lawful.room.stamps in omega arith

stamp_below : (set : Set) (list : List Placed) (placed : Placed) → IsLegal set list → IsIn placed list → stamp_of placed.entry < STAMP_LIMIT
stamp_below set list placed legal there =
    let stood = stands_in_legal set list placed legal there in
    below_limit set placed.server (history_of placed.server stood.before) placed.entry stood.may_follow.lawful

-- the clock is 0, or the stamp of an entry
clock_from : (history : History) (start : ℕ) → (fold (λ clock entry. stamp_of entry) start history ≡ start)
    ⊎ ((entry : Entry) × IsIn entry history × (stamp_of entry ≡ fold (λ clock entry. stamp_of entry) start history))
clock_from [] start = inl refl
clock_from (entry ∷ history) start = elim (clock_from history (stamp_of entry)) [
  | inl same ↦ inr (entry, inl refl, sym same)
  | inr found ↦ inr (found.0, inr found.1, found.2)
]

-- an entry with the last stamp that there may be
topmost : (set : Set) (list : List Placed) (placed : Placed) → IsLegal set list → IsIn placed list → STAMP_LIMIT ≤ stamp_of placed.entry + 1 →
    list_any (λ p. is_topmost p.entry) list ≡ true
topmost set list placed legal there high =
    let below = stamp_below set list placed legal there in
    any_of (λ (p : Placed). is_topmost p.entry) list placed there (eq-eqb (stamp_of placed.entry + 1) STAMP_LIMIT (omega arith))

-- the stamp that was told is that of the entry that agrees, or is 0
stamp_agrees : (told : ToldItem) (placed : Placed) → agrees told placed ≡ true → (stamp_told told ≡ 0) ⊎ (stamp_told told ≡ stamp_of placed.entry)
stamp_agrees told placed agreed = by told placed.entry (both (nat_eq placed.server (server_told told)) (bears told placed.entry) agreed).1
  where
    by : (item : ToldItem) (entry : Entry) → bears item entry ≡ true → (stamp_told item ≡ 0) ⊎ (stamp_told item ≡ stamp_of entry)
    by (Answered server request (BegunAnswer chain stamp results again)) (Begun begun) is =
        let three = both _ (pointwise nat_eq begun.results results) is in
        inr (sym (eqb-true _ _ (both (same_request begun.request request && same_chain begun.chain chain) (nat_eq begun.stamp stamp) three.0).1))
    by (Answered server request (BegunAnswer chain stamp results again)) (Refused refused) is = cc
    by (Answered server request (BegunAnswer chain stamp results again)) (Hop ran) is = cc
    by (Answered server request (RefusedAnswer need stamp again)) (Begun begun) is = cc
    by (Answered server request (RefusedAnswer need stamp again)) (Refused refused) is =
        inr (sym (eqb-true _ _ (both (same_request refused.request request && nat_eq refused.need need) (nat_eq refused.stamp stamp) is).1))
    by (Answered server request (RefusedAnswer need stamp again)) (Hop ran) is = cc
    by (Answered server request Clash) entry is = inl refl
    by (Answered server request UnknownProgram) entry is = inl refl
    by (Answered server request WrongOrigin) entry is = inl refl
    by (Answered server request ArgCount) entry is = inl refl
    by (Answered server request OutsideRange) entry is = inl refl
    by (Answered server request WrongShard) entry is = inl refl
    by (Answered server request Full) entry is = inl refl
    by (Answered server request Busy) entry is = inl refl
    by (Answered server request Stopped) entry is = inl refl
    by (Answered server request Memory) entry is = inl refl
    by (Seen server chain hop stamp results) (Begun begun) is =
        let three = both _ (pointwise nat_eq begun.results results) is in
        inr (sym (eqb-true _ _ (both (same_chain begun.chain chain && nat_eq hop 0) (nat_eq begun.stamp stamp) three.0).1))
    by (Seen server chain hop stamp results) (Refused refused) is = cc
    by (Seen server chain hop stamp results) (Hop ran) is =
        let three = both _ (pointwise nat_eq ran.results results) is in
        inr (sym (eqb-true _ _ (both (same_chain ran.message.chain chain && nat_eq ran.message.hop hop) (nat_eq ran.stamp stamp) three.0).1))

-- an item that tells that a server is full tells no stamp
full_stampless : (told : ToldItem) → tells_full told ≡ true → stamp_told told ≡ 0
full_stampless (Answered server request (BegunAnswer chain stamp results again)) is = cc
full_stampless (Answered server request (RefusedAnswer need stamp again)) is = cc
full_stampless (Answered server request Clash) is = refl
full_stampless (Answered server request UnknownProgram) is = refl
full_stampless (Answered server request WrongOrigin) is = refl
full_stampless (Answered server request ArgCount) is = refl
full_stampless (Answered server request OutsideRange) is = refl
full_stampless (Answered server request WrongShard) is = refl
full_stampless (Answered server request Full) is = refl
full_stampless (Answered server request Busy) is = refl
full_stampless (Answered server request Stopped) is = refl
full_stampless (Answered server request Memory) is = refl
full_stampless (Seen server chain hop stamp results) is = cc

-- a stamp that was told, and is the last that there may be, is that of an entry
told_topmost : (set : Set) (list : List Placed) (items : List ToldItem) → IsLegal set list → ((item : ToldItem) → IsIn item items → stands list item ≡ true) →
    STAMP_LIMIT ≤ greatest_told items + 1 → list_any (λ p. is_topmost p.entry) list ≡ true
told_topmost set list items legal stand high = elim (greatest_is items) [
  | inl none ↦ absurd (omega (arith, none, limit_high))
  | inr found ↦ elim (stands_by list found.0 (stand found.0 found.1)) [
    | inl borne ↦ elim (stamp_agrees found.0 borne.0 borne.2) [
      | inl none ↦ absurd (omega (arith, none, found.2, limit_high))
      | inr same ↦ topmost set list borne.0 legal borne.1 (omega (arith, same, found.2))
    ]
    | inr full ↦ let none = full_stampless found.0 full.0 in absurd (omega (arith, none, found.2, limit_high))
  ]
]

full_here : (set : Set) (list : List Placed) (server : ℕ) (items : List ToldItem) → IsLegal set list → ((item : ToldItem) → IsIn item items → stands list item ≡ true) →
    is_full (history_of server list) (greatest_told items) ≡ true → is_full_in server list ≡ true
full_here set list server items legal stand is =
    elim (or_either (not (nat_lt (length (history_of server list)) MAX_ENTRIES)) (not (nat_lt (max (clock_of (history_of server list)) (greatest_told items) + 1) STAMP_LIMIT)) is) [
      | inl many ↦ or_left _ _ many
      | inr late ↦ or_right (not (nat_lt (length (history_of server list)) MAX_ENTRIES)) _ (by (cases_lt (max (clock_of (history_of server list)) (greatest_told items) + 1) STAMP_LIMIT) late)
    ]
  where
    by_clock : STAMP_LIMIT ≤ clock_of (history_of server list) + 1 → list_any (λ p. is_topmost p.entry) list ≡ true
    by_clock high = elim (clock_from (history_of server list) 0) [
      | inl none ↦ absurd (omega (arith, none, limit_high))
      | inr found ↦ topmost set list (record { server = server; entry = found.0 }) legal (in_list server list found.0 found.1) (omega (arith, found.2))
    ]

    by : (max (clock_of (history_of server list)) (greatest_told items) + 1 < STAMP_LIMIT) ⊎ (STAMP_LIMIT ≤ max (clock_of (history_of server list)) (greatest_told items) + 1) →
        not (nat_lt (max (clock_of (history_of server list)) (greatest_told items) + 1) STAMP_LIMIT) ≡ true → list_any (λ p. is_topmost p.entry) list ≡ true
    by (inl below) is_late = let is_below = lt-ltb _ _ below in let not_late : not true ≡ true = sym (ap not is_below) ∙ is_late in cc
    by (inr above) is_late = elim (cases_lt (clock_of (history_of server list) + 1) STAMP_LIMIT) [
      | inl low ↦ told_topmost set list items legal stand (omega arith)
      | inr high ↦ by_clock high
    ]

-- ---- a begin

-- what a begin adds may follow
abbrev MayAdd : Set → List Placed → ℕ → Begins → Type 0
MayAdd set list server begins = IfSome begins.added (λ entry. MayFollow set list (record { server = server; entry = entry }))

-- what is told of a begin, to whom these items were told
abbrev TellsOf : List Placed → ℕ → Request → List ToldItem → Begins → Type 0
TellsOf list server request items begins = IsTelling list (list_with server begins.added list) (greatest_told items) (told_by server request begins.answer)

telling_done : (set : Set) (list : List Placed) (server : ℕ) (request : Request) (items : List ToldItem) (outcome : HopOutcome) → IsLegal set list →
    MayAdd set list server (begun_by set server (history_of server list) request (greatest_told items) outcome) →
    TellsOf list server request items (begun_by set server (history_of server list) request (greatest_told items) outcome)
telling_done set list server request items (Ok outcome) legal may =
    let history = history_of server list in
    let begins = begun_with set server history request (greatest_told items) outcome.0 in
    let chain : ChainId = record { origin = server; index = begun_count history } in
    let stamp = max (clock_of history) (greatest_told items) + 1 in
    let entry : Entry = Begun (record { request = request; seen = greatest_told items; chain = chain; numbers = numbers_of set history request.program; stamp = stamp; results = outcome.0 }) in
    telling_fresh set list (record { server = server; entry = entry }) (greatest_told items) (Answered server request (BegunAnswer chain stamp outcome.0 false)) legal may
    (and-true _ _ (nat-self server) (and-true _ _ (and-true _ _ (and-true _ _ (same_self request) (same_chain-self chain)) (nat-self stamp)) (same_values outcome.0)))
    (omega arith)
telling_done set list server request items (Err need) legal may =
    let stamp = max (clock_of (history_of server list)) (greatest_told items) + 1 in
    let entry : Entry = Refused (record { request = request; seen = greatest_told items; need = need; stamp = stamp }) in
    telling_fresh set list (record { server = server; entry = entry }) (greatest_told items) (Answered server request (RefusedAnswer need stamp false)) legal may
    (and-true _ _ (nat-self server) (and-true _ _ (and-true _ _ (same_self request) (nat-self need)) (nat-self stamp)))
    (omega arith)

telling_room : (set : Set) (list : List Placed) (server : ℕ) (request : Request) (items : List ToldItem) (full busy : Bool) (outcome : HopOutcome) → IsLegal set list →
    ((item : ToldItem) → IsIn item items → stands list item ≡ true) → is_full (history_of server list) (greatest_told items) ≡ full →
    MayAdd set list server (if full then only Full else (if busy then only Busy else begun_by set server (history_of server list) request (greatest_told items) outcome)) →
    TellsOf list server request items (if full then only Full else (if busy then only Busy else begun_by set server (history_of server list) request (greatest_told items) outcome))
telling_room set list server request items true busy outcome legal stand full may =
    telling_stale list list (greatest_told items) (Answered server request Full) refl
    (stands_full list (Answered server request Full) refl (full_here set list server items legal stand full))
telling_room set list server request items false true outcome legal stand full may = telling_none list list (greatest_told items)
telling_room set list server request items false false outcome legal stand full may = telling_done set list server request items outcome legal may

telling_new : (set : Set) (list : List Placed) (server : ℕ) (request : Request) (items : List ToldItem) (fault : Option Answer) → IsLegal set list →
    ((item : ToldItem) → IsIn item items → stands list item ≡ true) → request_fault set server request ≡ fault →
    MayAdd set list server (answer_new set server (history_of server list) request (greatest_told items) fault) →
    TellsOf list server request items (answer_new set server (history_of server list) request (greatest_told items) fault)
telling_new set list server request items (Some fault) legal stand is may =
    subst (IsTelling list list (greatest_told items)) (sym (fault_untold set server request fault is)) (telling_none list list (greatest_told items))
telling_new set list server request items None legal stand is may =
    telling_room set list server request items (is_full (history_of server list) (greatest_told items)) (is_busy set server (history_of server list))
    (meaning set request.program 0 request.args [] (tables_of set (history_of server list))) legal stand refl may

telling_by : (set : Set) (list : List Placed) (server : ℕ) (request : Request) (items : List ToldItem) (recorded : Option Entry) → IsLegal set list →
    ((item : ToldItem) → IsIn item items → stands list item ≡ true) → record_of request (history_of server list) ≡ recorded →
    MayAdd set list server (answer_recorded set server (history_of server list) request (greatest_told items) recorded) →
    TellsOf list server request items (answer_recorded set server (history_of server list) request (greatest_told items) recorded)
telling_by set list server request items (Some entry) legal stand is may =
    let found = found_in (is_record_of request) (history_of server list) entry is in
    telling_recorded list server (greatest_told items) request entry (in_list server list entry found.0) found.1
telling_by set list server request items None legal stand is may =
    telling_new set list server request items (request_fault set server request) legal stand refl may

-- what a session is told of a begin with the greatest stamp that it was told
pub telling_begin : (set : Set) (list : List Placed) (server : ℕ) (request : Request) (items : List ToldItem) → IsLegal set list → server < set.servers →
    ((item : ToldItem) → IsIn item items → stands list item ≡ true) →
    TellsOf list server request items (answer set server (history_of server list) request (greatest_told items))
telling_begin set list server request items legal there stand =
    telling_by set list server request items (record_of request (history_of server list)) legal stand refl
    (begun-may_follow set list server request (greatest_told items) (answer set server (history_of server list) request (greatest_told items)) legal there refl)

-- ---- a look

telling_entry : (list : List Placed) (server : ℕ) (chain : ChainId) (hop seen : ℕ) (found : Option Entry) → act_of chain hop (history_of server list) ≡ found →
    IsTelling list list seen (seen_of server chain hop found)
telling_entry list server chain hop seen None is = telling_none list list seen
telling_entry list server chain hop seen (Some (Begun begun)) is =
    let found = found_in (is_act chain hop) (history_of server list) (Begun begun) is in
    let item = Seen server chain hop begun.stamp begun.results in
    telling_stale list list seen item refl
    (stands_so list item (record { server = server; entry = Begun begun }) (in_list server list (Begun begun) found.0)
    (and-true _ _ (nat-self server) (and-true _ _ (and-true _ _ found.1 (nat-self begun.stamp)) (same_values begun.results))))
telling_entry list server chain hop seen (Some (Refused refused)) is = telling_none list list seen
telling_entry list server chain hop seen (Some (Hop ran)) is =
    let found = found_in (is_act chain hop) (history_of server list) (Hop ran) is in
    let item = Seen server chain hop ran.stamp ran.results in
    telling_stale list list seen item refl
    (stands_so list item (record { server = server; entry = Hop ran }) (in_list server list (Hop ran) found.0)
    (and-true _ _ (nat-self server) (and-true _ _ (and-true _ _ found.1 (nat-self ran.stamp)) (same_values ran.results))))

pub telling_look : (list : List Placed) (server : ℕ) (chain : ChainId) (hop seen : ℕ) → IsTelling list list seen (seen_of server chain hop (act_of chain hop (history_of server list)))
telling_look list server chain hop seen = telling_entry list server chain hop seen (act_of chain hop (history_of server list)) refl
