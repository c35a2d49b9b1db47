-- A lawful entry is just what a server adds when it is asked for what the entry did.
use Rattle.std.proofs.Common.{◌≡◌, ◌≤◌, ◌<◌, ◌+◌, ℕ, eq-eqb, Bool, true, false, not, if◌then◌else◌, nat_lt, nat_eq, length, max, List, [], ◌∷◌, ◌++◌, slice_get, filter, count_by, cond, take, get_or, add-one, Option, Some, None, IsNone, IfSome, Ok, refl, sym, ap, ◌∙◌, subst, unwrap_or, arith}
use Rattle.std.proofs.lemmas.Bool.{lt-ltb, le-ltb, or_from, not_from_true}
use Rattle.lynx_names.specs.declared.limits.TheConstants.{MAX_HELD}
use Rattle.lynx_set.specs.Set.{Set}
use Rattle.lynx_hops.specs.Meaning.{meaning}
use Rattle.lynx_entry.specs.declared.answer.Answer.{Answer}
use Rattle.lynx_entry.specs.declared.answer.Answer.TheVariants as answers
use Rattle.lynx_entry.specs.declared.answer.Delivered.{Delivered}
use Rattle.lynx_entry.specs.declared.answer.Delivered.TheVariants as deliveries
use Rattle.lynx_entry.specs.declared.entry.BegunEntry.{BegunEntry}
use Rattle.lynx_entry.specs.declared.entry.RefusedEntry.{RefusedEntry}
use Rattle.lynx_entry.specs.declared.entry.HopEntry.{HopEntry}
use Rattle.lynx_entry.specs.declared.entry.Entry.{Entry}
use Rattle.lynx_entry.specs.declared.entry.Entry.TheVariants.{Begun, Refused, Hop}
use Rattle.lynx_entry.specs.declared.message.Message.{Message}
use Rattle.lynx_entry.specs.declared.request.Request.{Request}
use Rattle.lynx_entry.specs.Entry.{History}
use Rattle.lynx_keep.specs.Kept.{HasRisen, Terms}
use Rattle.lynx_rules.specs.Answers.{Begins, answer, is_busy, is_full}
use Rattle.lynx_rules.specs.Deliveries.{Delivers, delivery, deliver_new, done_at, done_by, early, same_hop}
use Rattle.lynx_rules.specs.Lawful.{HasRoom, IsLawful, IsLawfulBegun, IsLawfulRefused, IsLawfulHop, MayBegin, Runs, Starts, hop_entry_of, number_at}
use Rattle.lynx_rules.specs.Tables.{clock_of, tables_of}
use Rattle.lynx_rules.specs.Turns.{begins_visiting, begun_count, is_begun, number_for, turn_of}
use Rattle.lynx_rules.proofs.Steps.{answer-lawful, begins_visiting-lawful, delivery-lawful}
use Rattle.lynx_server.specs.inner.Begins.{IsDue}
use Rattle.lynx_server.specs.Books.{BooksState}
use Rattle.lynx_server.specs.History.{IsLawfulAfter, IsLawfulHistory, grown}
use Rattle.lynx_server.specs.Serving.{Becomes, Begins as BeginsSo, Delivers as DeliversSo, Serving, delivery_of}
use Rattle.lynx_server.specs.inner.Repeating.{HasAdded, HasRepeated, IsIdle, IsReplayed, Repeats, again, held_again}
use Rattle.lynx_entry.specs.Answers.{is_undelivered, is_unserved}
use Rattle.std.specs.Bool.{Decides}
use Rattle.std.proofs.lemmas.Option.{slice_get_past}
use Rattle.std.proofs.lemmas.List.Sums.{sum_by-append}
use Rattle.std.proofs.Math.Seq.{take-suc}
use Rattle.lynx_server.proofs.Chains.{get_last}
use Rattle.lynx_server.proofs.Growing.{lawful-push}
use Rattle.lynx_server.proofs.Due.{due-answer, due-by}

pub count_first : (test : Entry → Bool) (entry : Entry) (history : History) →
    count_by test (entry ∷ history) ≡ (0 + cond (test entry) 1 0) + count_by test history
count_first test entry history = sum_by-append (λ e. cond (test e) 1 0) (entry ∷ []) history

-- each chain of a lawful history visits its server
home_after : (set : Set) (server : ℕ) (before history : History) → IsLawfulAfter set server before history →
    count_by (begins_visiting set server) history ≡ count_by is_begun history
home_after set server before [] lawful = refl
home_after set server before (entry ∷ history) lawful =
    count_first (begins_visiting set server) entry history
    ∙ ap (λ b. (0 + cond b 1 0) + count_by (begins_visiting set server) history) (begins_visiting-lawful set server before entry lawful.0)
    ∙ ap (λ n. (0 + cond (is_begun entry) 1 0) + n) (home_after set server (before ++ entry ∷ []) history lawful.1)
    ∙ sym (count_first is_begun entry history)

home_lawful : (set : Set) (server : ℕ) (history : History) → IsLawfulHistory set server history →
    number_for set history server ≡ begun_count history
home_lawful set server history lawful = home_after set server [] history lawful

-- nothing is there
nothing : {X : Type 0} (o : Option X) → IsNone o → o ≡ None
nothing None none = refl
nothing (Some x) none = cc

eq_self : (n : ℕ) → nat_eq n n ≡ true
eq_self n = eq-eqb n n refl

-- a history with room isn't full
not_full : (history : History) (told : ℕ) → HasRoom history told → is_full history told ≡ false
not_full history told room =
    or_from _ _ (not_from_true _ (lt-ltb _ _ room.entries)) (not_from_true _ (lt-ltb _ _ room.stamps))

-- a server whose turn is its count isn't busy
not_busy : (set : Set) (server : ℕ) (history : History) → number_for set history server ≡ begun_count history →
    number_for set history server ≡ turn_of set server history server → is_busy set server history ≡ false
not_busy set server history home in_turn =
    ap (λ turn. not (nat_eq turn (begun_count history))) (sym in_turn ∙ home) ∙ ap not (eq_self (begun_count history))

-- a lawful begin is due
begin_due : (set : Set) (server : ℕ) (history : History) (request : Request) (seen : ℕ) →
    number_for set history server ≡ begun_count history → HasRoom history seen → MayBegin set server history request →
    IsDue (record { set = set; server = server; history = history; out = None }) request seen
begin_due set server history request seen home room may_begin = record {
  new = nothing _ may_begin.new;
  in_order = nothing _ may_begin.in_order;
  room = not_full history seen room;
  not_busy = not_busy set server history home may_begin.in_turn;
}

-- a server adds the lawful entry of a begun chain
adds_begun : (set : Set) (server : ℕ) (history : History) (begun : BegunEntry) → number_for set history server ≡ begun_count history →
    IsLawfulBegun set server history begun → (answer set server history begun.request begun.seen).added ≡ Some (Begun begun)
adds_begun set server history begun home lawful =
    let books : BooksState = record { set = set; server = server; history = history; out = None } in
    let is = begin_due set server history begun.request begun.seen home lawful.room lawful.may_begin in
    let came = due-answer books begun.request begun.seen is ∙ due-by books begun.request begun.seen (Ok (begun.results, lawful.results.0)) lawful.results.1 in
    ap (λ (b : Begins). b.added) came
    ∙ ap (λ n. Some (Begun (record { request = begun.request; seen = begun.seen; chain = record { origin = server; index = begun_count history }; numbers = n; stamp = max (clock_of history) begun.seen + 1; results = begun.results }))) (sym lawful.numbers)
    ∙ ap (λ s. Some (Begun (record { request = begun.request; seen = begun.seen; chain = record { origin = server; index = begun_count history }; numbers = begun.numbers; stamp = s; results = begun.results }))) (sym lawful.stamp)
    ∙ ap (λ o. Some (Begun (record { request = begun.request; seen = begun.seen; chain = record { origin = o; index = begun_count history }; numbers = begun.numbers; stamp = begun.stamp; results = begun.results }))) (sym lawful.origin)
    ∙ ap (λ i. Some (Begun (record { request = begun.request; seen = begun.seen; chain = record { origin = begun.chain.origin; index = i }; numbers = begun.numbers; stamp = begun.stamp; results = begun.results }))) (sym lawful.index)

-- .. of a refused one
adds_refused : (set : Set) (server : ℕ) (history : History) (refused : RefusedEntry) → number_for set history server ≡ begun_count history →
    IsLawfulRefused set server history refused → (answer set server history refused.request refused.seen).added ≡ Some (Refused refused)
adds_refused set server history refused home lawful =
    let books : BooksState = record { set = set; server = server; history = history; out = None } in
    let is = begin_due set server history refused.request refused.seen home lawful.room lawful.may_begin in
    let came = due-answer books refused.request refused.seen is ∙ due-by books refused.request refused.seen _ lawful.need in
    ap (λ (b : Begins). b.added) came
    ∙ ap (λ s. Some (Refused (record { request = refused.request; seen = refused.seen; need = refused.need; stamp = s }))) (sym lawful.stamp)

-- the hop of a lawful entry runs, whatever is held
delivers_hop : (set : Set) (server room : ℕ) (history : History) (held : List Message) (ran : HopEntry) →
    IsLawfulHop set server history ran → delivery set server room history held ran.message ≡ done_at set held ran.message ran.stamp ran.results
delivers_hop set server room history held ran lawful =
    let message = ran.message in
    let number = unwrap_or (number_at message.numbers server) 0 in
    let turn = turn_of set server history message.chain.origin in
    let low : turn ≤ number = omega (arith, lawful.in_turn) in
    let high : number ≤ turn = omega (arith, lawful.in_turn) in
    let outcome = meaning set message.program message.hop message.args message.results (tables_of set history) in
    let malformed : Delivers = record { delivered = deliveries.Malformed; added = None; held = held } in
    let full : Delivers = record { delivered = deliveries.Full; added = None; held = held } in
    ap (λ b. if b then deliver_new set server room history held message (hop_entry_of message.chain message.hop history) else malformed) lawful.well_formed
    ∙ ap (deliver_new set server room history held message) (nothing _ lawful.new)
    ∙ ap (λ b. if b then malformed else (if nat_lt turn number then early room held message
    else (if is_full history message.stamp then full else done_by set history held message outcome))) (le-ltb number turn low)
    ∙ ap (λ b. if b then early room held message
    else (if is_full history message.stamp then full else done_by set history held message outcome)) (le-ltb turn number high)
    ∙ ap (λ b. if b then full else done_by set history held message outcome) (not_full history message.stamp lawful.room)
    ∙ ap (done_by set history held message) lawful.results.1
    ∙ ap (λ s. done_at set held message s ran.results) (sym lawful.stamp)

-- A server adds each lawful entry when it is asked for what that did.
pub adds_lawful : {K : Type 0} (old : Serving K) (entry : Entry) → number_for old.set old.history old.server ≡ begun_count old.history →
    IsLawful old.set old.server old.history entry → again old entry ≡ Some entry
adds_lawful old (Begun begun) home lawful = adds_begun old.set old.server old.history begun home lawful
adds_lawful old (Refused refused) home lawful = adds_refused old.set old.server old.history refused home lawful
adds_lawful old (Hop ran) home lawful =
    ap (λ (d : Delivers). d.added) (delivers_hop old.set old.server MAX_HELD old.history old.held ran lawful)

-- where nothing was held, nothing is
holds_nothing : {K : Type 0} (old : Serving K) (entry : Entry) → IsLawful old.set old.server old.history entry → old.held ≡ [] →
    held_again old entry ≡ []
holds_nothing old (Begun begun) lawful none = none
holds_nothing old (Refused refused) lawful none = none
holds_nothing old (Hop ran) lawful none =
    ap (λ (d : Delivers). d.held) (delivers_hop old.set old.server MAX_HELD old.history old.held ran lawful)
    ∙ ap (filter (λ other. not (same_hop other ran.message))) none

-- what is added by a begin is lawful
started : (set : Set) (server : ℕ) (history : History) (added : Option Entry) (entry : Entry) → added ≡ Some entry →
    IfSome added (Starts set server history) → IsLawful set server history entry
started set server history None entry is starts = cc
started set server history (Some other) entry is starts =
    let same : other ≡ entry = cc in
    subst (IsLawful set server history) same starts.lawful

ran_lawful : (set : Set) (server : ℕ) (history : History) (message : Message) (added : Option Entry) (entry : Entry) → added ≡ Some entry →
    IfSome added (Runs set server history message) → IsLawful set server history entry
ran_lawful set server history message None entry is runs = cc
ran_lawful set server history message (Some other) entry is runs =
    let same : other ≡ entry = cc in
    subst (IsLawful set server history) same runs.lawful

-- Whatever a server adds is lawful.
pub added_lawful : {K : Type 0} (old : Serving K) (entry : Entry) → number_for old.set old.history old.server ≡ begun_count old.history →
    again old entry ≡ Some entry → IsLawful old.set old.server old.history entry
added_lawful old (Begun begun) home is =
    started old.set old.server old.history _ (Begun begun) is (answer-lawful old.set old.server old.history begun.request begun.seen home)
added_lawful old (Refused refused) home is =
    started old.set old.server old.history _ (Refused refused) is (answer-lawful old.set old.server old.history refused.request refused.seen home)
added_lawful old (Hop ran) home is =
    ran_lawful old.set old.server old.history ran.message _ (Hop ran) is (delivery-lawful old.set old.server MAX_HELD old.history old.held ran.message)

-- a keeper that never fails
abbrev pub NeverFails : {K : Type 0} → Terms K → Type 0
NeverFails {K} terms = (keeper : K) → terms.counted keeper ≡ 0

-- .. has no count that rises
pub never_rises : {K : Type 0} (terms : Terms K) (old new : K) → NeverFails terms → HasRisen (terms.counted old) (terms.counted new) → ⊥
never_rises terms old new never rose = let none = never new in omega (arith, rose, none)

-- a server that runs goes on with what was added
goes_on : {K : Type 0} {old new : Serving K} {added : Option Entry} {held : List Message} → Becomes old added held new →
    old.is_stopped ≡ false → HasAdded old added held new
goes_on becomes runs = record {
  set_is = becomes.set_is;
  server_is = becomes.server_is;
  history_is = becomes.history_is;
  held_is = becomes.held_is;
  acknowledged_is = becomes.acknowledged_is;
  runs = becomes.stopped_is ∙ runs;
}

-- a begin over a keeper that never fails
pub begun_again : {K : Type 0} (terms : Terms K) → NeverFails terms → (old : Serving K) (request : Request) (seen : ℕ) (given : Answer) (new : Serving K) → old.is_stopped ≡ false →
    is_unserved given ≡ false → BeginsSo terms old request seen given new →
    HasAdded old (answer old.set old.server old.history request seen).added old.held new
begun_again terms never old request seen answers.Memory new runs served is = cc
begun_again terms never old request seen answers.Stopped new runs served is = absurd (never_rises terms old.keeper new.keeper never is.rose)
begun_again terms never old request seen (answers.Begun chain stamp results was) new runs served is = goes_on is.becomes runs
begun_again terms never old request seen answers.Clash new runs served is = goes_on is.becomes runs
begun_again terms never old request seen answers.UnknownProgram new runs served is = goes_on is.becomes runs
begun_again terms never old request seen answers.WrongOrigin new runs served is = goes_on is.becomes runs
begun_again terms never old request seen answers.ArgCount new runs served is = goes_on is.becomes runs
begun_again terms never old request seen answers.OutsideRange new runs served is = goes_on is.becomes runs
begun_again terms never old request seen answers.WrongShard new runs served is = goes_on is.becomes runs
begun_again terms never old request seen answers.Full new runs served is = goes_on is.becomes runs
begun_again terms never old request seen answers.Busy new runs served is = goes_on is.becomes runs
begun_again terms never old request seen (answers.Refused need stamp was) new runs served is = goes_on is.becomes runs

-- a delivery over a keeper that never fails
pub delivered_again : {K : Type 0} (terms : Terms K) → NeverFails terms → (old : Serving K) (message : Message) (given : Delivered) (new : Serving K) → old.is_stopped ≡ false →
    is_undelivered given ≡ false → DeliversSo terms old message given new → HasAdded old (delivery_of old message).added (delivery_of old message).held new
delivered_again terms never old message deliveries.Memory new runs served is = cc
delivered_again terms never old message deliveries.Stopped new runs served is = absurd (never_rises terms old.keeper new.keeper never is.rose)
delivered_again terms never old message (deliveries.Done stamp results next) new runs served is = goes_on is.becomes runs
delivered_again terms never old message (deliveries.Repeat stamp results next) new runs served is = goes_on is.becomes runs
delivered_again terms never old message deliveries.Held new runs served is = goes_on is.becomes runs
delivered_again terms never old message deliveries.Dropped new runs served is = goes_on is.becomes runs
delivered_again terms never old message deliveries.Malformed new runs served is = goes_on is.becomes runs
delivered_again terms never old message deliveries.Full new runs served is = goes_on is.becomes runs

-- a server that added just the entry repeated it
pub repeated : {K : Type 0} (old new : Serving K) (entry : Entry) (added : Option Entry) →
    number_for old.set old.history old.server ≡ begun_count old.history → IsIdle old → again old entry ≡ added →
    HasAdded old added (held_again old entry) new → slice_get new.history (length old.history) ≡ Some entry → HasRepeated old entry new
repeated old new entry None home idle is goes there = absurd (nothing_there old.history entry (ap (λ h. slice_get h (length old.history)) (sym goes.history_is) ∙ there))
  where
    nothing_there : (history : History) (e : Entry) → slice_get history (length history) ≡ Some e → ⊥
    nothing_there history e is = let none = slice_get_past history (length history) (omega arith) in cc
repeated old new entry (Some other) home idle is goes there =
    let same : other ≡ entry = last_is other (sym (get_last old.history other) ∙ ap (λ h. slice_get h (length old.history)) (sym goes.history_is) ∙ there) in
    let lawful = added_lawful old entry home (is ∙ ap Some same) in
    record {
      lawful = lawful;
      set_is = goes.set_is;
      server_is = goes.server_is;
      history_is = goes.history_is ∙ ap (λ e. old.history ++ e ∷ []) same;
      idle = record {
        runs = goes.runs;
        held_is = goes.held_is ∙ holds_nothing old entry lawful idle.held_is;
        acknowledged_is = goes.acknowledged_is ∙ idle.acknowledged_is;
      };
    }
  where
    last_is : (o : Entry) → Some o ≡ Some entry → o ≡ entry
    last_is o e = cc

-- a server that did something else than the entry did had no lawful entry there
pub differs : {K : Type 0} (old new : Serving K) (entry : Entry) →
    number_for old.set old.history old.server ≡ begun_count old.history →
    HasAdded old (again old entry) (held_again old entry) new → (slice_get new.history (length old.history) ≡ Some entry → ⊥) →
    IsLawful old.set old.server old.history entry → ⊥
differs old new entry home goes other lawful =
    other (ap (λ h. slice_get h (length old.history)) (goes.history_is ∙ ap (grown old.history) (adds_lawful old entry home lawful))
    ∙ get_last old.history entry)

-- whether it did what the entry did
pub repeats : {K : Type 0} (old new : Serving K) (entry : Entry) (done : Bool) →
    IsLawfulHistory old.set old.server old.history → IsIdle old →
    HasAdded old (again old entry) (held_again old entry) new → Decides done (slice_get new.history (length old.history) ≡ Some entry) →
    Repeats old entry new done
repeats old new entry true lawful idle goes decides =
    repeated old new entry (again old entry) (home_lawful old.set old.server old.history lawful) idle refl goes (decides.0 refl)
repeats old new entry false lawful idle goes decides =
    differs old new entry (home_lawful old.set old.server old.history lawful) goes (λ there. let never = decides.1 there in cc)

-- one more entry of a replay
pub replayed_more : {K : Type 0} (set : Set) (server : ℕ) (entries : History) (place : ℕ) (d : Entry) (old new : Serving K) (done : Bool) →
    place < length entries → IsReplayed set server (take place entries) old → Repeats old (get_or entries place d) new done → done ≡ true →
    IsReplayed set server (take (place + 1) entries) new
replayed_more set server entries place d old new false within is did done_is = cc
replayed_more set server entries place d old new true within is did done_is =
    let entry = get_or entries place d in
    let more : take (place + 1) entries ≡ take place entries ++ entry ∷ [] = ap (λ n. take n entries) (add-one place) ∙ take-suc entries place d within in
    let lawful : IsLawful set server (take place entries) entry =
    subst (λ s. IsLawful s server (take place entries) entry) is.set_is
    (subst (λ v. IsLawful old.set v (take place entries) entry) is.server_is
    (subst (λ h. IsLawful old.set old.server h entry) is.history_is did.lawful)) in
    record {
      set_is = did.set_is ∙ is.set_is;
      server_is = did.server_is ∙ is.server_is;
      history_is = did.history_is ∙ ap (λ h. h ++ entry ∷ []) is.history_is ∙ sym more;
      idle = did.idle;
      lawful = subst (IsLawfulHistory set server) (sym more) (lawful-push set server (take place entries) entry is.lawful lawful);
    }
