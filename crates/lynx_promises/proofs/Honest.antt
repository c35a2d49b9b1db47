-- All that sessions were told stands, in time, and no two of them by one entry, whatever happens.
use Rattle.std.proofs.Common.{◌≡◌, ◌∙◌, ℕ, zero, suc, ◌≤◌, Bool, true, false, nat_lt, if◌then◌else◌, List, [], ◌∷◌, ◌++◌, Option, Some, None, IfSome, All, replicate, slice_get, unwrap_or, count_by, inl, inr, refl, sym, ap, subst, arith}
use Rattle.std.proofs.lemmas.Bool.{ltb-true}
use Rattle.std.proofs.lemmas.List.Elements.{All-nil}
use Rattle.std.proofs.lemmas.List.Sums.{count_by-le-length}
use Rattle.lynx_names.specs.declared.limits.TheConstants.{MAX_HELD}
use Rattle.lynx_set.specs.Set.{Set}
use Rattle.lynx_entry.specs.declared.entry.Entry.{Entry}
use Rattle.lynx_entry.specs.declared.event.Event.{Event}
use Rattle.lynx_entry.specs.declared.event.Event.TheVariants.{Begin, Restart}
use Rattle.lynx_entry.specs.declared.event.Outcome.TheVariants.{NoServer}
use Rattle.lynx_entry.specs.declared.message.Message.{Message}
use Rattle.lynx_entry.specs.declared.request.Request.{Request}
use Rattle.lynx_rules.specs.Answers.{answer}
use Rattle.lynx_server.specs.Acts.{act_of}
use Rattle.lynx_world.specs.Legal.{IsLegal, IsSent, MayFollow}
use Rattle.lynx_world.specs.Placed.{Placed}
use Rattle.lynx_world.specs.Steps.{begin_at, list_with, stays, step}
use Rattle.lynx_world.specs.Worlds.{WorldState, history_of}
use Rattle.lynx_world.proofs.Events.{IsSound, set_step, sound_step, stepped}
use Rattle.lynx_world.proofs.LegalSteps.{begun-may_follow}
use Rattle.lynx_world.proofs.Members.{IsIn, in-push}
use Rattle.lynx_weave.specs.declared.told.ToldItem.{ToldItem}
use Rattle.lynx_weave.specs.Told.{greatest_told, is_fresh_by, stands}
use Rattle.lynx_weave.specs.Weaving.{IsInTime, all_told}
use Rattle.lynx_promises.specs.Stops.{Happening, Asks, Looks, Comes, Stops, Past, after, after_all, past_of, seen_of, told_of, told_to, with_told, world_with}
use Rattle.lynx_promises.proofs.Agreeing.{stale_for_new, stands_on}
use Rattle.lynx_promises.proofs.Telling.{IsTelling, telling_begin, telling_look, telling_none}
use Rattle.lynx_promises.proofs.ToldLists.{all_with, count_none, count_with, in_time_none, in_time_with, none_told, to_with, told_in, told_none}

-- all that was told stands in the list, in time, and no two items are fresh by one entry
pub record IsHonest (list : List Placed) (told : List (List ToldItem)) : Type 0 where
  pub stand : (item : ToldItem) → IsIn item (all_told told) → stands list item ≡ true
  pub in_time : (session : ℕ) → IsInTime (told_to told session)
  pub once : (placed : Placed) → IsIn placed list → count_by (is_fresh_by placed) (all_told told) ≤ 1

-- ---- what is told behind a list that stays

honest_told : (list : List Placed) (told : List (List ToldItem)) (session : ℕ) (items : List ToldItem) → IsHonest list told →
    IsTelling list list (greatest_told (told_to told session)) items → IsHonest list (with_told told session items)
honest_told list told session items honest telling = record {
  stand = λ item there. elim (all_with told session items item there) [
    | inl old ↦ honest.stand item old
    | inr new ↦ telling.stand item new
  ];
  in_time = λ other. to_with IsInTime told session other items (honest.in_time other)
      (in_time_with (told_to told session) items (honest.in_time session) telling.few telling.late);
  once = λ placed there.
      let more = count_with (is_fresh_by placed) told session items in
      let none = count_none (is_fresh_by placed) items (λ item is. telling.apart placed item there is) in
      let old = honest.once placed there in omega arith;
}

-- ---- a list with one more entry

-- nothing that was told is fresh by it
none_new : (set : Set) (list : List Placed) (told : List (List ToldItem)) (last : Placed) → IsLegal set list → MayFollow set list last → IsHonest list told →
    count_by (is_fresh_by last) (all_told told) ≡ 0
none_new set list told last legal may honest =
    count_none (is_fresh_by last) (all_told told) (λ item there. stale_for_new set list last item legal may (honest.stand item there))

honest_push : (set : Set) (list : List Placed) (told : List (List ToldItem)) (last : Placed) → IsLegal set list → MayFollow set list last → IsHonest list told →
    IsHonest (list ++ last ∷ []) told
honest_push set list told last legal may honest = record {
  stand = λ item there. stands_on list last item (honest.stand item there);
  in_time = honest.in_time;
  once = λ placed there. elim (in-push placed last list there) [
    | inl old ↦ honest.once placed old
    | inr same ↦ subst (λ p. count_by (is_fresh_by p) (all_told told) ≤ 1) same (let none = none_new set list told last legal may honest in omega arith)
  ];
}

honest_grown : (set : Set) (list : List Placed) (told : List (List ToldItem)) (server : ℕ) (added : Option Entry) → IsLegal set list →
    IfSome added (λ entry. MayFollow set list (record { server = server; entry = entry })) → IsHonest list told → IsHonest (list_with server added list) told
honest_grown set list told server None legal may honest = honest
honest_grown set list told server (Some entry) legal may honest = honest_push set list told (record { server = server; entry = entry }) legal may honest

-- and what is told of it
honest_pushed : (set : Set) (list : List Placed) (told : List (List ToldItem)) (last : Placed) (session : ℕ) (items : List ToldItem) → IsLegal set list → MayFollow set list last →
    IsHonest list told → IsTelling list (list ++ last ∷ []) (greatest_told (told_to told session)) items → IsHonest (list ++ last ∷ []) (with_told told session items)
honest_pushed set list told last session items legal may honest telling = record {
  stand = λ item there. elim (all_with told session items item there) [
    | inl old ↦ stands_on list last item (honest.stand item old)
    | inr new ↦ telling.stand item new
  ];
  in_time = λ other. to_with IsInTime told session other items (honest.in_time other)
      (in_time_with (told_to told session) items (honest.in_time session) telling.few telling.late);
  once = λ placed there.
      let more = count_with (is_fresh_by placed) told session items in
      elim (in-push placed last list there) [
        | inl before ↦
            let none = count_none (is_fresh_by placed) items (λ item is. telling.apart placed item before is) in
            let old = honest.once placed before in omega arith
        | inr same ↦
            let none = subst (λ p. count_by (is_fresh_by p) (all_told told) ≡ 0) same (none_new set list told last legal may honest) in
            let few = count_by-le-length (is_fresh_by placed) items in
            let one = telling.few in omega arith
      ];
}

honest_with : (set : Set) (list : List Placed) (told : List (List ToldItem)) (server : ℕ) (added : Option Entry) (session : ℕ) (items : List ToldItem) → IsLegal set list →
    IfSome added (λ entry. MayFollow set list (record { server = server; entry = entry })) → IsHonest list told →
    IsTelling list (list_with server added list) (greatest_told (told_to told session)) items → IsHonest (list_with server added list) (with_told told session items)
honest_with set list told server None session items legal may honest telling = honest_told list told session items honest telling
honest_with set list told server (Some entry) session items legal may honest telling =
    honest_pushed set list told (record { server = server; entry = entry }) session items legal may honest telling

-- ---- what happens

-- the servers, and what was told
pub record IsFair (past : Past) : Type 0 where
  pub sound : IsSound past.world
  pub honest : IsHonest past.world.list past.told

-- an event of which nothing is told
fair_event : (world : WorldState) (told : List (List ToldItem)) (event : Event) → IsSound world → IsHonest world.list told →
    IsHonest (step MAX_HELD world event).world.list told
fair_event world told event sound honest =
    let by = stepped MAX_HELD world event sound in
    subst (λ l. IsHonest l told) (sym by.list_is) (honest_grown world.set world.list told by.server by.added sound.legal by.may honest)

-- a begin, and what the session is told
fair_begin : (world : WorldState) (told : List (List ToldItem)) (session server : ℕ) (request : Request) → IsSound world → IsHonest world.list told →
    (within : Bool) → nat_lt server world.set.servers ≡ within →
    let begun = if within then begin_at world server (answer world.set server (history_of server world.list) request (greatest_told (told_to told session))) else stays world NoServer in
    IsHonest begun.world.list (with_told told session (told_of server request begun.outcome))
fair_begin world told session server request sound honest true within =
    let items = told_to told session in
    let begins = answer world.set server (history_of server world.list) request (greatest_told items) in
    honest_with world.set world.list told server begins.added session (told_of server request (begin_at world server begins).outcome) sound.legal
    (begun-may_follow world.set world.list server request (greatest_told items) begins sound.legal (ltb-true _ _ within) refl) honest
    (telling_begin world.set world.list server request items sound.legal (ltb-true _ _ within) (λ item there. honest.stand item (told_in told session item there)))
fair_begin world told session server request sound honest false within =
    honest_told world.list told session [] honest (telling_none world.list world.list (greatest_told (told_to told session)))

sound_with : (world : WorldState) (event : Option Event) → IsSound world → IsSound (world_with world event)
sound_with world None sound = sound
sound_with world (Some event) sound = sound_step MAX_HELD world event sound

honest_event : (world : WorldState) (told : List (List ToldItem)) (event : Option Event) → IsSound world → IsHonest world.list told → IsHonest (world_with world event).list told
honest_event world told None sound honest = honest
honest_event world told (Some event) sound honest = fair_event world told event sound honest

fair_after : (past : Past) (happening : Happening) → IsFair past → IsFair (after past happening)
fair_after past (Asks session server request) fair = record {
  sound = sound_step MAX_HELD past.world (Begin server request (greatest_told (told_to past.told session))) fair.sound;
  honest = fair_begin past.world past.told session server request fair.sound fair.honest (nat_lt server past.world.set.servers) refl;
}
fair_after past (Looks session server chain hop) fair = record {
  sound = fair.sound;
  honest = honest_told past.world.list past.told session (seen_of server chain hop (act_of chain hop (history_of server past.world.list))) fair.honest
      (telling_look past.world.list server chain hop (greatest_told (told_to past.told session)));
}
fair_after past (Comes event) fair = record {
  sound = sound_step MAX_HELD past.world event fair.sound;
  honest = fair_event past.world past.told event fair.sound fair.honest;
}
fair_after past (Stops server event) fair = record {
  sound = sound_step MAX_HELD (world_with past.world event) (Restart server) (sound_with past.world event fair.sound);
  honest = fair_event (world_with past.world event) past.told (Restart server) (sound_with past.world event fair.sound)
      (honest_event past.world past.told event fair.sound fair.honest);
}

pub fair_after_all : (past : Past) (happenings : List Happening) → IsFair past → IsFair (after_all past happenings)
fair_after_all past [] fair = fair
fair_after_all past (happening ∷ happenings) fair = fair_after_all (after past happening) happenings (fair_after past happening fair)

-- ---- the start

-- nothing is held where nothing is held at each place
pub none_held : (P : List Message → Type 0) (count server : ℕ) → P [] → P (unwrap_or (slice_get (replicate count []) server) [])
none_held P zero server none = none
none_held P (suc count) zero none = none
none_held P (suc count) (suc server) none = none_held P count server none

-- servers that are opened over a legal list, and sessions that were told nothing
pub fair_past : (set : Set) (list : List Placed) (sessions : ℕ) → IsLegal set list → IsFair (past_of set list sessions)
fair_past set list sessions legal = record {
  sound = record {
    legal = legal;
    sent = λ server. none_held (All (IsSent set list)) set.servers server (All-nil (IsSent set list));
  };
  honest = record {
    stand = λ item there. absurd (subst (IsIn item) (none_told sessions) there);
    in_time = λ session. told_none IsInTime sessions session in_time_none;
    once = λ placed there.
        let none : count_by (is_fresh_by placed) (all_told (replicate sessions [])) ≡ 0 = ap (count_by (is_fresh_by placed)) (none_told sessions) in
        omega arith;
  };
}

-- ---- the set stays

set_with_event : (world : WorldState) (event : Option Event) → (world_with world event).set ≡ world.set
set_with_event world None = refl
set_with_event world (Some event) = set_step MAX_HELD world event

set_after : (past : Past) (happening : Happening) → (after past happening).world.set ≡ past.world.set
set_after past (Asks session server request) = set_step MAX_HELD past.world (Begin server request (greatest_told (told_to past.told session)))
set_after past (Looks session server chain hop) = refl
set_after past (Comes event) = set_step MAX_HELD past.world event
set_after past (Stops server event) = set_step MAX_HELD (world_with past.world event) (Restart server) ∙ set_with_event past.world event

pub set_stays : (past : Past) (happenings : List Happening) → (after_all past happenings).world.set ≡ past.world.set
set_stays past [] = refl
set_stays past (happening ∷ happenings) = set_stays (after past happening) happenings ∙ set_after past happening
