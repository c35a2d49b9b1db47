-- What is promised holds of every legal list, and so of the list after any events.
use Rattle.std.proofs.Common.{◌≡◌, ◌∙◌, ℕ, List, Result, Ok, Err, inl, inr, ◌⊎◌, sym, ap, subst, arith}
use Rattle.std.proofs.lemmas.Option.{slice_get_within}
use Rattle.lynx_names.specs.declared.chain.ChainId.{ChainId}
use Rattle.lynx_set.specs.Rules.{IsSet}
use Rattle.lynx_set.specs.Set.{Set}
use Rattle.lynx_set.proofs.Literals.{literals_home}
use Rattle.lynx_graph.specs.Acceptance.{IsAccepted}
use Rattle.lynx_entry.specs.declared.event.Event.{Event}
use Rattle.lynx_entry.specs.Entry.{History}
use Rattle.lynx_keep.specs.Kept.{KeptState, Terms}
use Rattle.lynx_world.specs.Legal.{IsLegal}
use Rattle.lynx_world.specs.Placed.{Placed}
use Rattle.lynx_world.specs.Steps.{world_after}
use Rattle.lynx_world.specs.Worlds.{WorldState, new_world}
use Rattle.lynx_world.proofs.Events.{events_legal}
use Rattle.lynx_world.proofs.Once.{once_and_in_order}
use Rattle.lynx_world.proofs.Origins.{origin_order}
use Rattle.lynx_weave.specs.declared.told.ToldItem.{ToldItem}
use Rattle.lynx_weave.specs.declared.gather_fault.GatherFault.{GatherFault}
use Rattle.lynx_weave.specs.declared.gather_fault.GatherFault.TheVariants.{Load, Weave, Memory as NoRoom}
use Rattle.lynx_weave.specs.Gathering.{FindsAll, Gathers}
use Rattle.lynx_weave.specs.Parts.{ArePartsOf}
use Rattle.lynx_weave.specs.Weaving.{IsWoven}
use Rattle.lynx_weave.proofs.Gets.{item}
use Rattle.lynx_order.specs.Explained.{IsOrder}
use Rattle.lynx_order.specs.Explanations.{IsExplanation}
use Rattle.lynx_order.specs.Precedence.{IsCycle}
use Rattle.lynx_promises.specs.Promises.{AreSound, GathersWell, KeepParts, KeepsPromises, StandsOverStops}
use Rattle.lynx_promises.specs.Stops.{Happening, Past, after_all, past_of}
use Rattle.lynx_promises.proofs.Honest.{IsFair, fair_after_all, fair_past, set_stays}
use Rattle.lynx_promises.proofs.Alike.{answers_alike}
use Rattle.lynx_promises.proofs.Recorded.{one_entry_each, one_home_each}
use Rattle.lynx_promises.proofs.Unfalse.{never_told}
use Rattle.lynx_order.proofs.Judged.{accepted_order, no_cycle_accepted}
use Rattle.lynx_order.proofs.SomeOrder.{order_or_cycle}

explained : (set : Set) (list : List Placed) → IsSet set → IsLegal set list → IsAccepted set →
    ((chains : List ChainId) × IsOrder set list chains) ⊎ ((chains : List ChainId) × IsCycle set list chains) → (chains : List ChainId) × IsExplanation set list chains
explained set list is legal accepted (inl order) =
    (order.0, order.1.explains (literals_home set is))
explained set list is legal accepted (inr cycle) =
    absurd (no_cycle_accepted set list cycle.0 (literals_home set is) is.0.1 legal accepted cycle.1)

pub promised : (set : Set) (list : List Placed) → IsSet set → IsLegal set list → KeepsPromises set list
promised set list is legal = record {
  legal = legal;
  once = once_and_in_order set list legal;
  origins = origin_order set list is.0.1 legal;
  requests = λ server. one_entry_each set server list legal;
  homes = one_home_each set list legal;
  serial = λ accepted. explained set list is legal accepted (order_or_cycle set list legal);
  answer = λ accepted given right. accepted_order set list given is.0.1 legal right (literals_home set is) accepted;
}

pub headline : (set : Set) (events : List Event) → IsSet set → KeepsPromises set (world_after (new_world set) events).list
headline set events is = promised set (world_after (new_world set) events).list is (events_legal set events)

-- ---- over stops

-- what is fair keeps the promises
pub fair_stands : (set : Set) (past : Past) → IsSet set → past.world.set ≡ set → IsFair past → StandsOverStops set past
fair_stands set past is of fair =
    let legal = subst (λ s. IsLegal s past.world.list) of fair.sound.legal in record {
      promises = promised set past.world.list is legal;
      requests = answers_alike set past.world.list past.told legal fair.honest;
      agrees = λ histories fault parts no_want wrong. never_told set past.world.list histories past.told fault legal fair.honest parts no_want wrong;
    }

pub over_stops : (set : Set) (list : List Placed) (sessions : ℕ) (happenings : List Happening) → IsSet set → IsLegal set list →
    StandsOverStops set (after_all (past_of set list sessions) happenings)
over_stops set list sessions happenings is legal =
    let start = past_of set list sessions in
    fair_stands set (after_all start happenings) is (set_stays start happenings) (fair_after_all start happenings (fair_past set list sessions legal))

pub woven_promised : (set : Set) (histories : List History) (told : List (List ToldItem)) (world : WorldState) → IsSet set → IsWoven set histories told world → KeepsPromises set world.list
woven_promised set histories told world is woven = promised set world.list is woven.list_is.legal

-- ---- what keepers keep

-- what was read of keepers that keep their parts are the parts
parts_read : {K : Type 0} (terms : Terms K) (set : Set) (list : List Placed) (old new : List K) (histories : List History) → KeepParts terms set list old → AreSound terms set new →
    FindsAll terms old new histories → ArePartsOf set list histories
parts_read terms set list old new histories keep sound finds = record {
  many = finds.many ∙ keep.many;
  each = λ server history there.
      let within = slice_get_within histories server history there in
      let many = finds.many in
      let kept_many = keep.many in
      let sound_many = sound.many in
      let before = item old server (omega arith) in
      let after = item new server (omega arith) in
      let read = finds.each server before.0 after.0 history before.1 after.1 there in
      let kept = keep.each server before.0 before.1 in
      let same = read.finds.all (sound.each server after.0 after.1) kept.0 kept.1 in
      sym kept.2 ∙ ap (λ (k : KeptState). k.entries) same ∙ read.history_is;
}

pub gathers_well : {K : Type 0} (terms : Terms K) (set : Set) (past : Past) (old new : List K) (gathered : Result WorldState GatherFault) → IsSet set →
    StandsOverStops set past → KeepParts terms set past.world.list old → AreSound terms set new → Gathers terms set old new past.told gathered → GathersWell set gathered
gathers_well terms set past old new (Ok world) is stands keep sound gathers = woven_promised set gathers.histories past.told world is gathers.woven
gathers_well terms set past old new (Err (Weave fault)) is stands keep sound gathers =
    stands.agrees gathers.histories fault (parts_read terms set past.world.list old new gathers.histories keep sound gathers.finds) gathers.no_want gathers.unwoven
gathers_well terms set past old new (Err (Load server)) is stands keep sound gathers = tt
gathers_well terms set past old new (Err NoRoom) is stands keep sound gathers = tt

pub kept_gathers : {K : Type 0} (terms : Terms K) (set : Set) (list : List Placed) (sessions : ℕ) (happenings : List Happening) (old new : List K)
    (gathered : Result WorldState GatherFault) → IsSet set → IsLegal set list →
    let past = after_all (past_of set list sessions) happenings in
    KeepParts terms set past.world.list old → AreSound terms set new → Gathers terms set old new past.told gathered → GathersWell set gathered
kept_gathers terms set list sessions happenings old new gathered is legal keep sound gathers =
    gathers_well terms set (after_all (past_of set list sessions) happenings) old new gathered is (over_stops set list sessions happenings is legal) keep sound gathers
