-- What is promised holds of a set that grew, as often as it did.
use Rattle.std.proofs.Common.{◌≡◌, ℕ, List, [], ◌∷◌, All, Result, sym, subst}
use Rattle.std.proofs.lemmas.List.Elements.{All-nil}
use Rattle.lynx_set.specs.Rules.{IsSet}
use Rattle.lynx_set.specs.Set.{Set}
use Rattle.lynx_extend.specs.Extends.{Extends}
use Rattle.lynx_keep.specs.Kept.{Terms}
use Rattle.lynx_weave.specs.declared.gather_fault.GatherFault.{GatherFault}
use Rattle.lynx_weave.specs.Gathering.{Gathers}
use Rattle.lynx_world.specs.Legal.{IsLegal, IsSent}
use Rattle.lynx_world.specs.Placed.{Placed}
use Rattle.lynx_world.specs.Worlds.{WorldState}
use Rattle.lynx_promises.specs.Growths.{Growth, AreGrowths, after_growths, grown, opened_by}
use Rattle.lynx_promises.specs.Promises.{AreSound, GathersWell, KeepParts, StandsOverStops}
use Rattle.lynx_promises.specs.Stops.{Happening, Past, after_all, past_of}
use Rattle.lynx_promises.proofs.Extended.{extended_legal}
use Rattle.lynx_promises.proofs.Honest.{IsFair, fair_after_all, fair_past, none_held, set_stays}
use Rattle.lynx_promises.proofs.Promised.{fair_stands, gathers_well}

fair_opened : (set : Set) (past : Past) → IsSet past.world.set → Extends past.world.set set → IsFair past → IsFair (opened_by set past)
fair_opened set past is extends fair = record {
  sound = record {
    legal = extended_legal past.world.set set past.world.list is extends fair.sound.legal;
    sent = λ server. none_held (All (IsSent set past.world.list)) set.servers server (All-nil (IsSent set past.world.list));
  };
  honest = fair.honest;
}

grown_fair : (set : Set) (past : Past) (growths : List Growth) → IsSet set → past.world.set ≡ set → IsFair past → AreGrowths set growths →
    IsFair (after_growths past growths) × ((after_growths past growths).world.set ≡ grown set growths)
grown_fair set past [] is of fair are = (fair, of)
grown_fair set past (growth ∷ growths) is of fair are =
    let opened = opened_by growth.set past in
    let its = fair_opened growth.set past (subst IsSet (sym of) is) (subst (λ s. Extends s growth.set) (sym of) are.1) fair in
    grown_fair growth.set (after_all opened growth.happenings) growths are.0 (set_stays opened growth.happenings) (fair_after_all opened growth.happenings its) are.2

grown_is : (set : Set) (growths : List Growth) → IsSet set → AreGrowths set growths → IsSet (grown set growths)
grown_is set [] is are = is
grown_is set (growth ∷ growths) is are = grown_is growth.set growths are.0 are.2

pub over_growths : (set : Set) (list : List Placed) (sessions : ℕ) (happenings : List Happening) (growths : List Growth) → IsSet set → IsLegal set list →
    AreGrowths set growths → StandsOverStops (grown set growths) (after_growths (after_all (past_of set list sessions) happenings) growths)
over_growths set list sessions happenings growths is legal are =
    let start = past_of set list sessions in
    let past = after_all start happenings in
    let its = grown_fair set past growths is (set_stays start happenings) (fair_after_all start happenings (fair_past set list sessions legal)) are in
    fair_stands (grown set growths) (after_growths past growths) (grown_is set growths is are) its.1 its.0

pub grown_gathers : {K : Type 0} (terms : Terms K) (set : Set) (list : List Placed) (sessions : ℕ) (happenings : List Happening) (growths : List Growth) (old new : List K)
    (gathered : Result WorldState GatherFault) → IsSet set → IsLegal set list → AreGrowths set growths →
    let past = after_growths (after_all (past_of set list sessions) happenings) growths in
    KeepParts terms (grown set growths) past.world.list old → AreSound terms (grown set growths) new →
    Gathers terms (grown set growths) old new past.told gathered → GathersWell (grown set growths) gathered
grown_gathers terms set list sessions happenings growths old new gathered is legal are keep sound gathers =
    gathers_well terms (grown set growths) (after_growths (after_all (past_of set list sessions) happenings) growths) old new gathered (grown_is set growths is are)
    (over_growths set list sessions happenings growths is legal are) keep sound gathers
