-- The chart of a run.
use Rattle.std.proofs.Common.{◌≡◌, ℕ, List, ap, subst, ◌∙◌}
use Rattle.lynx_chart.specs.Charts.{chart_of}
use Rattle.lynx_chart.specs.Meetings.{AreMet}
use Rattle.lynx_set.specs.Set.{Set}
use Rattle.lynx_entry.specs.declared.event.Event.{Event}
use Rattle.lynx_entry.specs.declared.event.Outcome.{Outcome}
use Rattle.lynx_order.specs.declared.explained.Explained.{Explained}
use Rattle.lynx_world.specs.Worlds.{WorldState, new_world}
use Rattle.lynx_report.specs.declared.run.Ending.{Ending}
use Rattle.lynx_report.specs.Charts.{IsChart}
use Rattle.lynx_report.specs.Runs.{Explains, ending_of, outcomes_of, world_after}
use Rattle.lynx_report.proofs.RunLemmas.{world_after-set}

-- the chart of the world that the events made, with what they came to, is that of their run
pub is_chart : (set : Set) (events : List Event) (world : WorldState) (outcomes : List Outcome) (explained : Explained) (ending : Ending) (chart : List ℕ) →
    world ≡ world_after (new_world set) events → outcomes ≡ outcomes_of (new_world set) events → Explains world.set world.list explained →
    ending ≡ ending_of explained → chart ≡ chart_of world.set world.list outcomes explained → AreMet world.set world.list explained →
    IsChart set events ending chart
is_chart set events world outcomes explained ending chart same outcomes_are explains ending_is drawn met =
    let set_is : world.set ≡ set = ap (λ (w : WorldState). w.set) same ∙ world_after-set (new_world set) events in
    record {
      explained = explained;
      explains = subst (λ (w : WorldState). Explains set w.list explained) same (subst (λ (s : Set). Explains s world.list explained) set_is explains);
      ending_is = ending_is;
      drawn = drawn ∙ ap (λ (s : Set). chart_of s world.list outcomes explained) set_is
          ∙ ap (λ (w : WorldState). chart_of set w.list outcomes explained) same
          ∙ ap (λ (come : List Outcome). chart_of set (world_after (new_world set) events).list come explained) outcomes_are;
      linked = subst (λ (w : WorldState). AreMet set w.list explained) same (subst (λ (s : Set). AreMet s world.list explained) set_is met);
    }
