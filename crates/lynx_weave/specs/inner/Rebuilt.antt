-- Servers made of histories.
use Rattle.std.specs.Prelude.{◌≡◌, ℕ, List, length, slice_get, Some, Result, Ok, Err}
use Rattle.lynx_set.specs.Set.{Set}
use Rattle.lynx_entry.specs.Entry.{History}
use Rattle.lynx_keep.specs.Kept.{KeptState}
use Rattle.lynx_server.specs.History.{IsFirstUnlawful}
use Rattle.lynx_server.specs.Rebuilding.{IsRebuilt}
use Rattle.lynx_server.specs.Serving.{Serving}
use Rattle.lynx_world.specs.Servers.{Servers}
use Rattle.lynx_weave.specs.declared.fault.WeaveFault.{WeaveFault}
use Rattle.lynx_weave.specs.declared.fault.WeaveFault.TheVariants.{Mismatch, Told, Memory}
use Rattle.lynx_weave.specs.Weaving.{IsUnlawfulAt}

-- one server for each of the set, made of its history
pub record AreRebuilt (set : Set) (servers : Servers) : Type 0 where
  pub many : length servers ≡ set.servers
  pub each : (server : ℕ) (here : Serving KeptState) → slice_get servers server ≡ Some here →
      IsRebuilt set server here.history here

-- a server of this history, or where that is unlawful
abbrev pub RebuildsOne : Set → ℕ → History → Result (Serving KeptState) WeaveFault → Type 0
RebuildsOne set server history (Ok rebuilt) = IsRebuilt set server history rebuilt
RebuildsOne set server history (Err (Mismatch found place)) =
    (found ≡ server) × IsFirstUnlawful set server history place
RebuildsOne set server history (Err (Told session place)) = ⊥
RebuildsOne set server history (Err Memory) = Unit {0}

-- one of the histories is unlawful
abbrev pub IsRebuildFault : Set → List History → WeaveFault → Type 0
IsRebuildFault set histories (Mismatch server place) = IsUnlawfulAt set histories server place
IsRebuildFault set histories (Told session place) = ⊥
IsRebuildFault set histories Memory = Unit {0}
