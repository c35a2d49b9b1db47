-- Parts of a close.
use Rattle.std.specs.Prelude.{◌≡◌, ◌≢◌, ◌<◌, ℕ, List, slice_get, Option, Some, None}
use Rattle.lynx_weave.specs.declared.counts.ServerCounts.{ServerCounts}
use Rattle.lynx_weave.specs.declared.fault.WeaveFault.{WeaveFault}
use Rattle.lynx_weave.specs.declared.fault.WeaveFault.TheVariants as weave
use Rattle.lynx_cluster.specs.declared.fault.CloseFault.{CloseFault}
use Rattle.lynx_cluster.specs.declared.fault.CloseFault.TheVariants.{Mismatch, Told, Stopped, Memory, Absent, Uncounted}

-- the fault of a close whose histories don't weave
abbrev pub close_fault : WeaveFault → CloseFault
close_fault (weave.Mismatch server place) = Mismatch server place
close_fault (weave.Told session place) = Told session place
close_fault weave.Memory = Memory

-- one of so many servers stopped, or memory was wanting
abbrev pub IsTakeFault : ℕ → CloseFault → Type 0
IsTakeFault servers (Stopped server) = server < servers
IsTakeFault servers Memory = Unit {0}
IsTakeFault servers (Mismatch server place) = ⊥
IsTakeFault servers (Told session place) = ⊥
IsTakeFault servers (Absent session) = ⊥
IsTakeFault servers (Uncounted server) = ⊥

-- all counts agree, or those of this server don't
abbrev pub IsFirstUncounted : List ServerCounts → Option ℕ → Type 0
IsFirstUncounted counts None =
    (server : ℕ) (its : ServerCounts) → slice_get counts server ≡ Some its → its.fresh ≡ its.begins
IsFirstUncounted counts (Some server) =
    (its : ServerCounts) × (slice_get counts server ≡ Some its) × (its.fresh ≢ its.begins)
