-- What a worker takes out of the rings.
use Rattle.std.specs.Prelude.{◌≡◌, ◌==◌, ◌++◌, ℕ, List, [], map, slice_get}
use Rattle.std.specs.List.{filter}
use Rattle.std.specs.Option.{option_map_or}
use Rattle.lynx_link.specs.EndLists.{EndLists}
use Rattle.lynx_link.specs.Rings.{Receiving}
use Rattle.lynx_link.specs.declared.parcel.Parcel.{Parcel}
use Rattle.lynx_worker.specs.declared.steps.Arrived.{Arrived}

-- all that was received from that server by these ends
abbrev pub received_from : EndLists → ℕ → List Parcel
received_from ends server = option_map_or (λ end. end.received) (slice_get ends.from server) []

-- the parcels as they came from that server
abbrev pub arrived_from : ℕ → List Parcel → List Arrived
arrived_from server parcels = map (λ parcel. record { from = server; parcel = parcel }) parcels

-- the parcels of those that came from that server
abbrev pub parcels_from : ℕ → List Arrived → List Parcel
parcels_from server arrived =
    map (λ one. one.parcel) (filter (λ one. server == one.from) arrived)

-- These parcels were taken out of a ring and added to the inbox as they came from that server, and
-- nothing else was.
pub record TakesOut (from : ℕ) (old : Receiving) (before : List Arrived) (new : Receiving)
    (after : List Arrived) : Type 0 where
  pub parcels : List Parcel
  pub taken : new.received ≡ old.received ++ parcels
  pub added : after ≡ before ++ arrived_from from parcels

-- All that was taken out of the rings was added to the inbox, each with the server that it came
-- from, and nothing else was.
pub record Takes (old : EndLists) (before : List Arrived) (new : EndLists) (after : List Arrived) :
    Type 0 where
  pub arrived : List Arrived
  pub added : after ≡ before ++ arrived
  pub taken : (server : ℕ)
      → received_from new server ≡ received_from old server ++ parcels_from server arrived
