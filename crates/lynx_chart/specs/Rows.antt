-- The rows of a chart.
use Rattle.std.specs.Prelude.{◌==◌, nat_lt, ℕ, List, [], ◌∷◌, ◌++◌, count_by, if◌then◌else◌}
use Rattle.std.specs.List.{list_any}
use Rattle.lynx_entry.specs.Entry.{stamp_of}
use Rattle.lynx_world.specs.Placed.{Placed}
use Rattle.lynx_chart.specs.declared.spot.Spot.{Spot}

-- one stamp more, if it isn't among them
abbrev pub with_stamp : List ℕ → ℕ → List ℕ
with_stamp stamps stamp =
    if list_any (λ other. other == stamp) stamps then stamps else stamps ++ stamp ∷ []

-- the stamps of entries behind those, each once
abbrev pub stamps_behind : List ℕ → List Placed → List ℕ
stamps_behind stamps [] = stamps
stamps_behind stamps (placed ∷ list) =
    stamps_behind (with_stamp stamps (stamp_of placed.entry)) list

abbrev pub stamps_of : List Placed → List ℕ
stamps_of list = stamps_behind [] list

-- the row of a stamp: how many of the stamps are below it
abbrev pub row_of : List ℕ → ℕ → ℕ
row_of stamps stamp = count_by (λ other. nat_lt other stamp) stamps

-- where the box of a server's entry stands
abbrev pub spot_at : List ℕ → ℕ → ℕ → Spot
spot_at stamps server stamp = record { column = server; row = row_of stamps stamp }

abbrev pub spot_of : List ℕ → Placed → Spot
spot_of stamps placed = spot_at stamps placed.server (stamp_of placed.entry)
