-- The tables at which two hops may conflict.
use Rattle.std.specs.Prelude.{Bool, ◌&&◌, ◌==◌, ℕ, List, map, filter}
use Rattle.std.specs.List.{enumerate_from, list_any}
use Rattle.lynx_set.specs.Set.{Set}
use Rattle.lynx_foot.specs.declared.reach.Reach.{Reach}
use Rattle.lynx_foot.specs.Reaches.{reaches_of}
use Rattle.lynx_foot.specs.Tests.{may_collide}
use Rattle.lynx_graph.specs.declared.meeting.Place.{Place}

-- whether some two reaches may collide in the table of that number
abbrev pub met_at : List Reach → List Reach → ℕ → Bool
met_at lefts rights table =
    list_any (λ left. left.table == table && list_any (may_collide left) rights) lefts

-- the names of the tables in which the hops may collide, in the order of the set
abbrev pub tables_met : Set → Place → Place → List (List ℕ)
tables_met set left right =
    map (λ numbered. numbered.1)
    (filter (λ numbered. met_at (reaches_of set left.program left.hop)
    (reaches_of set right.program right.hop) numbered.0) (enumerate_from 0 set.tables))
