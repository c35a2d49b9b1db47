-- What the searches of a graph come to.
use Rattle.std.specs.Prelude.{◌≡◌, false, ℕ, List, All, Option, Some, IsSome}
use Rattle.lynx_graph.specs.declared.nodes.Node.{Node}
use Rattle.lynx_check.specs.declared.search.Outcome.{Outcome}
use Rattle.lynx_check.specs.declared.search.Outcome.TheVariants.{Found, Nothing, Longer}
use Rattle.lynx_graph.specs.declared.visit.Visit.{Visit}
use Rattle.lynx_check.specs.inner.Marks.{leaves, table_within}
use Rattle.lynx_check.specs.inner.Tracing.{IsSound}

-- no walk leaves at the start, of whatever length
abbrev pub ClosesNone : List Node → Node → Type 0
ClosesNone nodes start =
    (further : ℕ) → leaves (table_within nodes start further) start false false ≡ false

-- no walk at all
abbrev pub HasNone : List Node → Type 0
HasNone nodes = All (ClosesNone nodes) nodes

-- the answer of a search from the start
abbrev pub Answers : List Node → Node → Option ℕ → Outcome → Type 0
Answers nodes start limit (Found walk) = IsSound nodes walk
Answers nodes start limit Nothing = ClosesNone nodes start
Answers nodes start limit Longer = IsSome limit

-- what was found takes the place of the best so far
abbrev pub better : Option (List Visit) → Outcome → Option (List Visit)
better best (Found walk) = Some walk
better best Nothing = best
better best Longer = best
