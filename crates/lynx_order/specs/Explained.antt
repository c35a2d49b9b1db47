-- What is told of a list by an order or a cycle of its chains.
use Rattle.std.specs.Prelude.{List}
use Rattle.lynx_names.specs.declared.chain.ChainId.{ChainId}
use Rattle.lynx_set.specs.Home.{AreLiteralsHome}
use Rattle.lynx_set.specs.Set.{Set}
use Rattle.lynx_world.specs.Placed.{Placed}
use Rattle.lynx_order.specs.declared.explained.Explained.{Explained}
use Rattle.lynx_order.specs.declared.explained.Explained.TheVariants.{Order, Cycle}
use Rattle.lynx_order.specs.Precedence.{KeepsPrecedence, IsCycle}
use Rattle.lynx_order.specs.Explanations.{AreTheBegun, IsExplanation}

-- an order of exactly the begun chains, in which each stands before those that it precedes, and
-- which explains the list, if the literal keys of the set lie at their servers
pub record IsOrder (set : Set) (list : List Placed) (chains : List ChainId) : Type 0 where
  pub the_begun : AreTheBegun list chains
  pub in_order : KeepsPrecedence set list chains
  pub explains : AreLiteralsHome set → IsExplanation set list chains

-- if an order is given, it is one
abbrev pub OrderIsRight : Set → List Placed → Explained → Type 0
OrderIsRight set list (Order chains) = IsOrder set list chains
OrderIsRight set list (Cycle chains) = Unit {0}

-- if a cycle is given, it is one
abbrev pub CycleIsRight : Set → List Placed → Explained → Type 0
CycleIsRight set list (Order chains) = Unit {0}
CycleIsRight set list (Cycle chains) = IsCycle set list chains

-- an order is given
abbrev pub GivesOrder : Explained → Type 0
GivesOrder (Order chains) = Unit {0}
GivesOrder (Cycle chains) = ⊥
