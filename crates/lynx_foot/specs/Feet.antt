-- What the actions of a hop do to which cells.
use Rattle.std.specs.Prelude.{ℕ, List, map, Option, Some, None}
use Rattle.std.specs.List.{filter_map}
use Rattle.lynx_set.specs.declared.action.Action.{Action}
use Rattle.lynx_set.specs.declared.action.Action.TheVariants.{Get, Update, Let, Need}
use Rattle.lynx_set.specs.declared.action.Update.{Update as TheUpdate}
use Rattle.lynx_set.specs.declared.action.Update.TheVariants.{Set as SetTo, Add, Sub, Max}
use Rattle.lynx_set.specs.Set.{Set}
use Rattle.lynx_hops.specs.Meaning.{key_of}
use Rattle.lynx_foot.specs.declared.kind.Kind.{Kind}
use Rattle.lynx_foot.specs.declared.kind.Kind.TheVariants.{Getting, Setting, Adding, Raising}
use Rattle.lynx_foot.specs.declared.foot.Foot.{Foot}
use Rattle.lynx_foot.specs.declared.touch.Touch.{Touch}
use Rattle.lynx_set.specs.Lookups.{actions_at}

-- the kind of an update
abbrev pub kind_of : TheUpdate → Kind
kind_of SetTo = Setting
kind_of Add = Adding
kind_of Sub = Adding
kind_of Max = Raising

-- the foot of an action: `let` and `need` have none
abbrev pub foot_of : Action → Option Foot
foot_of (Get table key) = Some (record { table = table; key = key; kind = Getting })
foot_of (Update update table key value) =
    Some (record { table = table; key = key; kind = kind_of update })
foot_of (Let left operator right) = None
foot_of (Need left relation right) = None

-- the feet of a hop's actions, in order
abbrev pub footprint_of : Set → ℕ → ℕ → List Foot
footprint_of set program hop = filter_map foot_of (actions_at set program hop)

-- the cell and the kind of a foot, where the parameters have these arguments
abbrev pub touch_of : List ℕ → Foot → Touch
touch_of args foot = record { table = foot.table; key = key_of args foot.key; kind = foot.kind }

-- the touches of a hop's actions, in order
abbrev pub touches_of : Set → ℕ → ℕ → List ℕ → List Touch
touches_of set program hop args = map (touch_of args) (footprint_of set program hop)
