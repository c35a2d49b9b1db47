-- The tests that decide the relations of conflicts.
use Rattle.std.specs.Prelude.{Bool, true, not, ◌==◌, ◌&&◌, List, Option, Some}
use Rattle.std.specs.List.{list_any}
use Rattle.lynx_set.specs.declared.interval.Interval.{Interval}
use Rattle.lynx_set.specs.Intervals.{meets}
use Rattle.lynx_foot.specs.declared.reach.Reach.{Reach}
use Rattle.lynx_foot.specs.declared.touch.Touch.{Touch}
use Rattle.lynx_foot.specs.Kinds.{commute}

-- whether two touches collide
abbrev pub collide : Touch → Touch → Bool
collide left right =
    left.table == right.table && left.key == right.key && not (commute left.kind right.kind)

-- whether some two touches of the lists collide
abbrev pub some_collide : List Touch → List Touch → Bool
some_collide lefts rights = list_any (λ left. list_any (λ right. collide left right) rights) lefts

-- whether keys of both intervals may meet
abbrev pub may_meet : Option Interval → Option Interval → Bool
may_meet (Some left) (Some right) = meets left right
may_meet left right = true

-- whether two reaches may collide
abbrev pub may_collide : Reach → Reach → Bool
may_collide left right =
    left.table == right.table && may_meet left.keys right.keys && not (commute left.kind right.kind)

-- whether some two reaches of the lists may collide
abbrev pub some_may_collide : List Reach → List Reach → Bool
some_may_collide lefts rights =
    list_any (λ left. list_any (λ right. may_collide left right) rights) lefts
