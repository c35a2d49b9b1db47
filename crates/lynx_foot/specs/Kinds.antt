-- Which actions on one cell may change places.
use Rattle.std.specs.Prelude.{Bool, true, false}
use Rattle.lynx_foot.specs.declared.kind.Kind.{Kind}
use Rattle.lynx_foot.specs.declared.kind.Kind.TheVariants.{Getting, Adding, Raising}

-- Getting commutes with Getting, Adding with Adding and Raising with Raising, nothing else
abbrev pub commute : Kind → Kind → Bool
commute Getting Getting = true
commute Adding Adding = true
commute Raising Raising = true
commute _ _ = false
