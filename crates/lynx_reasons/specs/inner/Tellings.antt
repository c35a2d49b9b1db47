-- Lines that are kept.
use Rattle.std.specs.Prelude.{◌≡◌}
use Rattle.lynx_set.specs.Set.{Set}
use Rattle.lynx_reasons.specs.Late.{abroad_lines}
use Rattle.lynx_reasons.specs.declared.late.Told.{Told}

-- the lines are those of what the hop meets
abbrev pub IsTold : Set → Told → Type 0
IsTold set told = told.lines ≡ abroad_lines set told.place
