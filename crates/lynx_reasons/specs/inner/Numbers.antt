-- The numbers that programs have in a set without others.
use Rattle.std.specs.Prelude.{ℕ, zero, suc, ◌+◌, if◌then◌else◌}
use Rattle.lynx_reasons.specs.Culprits.{is_of}
use Rattle.lynx_reasons.specs.declared.culprit.Culprit.{Culprit}

-- how many of so many programs from that number on are left without these
abbrev pub number_from : Culprit → ℕ → ℕ → ℕ
number_from culprit first zero = 0
number_from culprit first (suc count) =
    if is_of culprit first then number_from culprit (first + 1) count
    else suc (number_from culprit (first + 1) count)

-- the number of a program that is left: so many before it are
abbrev pub number_of : Culprit → ℕ → ℕ
number_of culprit program = number_from culprit 0 program
