-- The numbers of faults.
use Rattle.std.specs.Prelude.{ℕ}
use Rattle.lynx_codec.specs.declared.fault.DecodeFault.{DecodeFault}
use Rattle.lynx_codec.specs.declared.fault.DecodeFault.TheVariants as faults

abbrev pub number_of : DecodeFault → ℕ
number_of faults.Short = 1
number_of faults.BadTag = 2
number_of faults.BadLength = 3
number_of faults.OutOfRange = 4
number_of faults.Memory = 5
