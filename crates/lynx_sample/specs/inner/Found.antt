-- Why no script was found, before anything is written.
use Rattle.std.specs.Prelude.{◌≡◌, Bool, true}
use Rattle.lynx_sample.specs.declared.fault.SampleFault.{SampleFault}
use Rattle.lynx_sample.specs.declared.fault.SampleFault.TheVariants.{Run, NoCycle, TooLong}
use Rattle.lynx_report.specs.declared.run.RunFault.TheVariants.{Memory}

-- a cycle was asked for, or a script was too long, or memory was wanting
abbrev pub NotFoundFor : Bool → SampleFault → Type 0
NotFoundFor cycle (Run fault) = fault ≡ Memory
NotFoundFor cycle NoCycle = cycle ≡ true
NotFoundFor cycle TooLong = Unit {0}
