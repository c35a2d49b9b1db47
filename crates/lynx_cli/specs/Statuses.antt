-- The exit statuses.
use Rattle.std.specs.Prelude.{ℕ, Bool, false, Result, Ok, Err}
use Rattle.lynx_cli.specs.declared.fault.Fault.{Fault}
use Rattle.lynx_cli.specs.declared.fault.Fault.TheVariants.{Ask, BadBooks, BadKeys, Carry, Closed, Command, InTheWay, Meanwhile, Memory, NoLookups, NoMending, NoSeparator, NoService, NoStatus, NoTable, NotEmpty, Occupied, OtherSet, Sample, Script, Serve, Set, Store, Unread, Unwritten, UnwrittenBooks, Write}
use Rattle.lynx_carry.specs.declared.fault.CarryFault.{CarryFault}
use Rattle.lynx_carry.specs.declared.fault.CarryFault.TheVariants as carrying
use Rattle.lynx_sample.specs.declared.fault.SampleFault.{SampleFault}
use Rattle.lynx_sample.specs.declared.fault.SampleFault.TheVariants.{NoCycle, TooLong, Run as Stopped}
use Rattle.lynx_report.specs.declared.run.RunFault.{RunFault}
use Rattle.lynx_report.specs.declared.run.RunFault.TheVariants as run
use Rattle.lynx_report.specs.declared.run.Ending.{Ending}
use Rattle.lynx_report.specs.declared.run.Ending.TheVariants.{Ordered, Cyclic}
use Rattle.lynx_report.specs.declared.verdict.Finding.{Finding}
use Rattle.lynx_report.specs.declared.verdict.Finding.TheVariants.{Accepted, Offending}

-- of a run, a check or a picture: 2 for a text, 3 for want of memory, 4 for what can't be written
abbrev pub status_of_run : RunFault → ℕ
status_of_run (run.Set fault) = 2
status_of_run (run.Script fault) = 2
status_of_run run.Write = 4
status_of_run run.Memory = 3

-- of making a script: 1 where no run ended with a cycle, 2 where the script would be too long, and
-- else as of a run
abbrev pub status_of_sampling : SampleFault → ℕ
status_of_sampling NoCycle = 1
status_of_sampling TooLong = 2
status_of_sampling (Stopped fault) = status_of_run fault

-- of carrying cells: 1, or 3 for want of memory
abbrev pub status_of_carrying : CarryFault → ℕ
status_of_carrying carrying.Memory = 3
status_of_carrying fault = 1

-- 1: no mending was found, or cells can't be carried. 2: the words or a text. 3: want of memory.
-- 4: what can't be read or written
abbrev pub status_of : Fault → ℕ
status_of (Command fault) = 2
status_of NoSeparator = 2
status_of (Unread name) = 4
status_of (Unwritten name) = 4
status_of (Set fault) = 2
status_of (Script fault) = 2
status_of (Store fault) = 4
status_of (Serve fault) = 4
status_of (Ask fault) = 4
status_of NoService = 4
status_of NoStatus = 4
status_of NoLookups = 4
status_of NoTable = 2
status_of Closed = 4
status_of BadBooks = 4
status_of UnwrittenBooks = 4
status_of NotEmpty = 4
status_of InTheWay = 4
status_of Meanwhile = 4
status_of (Carry fault) = 1
status_of BadKeys = 2
status_of OtherSet = 4
status_of Occupied = 4
status_of (Sample fault) = status_of_sampling fault
status_of NoMending = 1
status_of Write = 4
status_of Memory = 3

-- of a check and of a picture: 0 where the set is accepted, 1 where it offends
abbrev pub status_of_finding : Finding → ℕ
status_of_finding (Accepted reason) = 0
status_of_finding Offending = 1

-- of a run: 0 where an order explains it, 1 where it ends with a cycle
abbrev pub status_of_ending : Ending → ℕ
status_of_ending Ordered = 0
status_of_ending Cyclic = 1

-- what a job ends with, after its output was written to its end, or could not be
abbrev pub finished_as : Result ℕ Fault → Bool → Result ℕ Fault
finished_as (Ok status) false = Err Write
finished_as done flushed = done
