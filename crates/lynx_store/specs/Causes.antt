-- Why a store failed, by what the database under it says.
use Rattle.sqlite.specs.declared.error.Error.{Error}
use Rattle.sqlite.specs.declared.error.Error.TheVariants.{SqliteFailure}
use Rattle.sqlite.specs.declared.error.ErrorCode.{ErrorCode}
use Rattle.sqlite.specs.declared.error.ErrorCode.TheVariants.{DiskFull, SystemIoFailure, OutOfMemory, Closed, NotADatabase, DatabaseCorrupt}
use Rattle.lynx_keep.specs.declared.cause.Cause.{Cause}
use Rattle.lynx_keep.specs.declared.cause.Cause.TheVariants as causes

-- the disk, the memory or the form of its file; else it refused what was asked of it
abbrev pub code_cause : ErrorCode → Cause
code_cause DiskFull = causes.Full
code_cause SystemIoFailure = causes.Disk
code_cause OutOfMemory = causes.Memory
code_cause Closed = causes.Closed
code_cause NotADatabase = causes.Damaged
code_cause DatabaseCorrupt = causes.Damaged
code_cause other = causes.Refused

abbrev pub cause_of : Error → Cause
cause_of (SqliteFailure code) = code_cause code
cause_of other = causes.Refused
