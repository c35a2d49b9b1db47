-- The premise on the disk.
use Rattle.sqlite.specs.State.{State, HasCleanDisk}

-- nobody else has written the file, and the disk has given back what was written to it, so far
abbrev pub IsUndisturbed : State → Type 0
IsUndisturbed s = HasCleanDisk s
