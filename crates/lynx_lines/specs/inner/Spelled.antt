-- What a reader answers of what is written: a value that is spelled so, or why none is.
use Rattle.std.specs.Prelude.{◌≡◌, ◌≢◌, Result, Ok, Err}
use Rattle.lynx_lex.specs.declared.fault.FaultKind.{FaultKind}
use Rattle.lynx_lex.specs.declared.fault.FaultKind.TheVariants.{Memory, TooLong, BadVersion}

-- a fault of a line is answered only so, want of memory at any time, and no other fault
abbrev pub MeansUnread : FaultKind → Type 0 → Type 0
MeansUnread Memory only = Unit {0}
MeansUnread TooLong only = ⊥
MeansUnread BadVersion only = ⊥
MeansUnread kind only = only

-- what is read fits and is spelled so; a fault of a line means that nothing that fits is spelled so
abbrev pub IsRead : {X W : Type 0} → (X → Type 0) → (X → W) → W → Result X FaultKind → Type 0
IsRead fits spelling written (Ok value) = fits value × (written ≡ spelling value)
IsRead {X} fits spelling written (Err kind) =
    MeansUnread kind ((value : X) → fits value → written ≢ spelling value)
