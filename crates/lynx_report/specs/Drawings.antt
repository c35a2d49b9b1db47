-- What the picture of a set is, as it is written.
use Rattle.std.specs.Prelude.{◌≡◌, ◌≢◌, ◌⊎◌, ℕ, Option, List}
use Rattle.lynx_check.specs.declared.verdict.Verdict.{Verdict}
use Rattle.lynx_check.specs.declared.verdict.Verdict.TheVariants.{Accepted as AcceptedVerdict, Offending as OffendingVerdict}
use Rattle.lynx_check.specs.Reasons.{reason_of}
use Rattle.lynx_check.specs.Verdicts.{Judges}
use Rattle.lynx_set.specs.Rules.{IsSet}
use Rattle.lynx_set.specs.Set.{Set}
use Rattle.lynx_set.specs.Text.{text_of}
use Rattle.lynx_draw.specs.Picture.{IsPicture}
use Rattle.lynx_draw.specs.declared.shown.Extent.{Extent}
use Rattle.lynx_report.specs.declared.run.RunFault.{RunFault}
use Rattle.lynx_report.specs.declared.run.RunFault.TheVariants.{Set as SetFault, Script as ScriptFault, Write, Memory}
use Rattle.lynx_report.specs.declared.verdict.Finding.{Finding}
use Rattle.lynx_report.specs.declared.verdict.Finding.TheVariants.{Accepted, Offending}
use Rattle.lynx_lex.specs.declared.fault.FaultKind.TheVariants.{Memory as NoMemory}
use Rattle.std.specs.Io.KnownBytes.{Keeps}
use Rattle.lynx_report.specs.Runs.{IsNoSet}
use Rattle.lynx_report.specs.Written.{AppendsPart}

-- what a verdict finds
abbrev pub finding_of : Verdict → Finding
finding_of (AcceptedVerdict own) = Accepted (reason_of own.excused)
finding_of (OffendingVerdict walk blocks) = Offending

-- the picture shows the set and a verdict on it, with the programs that are asked for (all, those
-- of the walk, or those in the way and what they meet), and the finding is the verdict's
abbrev pub IsDrawing : Extent → Set → Finding → List ℕ → Type 0
IsDrawing shown chains finding picture =
    (verdict : Verdict) × Judges chains verdict × (finding ≡ finding_of verdict)
    × IsPicture shown chains verdict picture

-- what is found of a set text, and its picture
pub record Draws (shown : Extent) (text : List ℕ) (finding : Finding) (picture : List ℕ) : Type
    0 where
  pub chains : Set
  pub is_set : IsSet chains
  pub spelled : text ≡ text_of chains
  pub drawing : IsDrawing shown chains finding picture

-- why no picture comes: a faulty text, and want of memory, are told before anything is written, and
-- a text's fault is never want of memory
abbrev pub NoPictureFor : List ℕ → Type 0 → RunFault → Type 0
NoPictureFor set unwritten (SetFault fault) = IsNoSet set × unwritten × (fault.kind ≢ NoMemory)
NoPictureFor set unwritten (ScriptFault fault) = ⊥
NoPictureFor set unwritten Write = Unit {0}
NoPictureFor set unwritten Memory = unwritten

-- Where a fault stops a drawing, nothing is written, or a beginning of the picture.
abbrev pub BeginsPicture : Extent → List ℕ → Option (List ℕ) → Option (List ℕ) → Type 0
BeginsPicture shown set old new =
    Keeps old new
    ⊎ ((finding : Finding) × (picture : List ℕ) × Draws shown set finding picture
    × AppendsPart old new picture)
