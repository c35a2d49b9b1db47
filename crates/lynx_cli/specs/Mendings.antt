-- What is printed of what makes a set accepted.
use Rattle.std.specs.Prelude.{◌≡◌, ◌≢◌, ◌≤◌, ◌⊎◌, ◌+◌, ℕ, Option, Some, None, List, [], ◌∷◌, ◌++◌, codes, length}
use Rattle.std.specs.Fmt.{decimal}
use Rattle.std.specs.Io.KnownBytes.{Appends, Keeps}
use Rattle.std.specs.List.Sorted.{IsNonDecreasingBy}
use Rattle.lynx_check.specs.Verdicts.{Judges}
use Rattle.lynx_check.specs.declared.verdict.Verdict.{Verdict}
use Rattle.lynx_draw.specs.Picture.{IsChangedPicture}
use Rattle.lynx_draw.specs.declared.shown.Extent.{Extent}
use Rattle.lynx_graph.specs.Acceptance.{IsAccepted}
use Rattle.lynx_lex.specs.Lines.{with_feed}
use Rattle.lynx_mend.specs.Mended.{Mended, mending_cost}
use Rattle.lynx_report.specs.Drawings.{NoPictureFor}
use Rattle.lynx_report.specs.Written.{AppendsPart}
use Rattle.lynx_report.specs.declared.run.RunFault.{RunFault}
use Rattle.lynx_set.specs.Rules.{IsSet}
use Rattle.lynx_set.specs.Set.{Set}
use Rattle.lynx_set.specs.Text.{text_of}
use Rattle.lynx_cli.specs.Stopped.{run_fault}
use Rattle.lynx_cli.specs.declared.fault.Fault.{Fault}
use Rattle.lynx_cli.specs.declared.fault.Fault.TheVariants.{NoMending}
use Rattle.lynx_cli.specs.declared.mending.MendingView.{MendingView}
use Rattle.lynx_cli.specs.declared.mending.MendingView.TheVariants.{List as ListView, Text as TextView, Picture as PictureView}

-- the set with the change is accepted, and the change is told behind its number, in some words
pub record IsProposal (number : ℕ) (mended : Mended) (printed : List ℕ) : Type 0 where
  pub accepted : IsAccepted mended.set
  pub words : List ℕ
  pub told : printed ≡ decimal number ++ (codes ". " ++ words)

-- each of the changes is told, one behind the other, numbered from that number on
abbrev pub AreProposals : ℕ → List Mended → List ℕ → Type 0
AreProposals number [] printed = printed ≡ []
AreProposals number (mended ∷ others) printed =
    (own : List ℕ) × (rest : List ℕ) × IsProposal number mended own
    × AreProposals (number + 1) others rest × (printed ≡ own ++ rest)

-- Of a set that offends one to ten changes are told, numbered from 1 on, those that cost less
-- before those that cost more. The set with each is accepted.
pub record IsProposed (chains : Set) (printed : List ℕ) : Type 0 where
  pub offends : ¬ IsAccepted chains
  pub mendings : List Mended
  pub some : mendings ≢ []
  pub few : length mendings ≤ 10
  pub rising : IsNonDecreasingBy mending_cost mendings
  pub told : AreProposals 1 mendings printed

-- A set with a change is accepted. An accepted set isn't changed.
pub record IsChanged (chains mended : Set) : Type 0 where
  pub is_set : IsSet mended
  pub accepted : IsAccepted mended
  pub own : IsAccepted chains → mended ≡ chains

-- the text of the set with a change
pub record IsMendedText (chains : Set) (printed : List ℕ) : Type 0 where
  pub mended : Set
  pub changed : IsChanged chains mended
  pub text : printed ≡ text_of mended

-- the picture of the set with a change, of these of its programs, in which the changed hops are
-- marked
pub record IsMendedPicture (shown : Extent) (chains : Set) (printed : List ℕ) : Type 0 where
  pub mended : Set
  pub changed : IsChanged chains mended
  pub verdict : Verdict
  pub judges : Judges mended verdict
  pub picture : IsChangedPicture shown chains mended verdict printed

-- the one or the other
abbrev pub ShowsChange : Option Extent → Set → List ℕ → Type 0
ShowsChange None chains printed = IsMendedText chains printed
ShowsChange (Some shown) chains printed = IsMendedPicture shown chains printed

-- there is nothing to mend
pub record IsWhole (chains : Set) (printed : List ℕ) : Type 0 where
  pub accepted : IsAccepted chains
  pub line : printed ≡ with_feed (codes "nothing to mend")

-- the changes are told, where there is something to mend; or the text or the picture with one of
-- them is printed
abbrev pub Mends : MendingView → Set → List ℕ → Type 0
Mends ListView chains printed = IsWhole chains printed ⊎ IsProposed chains printed
Mends (TextView change) chains printed = IsMendedText chains printed
Mends (PictureView change shown) chains printed = IsMendedPicture shown chains printed

-- the same of the set that a text spells
pub record MendsText (view : MendingView) (text printed : List ℕ) : Type 0 where
  pub chains : Set
  pub is_set : IsSet chains
  pub spelled : text ≡ text_of chains
  pub mends : Mends view chains printed

-- the text's set offends
pub record OffendsText (text : List ℕ) : Type 0 where
  pub chains : Set
  pub is_set : IsSet chains
  pub spelled : text ≡ text_of chains
  pub offends : ¬ IsAccepted chains

-- what makes the text's set accepted is written, and the status is 0
pub record HasMended (view : MendingView) (text : List ℕ) (old new : Option (List ℕ))
    (status : ℕ) : Type 0 where
  pub printed : List ℕ
  pub mends : MendsText view text printed
  pub written : Appends old new printed
  pub status_is : status ≡ 0

-- Where a fault stops it, nothing is written, or a beginning of that.
abbrev pub BeginsMending : MendingView → List ℕ → Option (List ℕ) → Option (List ℕ) → Type 0
BeginsMending view text old new =
    Keeps old new
    ⊎ ((printed : List ℕ) × MendsText view text printed × AppendsPart old new printed)

-- the text's set offends, no mending was found, and nothing is written
pub record StopsUnmended (text : List ℕ) (old new : Option (List ℕ)) (fault : Fault) : Type 0 where
  pub told : fault ≡ NoMending
  pub offends : OffendsText text
  pub unwritten : Keeps old new

-- the text is faulty, or memory is wanting, and nothing is written; or the writer fails
pub record StopsAtMending (view : MendingView) (text : List ℕ) (old new : Option (List ℕ))
    (fault : Fault) : Type 0 where
  pub found : RunFault
  pub told : fault ≡ run_fault found
  pub why : NoPictureFor text (Keeps old new) found
  pub part : BeginsMending view text old new

-- no mending was found, or the search or the writing stops
abbrev pub StopsMending : MendingView → List ℕ → Option (List ℕ) → Option (List ℕ) → Fault → Type 0
StopsMending view text old new fault =
    StopsUnmended text old new fault ⊎ StopsAtMending view text old new fault
