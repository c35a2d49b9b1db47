-- What a job that is done has written.
use Rattle.std.specs.Prelude.{◌≡◌, ◌⊎◌, ℕ, Bool, List, Option}
use Rattle.std.specs.Bool.{MatchBool}
use Rattle.std.specs.Io.KnownBytes.{Appends}
use Rattle.lynx_cli.specs.Inputs.{IsCut}
use Rattle.sqlite.specs.State.{State}
use Rattle.lynx_give.specs.Given.{HasGiven}
use Rattle.lynx_set.specs.Rules.{IsSet}
use Rattle.lynx_set.specs.Set.{Set}
use Rattle.lynx_set.specs.Text.{text_of}
use Rattle.lynx_keep.specs.Kept.{Terms}
use Rattle.lynx_order.specs.declared.explained.Explained.{Explained}
use Rattle.lynx_order.specs.Explained.{GivesOrder}
use Rattle.lynx_rerun.specs.Reruns.{Reruns}
use Rattle.lynx_report.specs.declared.run.Ending.{Ending}
use Rattle.lynx_report.specs.declared.verdict.Finding.{Finding}
use Rattle.lynx_report.specs.declared.verdict.Finding.TheVariants.{Offending}
use Rattle.lynx_report.specs.Charts.{Charts}
use Rattle.lynx_report.specs.Checks.{Finds}
use Rattle.lynx_report.specs.Drawings.{Draws}
use Rattle.lynx_report.specs.Options.{PrintsWith}
use Rattle.lynx_report.specs.Refusals.{Accepts}
use Rattle.lynx_report.specs.declared.options.CheckOptions.{CheckOptions}
use Rattle.lynx_report.specs.declared.options.DrawOptions.{DrawOptions}
use Rattle.lynx_report.specs.declared.options.RunOptions.{RunOptions}
use Rattle.lynx_report.specs.declared.options.Why.TheVariants.{Untold}
use Rattle.lynx_args.specs.declared.job.RunFlags.{RunFlags}
use Rattle.lynx_sample.specs.Samples.{IsSample}
use Rattle.lynx_service.specs.Services.{HasServed}
use Rattle.lynx_store_files.specs.Terms.{StoreTerms}
use Rattle.lynx_cli.specs.Statuses.{status_of_finding, status_of_ending}

-- the verdict on the text's set is written, with what the options ask for, and the status is the
-- verdict's
pub record HasChecked (options : CheckOptions) (text : List ℕ) (old new : Option (List ℕ))
    (status : ℕ) : Type 0 where
  pub finding : Finding
  pub printed : List ℕ
  pub finds : Finds options.why text finding printed
  pub written : Appends old new printed
  pub status_is : status ≡ status_of_finding finding

-- the picture of the text's set is written, of the programs that are asked for, and the status is
-- that of the verdict drawn in it
pub record HasDrawn (options : DrawOptions) (text : List ℕ) (old new : Option (List ℕ))
    (status : ℕ) : Type 0 where
  pub finding : Finding
  pub picture : List ℕ
  pub draws : Draws options.shown text finding picture
  pub written : Appends old new picture
  pub status_is : status ≡ status_of_finding finding

-- the chart of a run of this script over this set is written, and the status is that of the run's
-- ending
pub record HasCharted (set script : List ℕ) (old new : Option (List ℕ)) (status : ℕ) : Type 0 where
  pub ending : Ending
  pub chart : List ℕ
  pub charts : Charts set script ending chart
  pub written : Appends old new chart
  pub status_is : status ≡ status_of_ending ending

-- the lines of a run of this script over this set are written, and the status is that of its ending
pub record HasRunTexts (options : RunOptions) (set script : List ℕ) (old new : Option (List ℕ))
    (status : ℕ) : Type 0 where
  pub ending : Ending
  pub printed : List ℕ
  pub prints : PrintsWith options set script ending printed
  pub written : Appends old new printed
  pub status_is : status ≡ status_of_ending ending

-- the set offends, its verdict is written, and the status is the verdict's
pub record HasRefused (set : List ℕ) (old new : Option (List ℕ)) (status : ℕ) : Type 0 where
  pub printed : List ℕ
  pub finds : Finds Untold set Offending printed
  pub written : Appends old new printed
  pub status_is : status ≡ status_of_finding Offending

-- the set is accepted
abbrev pub IsAccepted : List ℕ → Type 0
IsAccepted text = (set : Set) × Accepts text set

-- a set that offends is refused, and over another the script is run; that run ends with an order,
-- never with a cycle, so the status is 0
abbrev pub HasRunJudged : RunOptions → List ℕ → List ℕ → Option (List ℕ) → Option (List ℕ) → ℕ
    → Type 0
HasRunJudged options set script old new status =
    HasRefused set old new status
    ⊎ (IsAccepted set × HasRunTexts options set script old new status × (status ≡ 0))

-- what the flags ask of a run
abbrev pub options_of : RunFlags → RunOptions
options_of flags = record { owed = flags.owed }

-- the script is run over the set, which is judged first where the flags ask for that
abbrev pub HasRun : RunFlags → List ℕ → List ℕ → Option (List ℕ) → Option (List ℕ) → ℕ → Type 0
HasRun flags set script old new status = MatchBool flags.checked
    (HasRunJudged (options_of flags) set script old new status)
    (HasRunTexts (options_of flags) set script old new status)

-- the same of the two parts of an input
pub record HasRunInput (flags : RunFlags) (input : List ℕ) (old new : Option (List ℕ))
    (status : ℕ) : Type 0 where
  pub set : List ℕ
  pub script : List ℕ
  pub cut : IsCut input set script
  pub run : HasRun flags set script old new status

-- the lines of a run of this script over this set, and over its servers' stores in that folder, are
-- written, and the status is that of its ending
pub record HasRerunTexts {K : Type 0} (terms : Terms K) (stores : StoreTerms K) (folder : List ℕ)
    (options : RunOptions) (set script : List ℕ) (old new : Option (List ℕ))
    (status : ℕ) : Type 0 where
  pub chains : Set
  pub is_set : IsSet chains
  pub spelled : set ≡ text_of chains
  pub ending : Ending
  pub printed : List ℕ
  pub reruns : Reruns terms stores folder chains script options.owed ending printed
  pub written : Appends old new printed
  pub status_is : status ≡ status_of_ending ending

-- a set that offends is refused, and over another the script is run; all that its stores keep then
-- has an order, and no cycle, so the status is 0
abbrev pub HasRerunJudged : {K : Type 0} → Terms K → StoreTerms K → List ℕ → RunOptions
    → List ℕ → List ℕ → Option (List ℕ) → Option (List ℕ) → ℕ → Type 0
HasRerunJudged terms stores folder options set script old new status =
    HasRefused set old new status
    ⊎ (IsAccepted set × HasRerunTexts terms stores folder options set script old new status
    × (status ≡ 0))

-- the script is run over the set, which is judged first where the flags ask for that
abbrev pub HasRerun : {K : Type 0} → Terms K → StoreTerms K → List ℕ → RunFlags → List ℕ → List ℕ
    → Option (List ℕ) → Option (List ℕ) → ℕ → Type 0
HasRerun terms stores folder flags set script old new status = MatchBool flags.checked
    (HasRerunJudged terms stores folder (options_of flags) set script old new status)
    (HasRerunTexts terms stores folder (options_of flags) set script old new status)

-- a service over the text's set, which is accepted, ran to its end, which that order explains: it
-- is its last line, unless it goes to a file of its own, and the status is 0
pub record HasServedText {K : Type 0} (terms : Terms K) (stores : StoreTerms K) (folder : List ℕ)
    (apart : Bool) (text : List ℕ) (explained : Explained) (old new : Option (List ℕ)) (status : ℕ)
    : Type 0 where
  pub chains : Set
  pub accepts : Accepts text chains
  pub served : HasServed terms stores folder apart chains old new explained
  pub order : GivesOrder explained
  pub status_is : status ≡ 0

-- a set that offends is refused, and over another clients are served
abbrev pub HasServedJudged : {K : Type 0} → Terms K → StoreTerms K → List ℕ → Bool → List ℕ
    → Option (List ℕ) → Option (List ℕ) → ℕ → Type 0
HasServedJudged terms stores folder apart text old new status = HasRefused text old new status
    ⊎ ((explained : Explained)
    × HasServedText terms stores folder apart text explained old new status)

-- the stores of a folder are given to the text's set, which is accepted, and the status is 0
pub record HasGivenText {K C : Type 0} (stores : StoreTerms K) (folder : List ℕ)
    (state_of : C → State) (OpenedAt : ℕ → Option C → Type 0) (DatabaseClosed : C → Bool → Type 0)
    (text : List ℕ) (old new : Option (List ℕ)) (status : ℕ) : Type 0 where
  pub chains : Set
  pub accepts : Accepts text chains
  pub gives : HasGiven stores folder state_of OpenedAt DatabaseClosed chains old new
  pub status_is : status ≡ 0

-- a set that offends is refused, and another is given the stores
abbrev pub HasExtended : {K C : Type 0} → StoreTerms K → List ℕ → (C → State)
    → (ℕ → Option C → Type 0) → (C → Bool → Type 0) → List ℕ → Option (List ℕ)
    → Option (List ℕ) → ℕ → Type 0
HasExtended stores folder state_of OpenedAt DatabaseClosed text old new status =
    HasRefused text old new status
    ⊎ HasGivenText stores folder state_of OpenedAt DatabaseClosed text old new status

-- a random script for the text's set is written, and the status is 0
pub record HasSampled (cycle : Bool) (text : List ℕ) (old new : Option (List ℕ))
    (status : ℕ) : Type 0 where
  pub script : List ℕ
  pub sample : IsSample cycle text script
  pub written : Appends old new script
  pub status_is : status ≡ 0
