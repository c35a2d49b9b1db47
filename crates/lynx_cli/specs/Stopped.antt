-- Why a job stops, and what it has written by then.
use Rattle.std.specs.Prelude.{◌≡◌, ◌⊎◌, ℕ, Bool, List, Option}
use Rattle.std.specs.Bool.{MatchBool}
use Rattle.std.specs.Io.KnownBytes.{Keeps}
use Rattle.lynx_cli.specs.Inputs.{HasNoCut, IsCut}
use Rattle.lynx_report.specs.declared.run.RunFault.{RunFault}
use Rattle.lynx_report.specs.declared.run.RunFault.TheVariants as run
use Rattle.lynx_report.specs.Charts.{BeginsChart, NoChartFor}
use Rattle.lynx_report.specs.Checks.{BeginsFinding, NoVerdictFor}
use Rattle.lynx_report.specs.Drawings.{BeginsPicture, NoPictureFor}
use Rattle.lynx_report.specs.Options.{WritesPartWith}
use Rattle.lynx_report.specs.Refusals.{BeginsRefusal}
use Rattle.lynx_report.specs.Runs.{StopsFor}
use Rattle.lynx_report.specs.declared.options.CheckOptions.{CheckOptions}
use Rattle.lynx_report.specs.declared.options.DrawOptions.{DrawOptions}
use Rattle.lynx_report.specs.declared.options.RunOptions.{RunOptions}
use Rattle.lynx_sample.specs.Samples.{BeginsSample, NoSampleFor}
use Rattle.lynx_sample.specs.declared.fault.SampleFault.{SampleFault}
use Rattle.lynx_sample.specs.declared.fault.SampleFault.TheVariants as sample
use Rattle.lynx_args.specs.declared.job.RunFlags.{RunFlags}
use Rattle.lynx_cli.specs.Done.{IsAccepted, options_of}
use Rattle.lynx_cli.specs.declared.fault.Fault.{Fault}
use Rattle.lynx_cli.specs.declared.fault.Fault.TheVariants.{Ask, Memory, NoSeparator, Occupied, Sample, Script, Serve, Set, Store, Write}
use Rattle.lynx_ask.specs.declared.fault.AskFault.{AskFault}
use Rattle.lynx_ask.specs.declared.fault.AskFault.TheVariants as ask
use Rattle.lynx_rerun.specs.declared.fault.RerunFault.{RerunFault}
use Rattle.lynx_rerun.specs.declared.fault.RerunFault.TheVariants as rerun
use Rattle.lynx_restore.specs.declared.fault.RestoreFault.{RestoreFault}
use Rattle.lynx_restore.specs.declared.fault.RestoreFault.TheVariants as restore
use Rattle.lynx_service.specs.Faults.{apart_fault, contents_fault, missing_fault, store_fault}
use Rattle.lynx_service.specs.declared.fault.ServeFault.{ServeFault}
use Rattle.lynx_service.specs.declared.fault.ServeFault.TheVariants as serve
use Rattle.lynx_show.specs.declared.fault.ShowFault.{ShowFault}
use Rattle.lynx_show.specs.declared.fault.ShowFault.TheVariants as show
use Rattle.lynx_give.specs.declared.fault.GiveFault.{GiveFault}
use Rattle.lynx_give.specs.declared.fault.GiveFault.TheVariants as give
use Rattle.lynx_store.specs.declared.fault.StoreFault.{StoreFault}
use Rattle.lynx_store.specs.declared.fault.StoreFault.TheVariants as store
use Rattle.lynx_store_files.specs.declared.copies.CopyFault.{CopyFault}
use Rattle.lynx_store_files.specs.declared.copies.CopyFault.TheVariants as copy

-- how the program tells why a run, a check, a picture or a chart stopped
abbrev pub run_fault : RunFault → Fault
run_fault (run.Set fault) = Set fault
run_fault (run.Script fault) = Script fault
run_fault run.Write = Write
run_fault run.Memory = Memory

-- and why no script was made
abbrev pub sampling_fault : SampleFault → Fault
sampling_fault (sample.Run fault) = run_fault fault
sampling_fault fault = Sample fault

-- why a store was not listed
abbrev pub showing_fault : ShowFault → Fault
showing_fault show.Write = Write
showing_fault show.Memory = Memory
showing_fault fault = Store fault

-- why a service didn't begin, or didn't end well
abbrev pub serving_fault : ServeFault → Fault
serving_fault serve.Write = Write
serving_fault serve.Memory = Memory
serving_fault fault = Serve fault

-- why asking a service stopped
abbrev pub asking_fault : AskFault → Fault
asking_fault ask.Write = Write
asking_fault ask.Memory = Memory
asking_fault fault = Ask fault

-- why stores were not given to a set, told as a service tells it
abbrev pub giving_fault : GiveFault → Fault
giving_fault (give.Store server fault) = serving_fault (store_fault server fault)
giving_fault (give.Lost server) = serving_fault (missing_fault server)
giving_fault give.Write = Write
giving_fault give.Memory = Memory

-- why a run over stores stopped: the faults of stores are told as a service tells them
abbrev pub rerun_fault : RerunFault → Fault
rerun_fault (rerun.Run fault) = run_fault fault
rerun_fault (rerun.Store server fault) = serving_fault (store_fault server fault)
rerun_fault (rerun.Apart fault) = serving_fault (apart_fault fault)

-- what is wrong with a store whose file can't be copied
abbrev pub copy_fault : CopyFault → StoreFault
copy_fault copy.Unread = store.Store
copy_fault copy.Damaged = store.Damaged
copy_fault copy.Broken = store.Store
copy_fault copy.Store = store.Store
copy_fault copy.Memory = store.Memory

-- why no stores were made of copies: theirs, too, are told so
abbrev pub restoring_fault : RestoreFault → Fault
restoring_fault (restore.Copy server fault) = serving_fault (contents_fault server fault)
restoring_fault (restore.Store server fault) = serving_fault (store_fault server fault)
restoring_fault (restore.Taken server) = Occupied
restoring_fault restore.Memory = Memory

-- a check: the text has no verdict, or memory or the writer fails; nothing is written, or a
-- beginning of the verdict
pub record StopsChecking (options : CheckOptions) (text : List ℕ) (old new : Option (List ℕ))
    (fault : Fault) : Type 0 where
  pub found : RunFault
  pub told : fault ≡ run_fault found
  pub why : NoVerdictFor text (Keeps old new) found
  pub part : BeginsFinding options.why text old new

-- a drawing: the same of the picture, and where memory is wanting nothing is written
pub record StopsDrawing (options : DrawOptions) (text : List ℕ) (old new : Option (List ℕ))
    (fault : Fault) : Type 0 where
  pub found : RunFault
  pub told : fault ≡ run_fault found
  pub why : NoPictureFor text (Keeps old new) found
  pub part : BeginsPicture options.shown text old new

-- a drawing of a run: one of the texts is faulty, or memory is wanting, and nothing is written; or
-- the writer fails, and nothing is written or a beginning of the chart
pub record StopsCharting (set script : List ℕ) (old new : Option (List ℕ)) (fault : Fault) : Type
    0 where
  pub found : RunFault
  pub told : fault ≡ run_fault found
  pub why : NoChartFor set script (Keeps old new) found
  pub part : BeginsChart set script old new

-- a run of this script over this set: one of them is faulty, and nothing is written; or memory or
-- the writer fails, and nothing is written or a beginning of the run's lines
pub record StopsRunTexts (options : RunOptions) (set script : List ℕ) (old new : Option (List ℕ))
    (fault : Fault) : Type 0 where
  pub found : RunFault
  pub told : fault ≡ run_fault found
  pub why : StopsFor set script (Keeps old new) found
  pub part : WritesPartWith options set script old new

-- the judging of a set before a run: the set is faulty, and nothing is written; or memory or the
-- writer fails, and nothing is written or a beginning of the verdict that it offends
pub record StopsJudging (set : List ℕ) (old new : Option (List ℕ)) (fault : Fault) : Type 0 where
  pub found : RunFault
  pub told : fault ≡ run_fault found
  pub why : NoVerdictFor set (Keeps old new) found
  pub part : BeginsRefusal set old new

-- the judging stops, or the run over a set that is accepted
abbrev pub StopsRunJudged : RunOptions → List ℕ → List ℕ → Option (List ℕ) → Option (List ℕ) → Fault
    → Type 0
StopsRunJudged options set script old new fault =
    StopsJudging set old new fault
    ⊎ (IsAccepted set × StopsRunTexts options set script old new fault)

-- a run with these flags
abbrev pub StopsRun : RunFlags → List ℕ → List ℕ → Option (List ℕ) → Option (List ℕ) → Fault
    → Type 0
StopsRun flags set script old new fault = MatchBool flags.checked
    (StopsRunJudged (options_of flags) set script old new fault)
    (StopsRunTexts (options_of flags) set script old new fault)

-- no line of an input is `--`, and nothing is written
pub record StopsUncut (input : List ℕ) (old new : Option (List ℕ)) (fault : Fault) : Type 0 where
  pub told : fault ≡ NoSeparator
  pub no_cut : HasNoCut input
  pub unwritten : Keeps old new

-- the run of the two parts of an input stops
pub record StopsRunParts (flags : RunFlags) (input : List ℕ) (old new : Option (List ℕ))
    (fault : Fault) : Type 0 where
  pub set : List ℕ
  pub script : List ℕ
  pub cut : IsCut input set script
  pub stops : StopsRun flags set script old new fault

-- a run of an input: it isn't cut in two, or the run of its two parts stops
abbrev pub StopsRunInput : RunFlags → List ℕ → Option (List ℕ) → Option (List ℕ) → Fault → Type 0
StopsRunInput flags input old new fault =
    StopsUncut input old new fault ⊎ StopsRunParts flags input old new fault

-- no script is made for the text's set, or it can't be written
pub record StopsSampling (cycle : Bool) (text : List ℕ) (old new : Option (List ℕ))
    (fault : Fault) : Type 0 where
  pub found : SampleFault
  pub told : fault ≡ sampling_fault found
  pub stops : NoSampleFor cycle text (Keeps old new) found
  pub part : BeginsSample cycle text old new
