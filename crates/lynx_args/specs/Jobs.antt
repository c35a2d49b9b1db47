-- What the words of the command line ask for.
use Rattle.std.specs.Prelude.{◌≡◌, ◌≢◌, ◌⊎◌, ℕ, List, Option, Some, None, IsSome, option_map, Result, Ok, Err, codes, Bool, false, true, unwrap_or}
use Rattle.std.specs.Str.Parse.{ParsesUnsigned}
use Rattle.clap.specs.Words.{Row, Text, first_of, one_of}
use Rattle.lynx_args.specs.declared.job.Job.{Job}
use Rattle.lynx_args.specs.declared.job.Job.TheVariants.{Ask, AskFolder, Chart, Check, Draw, DrawMended, Mend, Run, RunInput, RunStores, Sample, Serve, Stores}
use Rattle.lynx_args.specs.declared.job.CarryPlace.{CarryPlace}
use Rattle.lynx_args.specs.declared.job.RestorePlace.{RestorePlace}
use Rattle.lynx_args.specs.declared.job.RunFlags.{RunFlags}
use Rattle.lynx_args.specs.declared.job.SampleFlags.{SampleFlags}
use Rattle.lynx_args.specs.declared.job.ServeFlags.{ServeFlags}
use Rattle.lynx_args.specs.declared.job.StoreJob.{StoreJob}
use Rattle.lynx_args.specs.declared.job.StoreJob.TheVariants.{Audit, Carry, Extend, Find, Owed, Read, Restore, Show, Upgrade}
use Rattle.lynx_args.specs.declared.job.CommandFault.{CommandFault}
use Rattle.lynx_args.specs.declared.job.CommandFault.TheVariants.{NoScript, ScriptTooMany, StoresOfInput, WalkOfRun, LateOfRun, MendedOfRun, WalkAndLate, StatusOfFolder, NoCommand, NotUtf8}
use Rattle.lynx_draw.specs.declared.shown.Extent.{Extent}
use Rattle.lynx_draw.specs.declared.shown.Extent.TheVariants.{All, Walk, Late}

-- a run without flags
abbrev pub no_flags : RunFlags
no_flags = record { checked = false; owed = false }

-- `-` alone is standard input, and any other set wants a script; with a folder the run is over the
-- stores in it
abbrev pub RunsAs : List ℕ → Option (List ℕ) → Option (List ℕ) → RunFlags → Result Job CommandFault
    → Type 0
RunsAs set script folder flags (Ok (RunInput own)) =
    (set ≡ codes "-") × (script ≡ None) × (folder ≡ None) × (own ≡ flags)
RunsAs set script folder flags (Ok (Run own other given)) =
    (set ≢ codes "-") × (own.now ≡ set) × (script ≡ Some other.now) × (folder ≡ None)
    × (given ≡ flags)
RunsAs set script folder flags (Ok (RunStores own other stores given)) =
    (set ≢ codes "-") × (own.now ≡ set) × (script ≡ Some other.now) × (folder ≡ Some stores.now)
    × (given ≡ flags)
RunsAs set script folder flags (Err NoScript) = (set ≢ codes "-") × (script ≡ None)
RunsAs set script folder flags (Err ScriptTooMany) = (set ≡ codes "-") × IsSome script
RunsAs set script folder flags (Err StoresOfInput) =
    (set ≡ codes "-") × (script ≡ None) × IsSome folder
RunsAs set script folder flags other = ⊥

-- the programs of the walk are drawn, or those that stand in the way and what they meet, or all
abbrev pub ShowsAs : Bool → Bool → Result Extent CommandFault → Type 0
ShowsAs walk late (Ok All) = (walk ≡ false) × (late ≡ false)
ShowsAs walk late (Ok Walk) = (walk ≡ true) × (late ≡ false)
ShowsAs walk late (Ok Late) = (walk ≡ false) × (late ≡ true)
ShowsAs walk late (Err WalkAndLate) = (walk ≡ true) × (late ≡ true)
ShowsAs walk late (Err other) = ⊥

-- a set is drawn as it is, or with the change of that number
abbrev pub PicturesAs : List ℕ → Extent → Option ℕ → Job → Type 0
PicturesAs set shown mended (Draw own other) =
    (own.now ≡ set) × (other ≡ shown) × (mended ≡ None)
PicturesAs set shown mended (DrawMended own other change) =
    (own.now ≡ set) × (other ≡ shown) × (mended ≡ Some change)
PicturesAs set shown mended other = ⊥

-- a set alone is drawn, and with a script a run, which has no walk, no blocks in its way and no
-- change
abbrev pub DrawsAs : List ℕ → Option (List ℕ) → Bool → Bool → Option ℕ → Result Job CommandFault
    → Type 0
DrawsAs set script walk late mended (Ok (Draw own shown)) =
    (own.now ≡ set) × (script ≡ None) × (mended ≡ None) × ShowsAs walk late (Ok shown)
DrawsAs set script walk late mended (Ok (DrawMended own shown change)) =
    (own.now ≡ set) × (script ≡ None) × (mended ≡ Some change) × ShowsAs walk late (Ok shown)
DrawsAs set script walk late mended (Ok (Chart own other)) =
    (own.now ≡ set) × (script ≡ Some other.now) × (walk ≡ false) × (late ≡ false)
    × (mended ≡ None)
DrawsAs set script walk late mended (Err WalkOfRun) = IsSome script × (walk ≡ true)
DrawsAs set script walk late mended (Err LateOfRun) = IsSome script × (late ≡ true)
DrawsAs set script walk late mended (Err MendedOfRun) = IsSome script × IsSome mended
DrawsAs set script walk late mended (Err WalkAndLate) =
    (script ≡ None) × (walk ≡ true) × (late ≡ true)
DrawsAs set script walk late mended other = ⊥

-- the command that asks for something with stores that nobody serves
abbrev pub IsStoreCommand : List ℕ → StoreJob → Type 0
IsStoreCommand name (Show store full) = name ≡ codes "show"
IsStoreCommand name (Read folder table keys) = name ≡ codes "read"
IsStoreCommand name (Find folder client number) = name ≡ codes "find"
IsStoreCommand name (Upgrade store) = name ≡ codes "upgrade"
IsStoreCommand name (Extend folder set) = name ≡ codes "extend"
IsStoreCommand name (Audit folder) = name ≡ codes "audit"
IsStoreCommand name (Owed folder) = name ≡ codes "owed"
IsStoreCommand name (Restore place) = name ≡ codes "restore"
IsStoreCommand name (Carry place) = name ≡ codes "carry"

-- the command that asks for a job; standard input is asked for by no command at all, or by `run`
abbrev pub AskedBy : Option (List ℕ) → Result Job CommandFault → Type 0
AskedBy command (Ok (Check set why all)) = command ≡ Some (codes "check")
AskedBy command (Ok (Mend set write)) = command ≡ Some (codes "mend")
AskedBy command (Ok (Draw set shown)) = command ≡ Some (codes "draw")
AskedBy command (Ok (DrawMended set shown change)) = command ≡ Some (codes "draw")
AskedBy command (Ok (Chart set script)) = command ≡ Some (codes "draw")
AskedBy command (Ok (Sample set flags)) = command ≡ Some (codes "sample")
AskedBy command (Ok (Serve set folder port flags)) = command ≡ Some (codes "serve")
AskedBy command (Ok (Stores job)) =
    (name : List ℕ) × (command ≡ Some name) × IsStoreCommand name job
AskedBy command (Ok (Ask set port status)) = command ≡ Some (codes "ask")
AskedBy command (Ok (AskFolder folder)) = command ≡ Some (codes "ask")
AskedBy command (Ok (Run set script flags)) = command ≡ Some (codes "run")
AskedBy command (Ok (RunStores set script folder flags)) = command ≡ Some (codes "run")
AskedBy command (Ok (RunInput flags)) = (command ≡ None) ⊎ (command ≡ Some (codes "run"))
AskedBy command (Err NoScript) = command ≡ Some (codes "run")
AskedBy command (Err ScriptTooMany) = command ≡ Some (codes "run")
AskedBy command (Err StoresOfInput) = command ≡ Some (codes "run")
AskedBy command (Err WalkOfRun) = command ≡ Some (codes "draw")
AskedBy command (Err LateOfRun) = command ≡ Some (codes "draw")
AskedBy command (Err MendedOfRun) = command ≡ Some (codes "draw")
AskedBy command (Err WalkAndLate) = command ≡ Some (codes "draw")
AskedBy command (Err StatusOfFolder) = command ≡ Some (codes "ask")
AskedBy command (Err NoCommand) =
    (command ≢ None) × (command ≢ Some (codes "check")) × (command ≢ Some (codes "draw"))
    × (command ≢ Some (codes "run")) × (command ≢ Some (codes "show"))
    × (command ≢ Some (codes "upgrade")) × (command ≢ Some (codes "sample"))
    × (command ≢ Some (codes "extend")) × (command ≢ Some (codes "serve"))
    × (command ≢ Some (codes "ask")) × (command ≢ Some (codes "audit"))
    × (command ≢ Some (codes "owed")) × (command ≢ Some (codes "restore"))
    × (command ≢ Some (codes "mend")) × (command ≢ Some (codes "read"))
    × (command ≢ Some (codes "find")) × (command ≢ Some (codes "carry"))
AskedBy command (Err NotUtf8) = ⊥

-- no command that opens stores nobody serves
abbrev pub IsNoneOfStores : List ℕ → Type 0
IsNoneOfStores name =
    (name ≢ codes "show") × (name ≢ codes "upgrade") × (name ≢ codes "extend")
    × (name ≢ codes "restore") × (name ≢ codes "audit") × (name ≢ codes "owed")
    × (name ≢ codes "read") × (name ≢ codes "find") × (name ≢ codes "carry")

-- the text that was found under a name, `-` where none was
abbrev pub text_at : Text → List Row → List ℕ
text_at name rows = unwrap_or (first_of name rows) (codes "-")

-- a flag is given where `true` was found under its name, and isn't where `false` or nothing was
pub record IsFlag (name : Text) (rows : List Row) (flag : Bool) : Type 0 where
  pub given : one_of name rows ≡ Some (codes "true") → flag ≡ true
  pub left_out : one_of name rows ≡ Some (codes "false") → flag ≡ false
  pub unknown : one_of name rows ≡ None → flag ≡ false

-- the flags of a run were found so
pub record AreFlags (rows : List Row) (flags : RunFlags) : Type 0 where
  pub checked : IsFlag (codes "checked") rows flags.checked
  pub owed : IsFlag (codes "owed") rows flags.owed

-- the number of so many bits that a word spells in decimal digits, perhaps behind a plus; none
-- where it spells no such number
abbrev pub IsReadFrom : ℕ → Text → Option ℕ → Type 0
IsReadFrom bits text (Some number) = ParsesUnsigned {E = ℕ} bits 10 text (Ok number)
IsReadFrom bits text None = ParsesUnsigned {E = ℕ} bits 10 text (Err 0)

-- the number that was found under a name, the usual one where none was
pub record IsNumber (bits usual : ℕ) (name : Text) (rows : List Row) (number : ℕ) : Type 0 where
  pub none : one_of name rows ≡ None → number ≡ usual
  pub some : (text : Text) → one_of name rows ≡ Some text
      → (found : Option ℕ) × IsReadFrom bits text found × (number ≡ unwrap_or found usual)

-- what a random script is to be was found so: seed 0, 8 begins and 200,000 steps of effort where
-- the words don't say
pub record AreSampleFlags (rows : List Row) (flags : SampleFlags) : Type 0 where
  pub cycle : IsFlag (codes "cycle") rows flags.cycle
  pub seed : IsNumber 64 0 (codes "seed") rows flags.seed
  pub begins : IsNumber 8 8 (codes "begins") rows flags.begins
  pub effort : IsNumber 64 200000 (codes "effort") rows flags.effort

-- the port that was found under a name, none where none was
pub record IsPort (name : Text) (rows : List Row) (port : Option ℕ) : Type 0 where
  pub none : one_of name rows ≡ None → port ≡ None
  pub some : (text : Text) → one_of name rows ≡ Some text → IsReadFrom 16 text port

-- the number of a change that was found under a name, none where none was
pub record IsChoice (name : Text) (rows : List Row) (choice : Option ℕ) : Type 0 where
  pub none : one_of name rows ≡ None → choice ≡ None
  pub some : (text : Text) → one_of name rows ≡ Some text → IsReadFrom 8 text choice

-- the folders of a restoring are those that were found
pub record IsRestorePlace (rows : List Row) (place : RestorePlace) : Type 0 where
  pub from : place.from.now ≡ text_at (codes "FROM") rows
  pub folder : place.folder.now ≡ text_at (codes "DIR") rows
  pub longest : IsFlag (codes "longest") rows place.longest

-- what is carried from where to where was found so
pub record IsCarryPlace (rows : List Row) (place : CarryPlace) : Type 0 where
  pub from : place.from.now ≡ text_at (codes "FROM") rows
  pub folder : place.folder.now ≡ text_at (codes "DIR") rows
  pub set : place.set.now ≡ text_at (codes "SET") rows
  pub dropped : option_map (λ own. own.now) place.dropped ≡ first_of (codes "drop") rows

-- what a service does besides was found so
pub record AreServeFlags (rows : List Row) (flags : ServeFlags) : Type 0 where
  pub status : IsPort (codes "status") rows flags.status
  pub copy : option_map (λ own. own.now) flags.copy ≡ first_of (codes "copy") rows
  pub log : IsFlag (codes "log") rows flags.log
  pub log_file : option_map (λ own. own.now) flags.log_file ≡ first_of (codes "log-file") rows
  pub order : option_map (λ own. own.now) flags.order ≡ first_of (codes "order") rows
  pub sync_each : IsFlag (codes "sync-each") rows flags.sync_each

-- a run of the files and the folder that were found, with the flags that were
pub record RunsFound (rows : List Row) (job : Result Job CommandFault) : Type 0 where
  pub flags : RunFlags
  pub are_flags : AreFlags rows flags
  pub runs : RunsAs (text_at (codes "SET") rows) (first_of (codes "SCRIPT") rows)
      (first_of (codes "stores") rows) flags job

-- a picture of the files that were found
pub record DrawsFound (rows : List Row) (job : Result Job CommandFault) : Type 0 where
  pub walk : Bool
  pub is_walk : IsFlag (codes "walk") rows walk
  pub late : Bool
  pub is_late : IsFlag (codes "late") rows late
  pub mended : Option ℕ
  pub is_mended : IsChoice (codes "mended") rows mended
  pub draws : DrawsAs (text_at (codes "SET") rows) (first_of (codes "SCRIPT") rows) walk late mended
      job

-- what was found behind a command is what is done with stores
abbrev pub TakesStores : List Row → StoreJob → Type 0
TakesStores rows (Show store full) =
    (store.now ≡ text_at (codes "STORE") rows) × IsFlag (codes "full") rows full
TakesStores rows (Read folder table keys) =
    (folder.now ≡ text_at (codes "DIR") rows) × (table.now ≡ text_at (codes "TABLE") rows)
    × (option_map (λ own. own.now) keys ≡ first_of (codes "KEYS") rows)
TakesStores rows (Find folder client number) =
    (folder.now ≡ text_at (codes "DIR") rows) × IsNumber 64 0 (codes "CLIENT") rows client
    × IsNumber 64 0 (codes "NUMBER") rows number
TakesStores rows (Upgrade store) = store.now ≡ text_at (codes "STORE") rows
TakesStores rows (Extend folder set) =
    (folder.now ≡ text_at (codes "DIR") rows) × (set.now ≡ text_at (codes "SET") rows)
TakesStores rows (Audit folder) = folder.now ≡ text_at (codes "DIR") rows
TakesStores rows (Owed folder) = folder.now ≡ text_at (codes "DIR") rows
TakesStores rows (Restore place) = IsRestorePlace rows place
TakesStores rows (Carry place) = IsCarryPlace rows place

-- What was found behind a command is what the job is done with. Of the numbers of ports, seeds and
-- begins it is told only what they are where none was found.
abbrev pub TakesFound : List Row → Result Job CommandFault → Type 0
TakesFound rows (Ok (Check set why all)) =
    (set.now ≡ text_at (codes "SET") rows) × IsFlag (codes "why") rows why
    × IsFlag (codes "all") rows all
TakesFound rows (Ok (Mend set write)) =
    (set.now ≡ text_at (codes "SET") rows) × IsChoice (codes "write") rows write
TakesFound rows (Ok (Draw set shown)) = DrawsFound rows (Ok (Draw set shown))
TakesFound rows (Ok (DrawMended set shown change)) =
    DrawsFound rows (Ok (DrawMended set shown change))
TakesFound rows (Ok (Chart set script)) = DrawsFound rows (Ok (Chart set script))
TakesFound rows (Ok (Stores job)) = TakesStores rows job
TakesFound rows (Ok (Sample set flags)) =
    (set.now ≡ text_at (codes "SET") rows) × AreSampleFlags rows flags
TakesFound rows (Ok (Serve set folder port flags)) =
    (set.now ≡ text_at (codes "SET") rows) × (folder.now ≡ text_at (codes "DIR") rows)
    × IsNumber 16 0 (codes "PORT") rows port × AreServeFlags rows flags
TakesFound rows (Ok (Ask set port status)) =
    (set.now ≡ text_at (codes "SET") rows) × IsSome (first_of (codes "PORT") rows)
    × IsNumber 16 0 (codes "PORT") rows port × IsPort (codes "status") rows status
TakesFound rows (Ok (AskFolder folder)) =
    (folder.now ≡ text_at (codes "SET") rows) × (first_of (codes "PORT") rows ≡ None)
TakesFound rows (Ok (Run set script flags)) = RunsFound rows (Ok (Run set script flags))
TakesFound rows (Ok (RunStores set script folder flags)) =
    RunsFound rows (Ok (RunStores set script folder flags))
TakesFound rows (Ok (RunInput flags)) = RunsFound rows (Ok (RunInput flags))
TakesFound rows (Err NoScript) = RunsFound rows (Err NoScript)
TakesFound rows (Err ScriptTooMany) = RunsFound rows (Err ScriptTooMany)
TakesFound rows (Err StoresOfInput) = RunsFound rows (Err StoresOfInput)
TakesFound rows (Err WalkOfRun) = DrawsFound rows (Err WalkOfRun)
TakesFound rows (Err LateOfRun) = DrawsFound rows (Err LateOfRun)
TakesFound rows (Err MendedOfRun) = DrawsFound rows (Err MendedOfRun)
TakesFound rows (Err WalkAndLate) = DrawsFound rows (Err WalkAndLate)
TakesFound rows (Err StatusOfFolder) = first_of (codes "PORT") rows ≡ None
TakesFound rows (Err NoCommand) = Unit {0}
TakesFound rows (Err NotUtf8) = ⊥

-- the same of what clap found, if it found a command
abbrev pub TakesWords : Option (Text × List Row) → Result Job CommandFault → Type 0
TakesWords None job = job ≡ Ok (RunInput no_flags)
TakesWords (Some found) job = TakesFound found.1 job
