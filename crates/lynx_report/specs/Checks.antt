-- What the verdict on a set prints.
use Rattle.std.specs.Prelude.{◌≡◌, ◌≢◌, ◌⊎◌, ℕ, Option, List, [], ◌∷◌, ◌++◌, codes}
use Rattle.std.specs.List.{flat_map}
use Rattle.std.specs.Fmt.{decimal}
use Rattle.lynx_graph.specs.declared.visit.Visit.{Visit}
use Rattle.lynx_check.specs.declared.accepted.Reason.{Reason}
use Rattle.lynx_check.specs.declared.accepted.Reason.TheVariants.{Walks, Blocks}
use Rattle.lynx_graph.specs.declared.block.Block.{Block}
use Rattle.lynx_check.specs.Reasons.{IsReason, reason_of}
use Rattle.lynx_check.specs.Verdicts.{Judges}
use Rattle.lynx_check.specs.declared.verdict.Verdict.{Verdict}
use Rattle.lynx_check.specs.declared.verdict.Verdict.TheVariants.{Accepted as AcceptedVerdict, Offending as OffendingVerdict}
use Rattle.lynx_reasons.specs.Summaries.{IsSummary, edges}
use Rattle.lynx_reasons.specs.Whys.{IsWhy}
use Rattle.lynx_graph.specs.Blocks.{IsOffendingBlockWalk}
use Rattle.lynx_graph.specs.Walks.{IsOffending}
use Rattle.lynx_set.specs.Rules.{IsSet}
use Rattle.lynx_set.specs.Set.{Set}
use Rattle.lynx_set.specs.Text.{text_of}
use Rattle.lynx_report.specs.declared.options.Why.{Why}
use Rattle.lynx_report.specs.declared.options.Why.TheVariants.{Untold, Summary}
use Rattle.lynx_report.specs.declared.options.Why.TheVariants as whys
use Rattle.lynx_report.specs.declared.run.RunFault.{RunFault}
use Rattle.lynx_report.specs.declared.run.RunFault.TheVariants.{Set as SetFault, Script as ScriptFault, Write, Memory}
use Rattle.lynx_report.specs.declared.verdict.Finding.{Finding}
use Rattle.lynx_report.specs.declared.verdict.Finding.TheVariants.{Accepted, Offending}
use Rattle.lynx_lex.specs.declared.fault.FaultKind.TheVariants.{Memory as NoMemory}
use Rattle.lynx_lex.specs.Lines.{with_feed}
use Rattle.std.specs.Io.KnownBytes.{Keeps}
use Rattle.lynx_report.specs.Runs.{IsNoSet}
use Rattle.lynx_report.specs.Written.{AppendsPart}
use Rattle.lynx_set.specs.Lookups.{program_name}

-- the line of the conflict edge from one visit to the next: the hop left, and the hop entered
abbrev pub edge_line : Set → Visit × Visit → List ℕ
edge_line chains edge =
    with_feed (codes "conflict " ++ program_name chains edge.0.program ++ 32 ∷ decimal edge.0.left
    ++ 32 ∷ program_name chains edge.1.program ++ 32 ∷ decimal edge.1.entered)

-- a line for each conflict edge of a walk
abbrev pub edge_lines : Set → List Visit → List ℕ
edge_lines chains walk = flat_map (edge_line chains) (edges walk)

-- what is printed of an accepted set
abbrev pub accepted_line : Reason → List ℕ
accepted_line Walks = with_feed (codes "accepted")
accepted_line Blocks = with_feed (codes "accepted by blocks")

-- accepted: for that reason. Offending: the lines are those of a closed walk that offends, and a
-- walk of blocks does too
abbrev pub IsVerdict : Set → Finding → List ℕ → Type 0
IsVerdict chains (Accepted reason) printed =
    IsReason chains reason × (printed ≡ accepted_line reason)
IsVerdict chains Offending printed =
    ((walk : List Visit) × IsOffending chains walk
    × (printed ≡ with_feed (codes "offending") ++ edge_lines chains walk))
    × ((blocks : List Block) × IsOffendingBlockWalk chains blocks)

-- what a verdict finds, and its lines
abbrev pub finding_of : Verdict → Finding
finding_of (AcceptedVerdict own) = Accepted (reason_of own.excused)
finding_of (OffendingVerdict walk blocks) = Offending

abbrev pub verdict_lines : Set → Verdict → List ℕ
verdict_lines chains (AcceptedVerdict own) = accepted_line (reason_of own.excused)
verdict_lines chains (OffendingVerdict walk blocks) =
    with_feed (codes "offending") ++ edge_lines chains walk

-- the summary of a verdict, and all that it rests on
pub record AreReasons (chains : Set) (verdict : Verdict) (lines : List ℕ) : Type 0 where
  pub summary : List ℕ
  pub sums_up : IsSummary chains verdict summary
  pub reasons : List ℕ
  pub why : IsWhy chains verdict reasons
  pub whole : lines ≡ summary ++ reasons

-- the lines behind a verdict: why it is what it is, as far as that is asked for
abbrev pub AreBehind : Why → Set → Verdict → List ℕ → Type 0
AreBehind Untold chains verdict lines = lines ≡ []
AreBehind Summary chains verdict lines = IsSummary chains verdict lines
AreBehind whys.All chains verdict lines = AreReasons chains verdict lines

-- the lines of a right verdict, and those behind it
pub record IsExplained (why : Why) (chains : Set) (finding : Finding) (printed : List ℕ) : Type 0
  where
    pub verdict : Verdict
    pub judges : Judges chains verdict
    pub finding_is : finding ≡ finding_of verdict
    pub behind : List ℕ
    pub are_behind : AreBehind why chains verdict behind
    pub lines : printed ≡ verdict_lines chains verdict ++ behind

-- the same, or the lines of the verdict alone
abbrev pub IsVerdictWith : Why → Set → Finding → List ℕ → Type 0
IsVerdictWith Untold chains finding printed = IsVerdict chains finding printed
IsVerdictWith Summary chains finding printed = IsExplained Summary chains finding printed
IsVerdictWith whys.All chains finding printed = IsExplained whys.All chains finding printed

-- what is found of a set text, and printed, with why it is so or without
pub record Finds (why : Why) (text : List ℕ) (finding : Finding) (printed : List ℕ) : Type 0 where
  pub chains : Set
  pub is_set : IsSet chains
  pub spelled : text ≡ text_of chains
  pub verdict : IsVerdictWith why chains finding printed

-- why no verdict comes, that a faulty text is told before anything is written, and that its fault
-- is never want of memory
abbrev pub NoVerdictFor : List ℕ → Type 0 → RunFault → Type 0
NoVerdictFor set unwritten (SetFault fault) = IsNoSet set × unwritten × (fault.kind ≢ NoMemory)
NoVerdictFor set unwritten (ScriptFault fault) = ⊥
NoVerdictFor set unwritten Write = Unit {0}
NoVerdictFor set unwritten Memory = Unit {0}

-- nothing is written, or a beginning of a verdict on the set
abbrev pub BeginsVerdict : Why → Set → Option (List ℕ) → Option (List ℕ) → Type 0
BeginsVerdict why chains old new =
    Keeps old new
    ⊎ ((finding : Finding) × (printed : List ℕ) × IsVerdictWith why chains finding printed
    × AppendsPart old new printed)

-- Where a fault stops a check, nothing is written, or a beginning of what it prints.
abbrev pub BeginsFinding : Why → List ℕ → Option (List ℕ) → Option (List ℕ) → Type 0
BeginsFinding why set old new =
    Keeps old new
    ⊎ ((finding : Finding) × (printed : List ℕ) × Finds why set finding printed
    × AppendsPart old new printed)
