-- What is written of a set before a run of it: nothing where it is accepted, and its verdict where
-- it offends.
use Rattle.std.specs.Prelude.{◌≡◌, ◌⊎◌, ℕ, Option, List}
use Rattle.lynx_graph.specs.Acceptance.{IsAccepted}
use Rattle.lynx_set.specs.Rules.{IsSet}
use Rattle.lynx_set.specs.Set.{Set}
use Rattle.lynx_set.specs.Text.{text_of}
use Rattle.lynx_report.specs.declared.options.Why.TheVariants.{Untold}
use Rattle.lynx_report.specs.declared.verdict.Finding.TheVariants.{Offending}
use Rattle.std.specs.Io.KnownBytes.{Keeps}
use Rattle.lynx_report.specs.Checks.{Finds, IsVerdict}
use Rattle.lynx_report.specs.Written.{AppendsPart}

-- the text is that of this set, which is accepted
pub record Accepts (text : List ℕ) (chains : Set) : Type 0 where
  pub is_set : IsSet chains
  pub spelled : text ≡ text_of chains
  pub accepted : IsAccepted chains

-- nothing is written, or a beginning of the verdict that the set offends
abbrev pub BeginsSetRefusal : Set → Option (List ℕ) → Option (List ℕ) → Type 0
BeginsSetRefusal chains old new =
    Keeps old new
    ⊎ ((printed : List ℕ) × IsVerdict chains Offending printed × AppendsPart old new printed)

-- Where a fault stops a refusal, nothing is written, or a beginning of the verdict that the text's
-- set offends.
abbrev pub BeginsRefusal : List ℕ → Option (List ℕ) → Option (List ℕ) → Type 0
BeginsRefusal set old new =
    Keeps old new
    ⊎ ((printed : List ℕ) × Finds Untold set Offending printed × AppendsPart old new printed)
