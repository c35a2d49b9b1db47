-- What is printed of a verdict.
use Rattle.std.proofs.Common.{◌≡◌, ℕ, List, [], ◌++◌, Option, inl, inr, refl, sym, ap, ◌∙◌, subst}
use Rattle.std.proofs.lemmas.List.{append-nil}
use Rattle.std.specs.Prelude.{codes}
use Rattle.lynx_set.specs.Rules.{IsSet}
use Rattle.lynx_set.specs.Set.{Set}
use Rattle.lynx_set.specs.Text.{text_of}
use Rattle.lynx_graph.specs.declared.block.Block.{Block}
use Rattle.lynx_check.specs.declared.verdict.Verdict.{Verdict}
use Rattle.lynx_check.specs.declared.verdict.Verdict.TheVariants.{Accepted as AcceptedVerdict, Offending as OffendingVerdict}
use Rattle.lynx_graph.specs.declared.visit.Visit.{Visit}
use Rattle.lynx_check.specs.Reasons.{Accepted, reason_of}
use Rattle.lynx_check.specs.Verdicts.{Judges}
use Rattle.lynx_check.proofs.Accepting.{reason_from_excuse}
use Rattle.lynx_lex.specs.Lines.{with_feed}
use Rattle.lynx_report.specs.declared.verdict.Finding.TheVariants.{Accepted as AcceptedFinding, Offending}
use Rattle.lynx_report.specs.Checks.{AreBehind, accepted_line, edge_lines, finding_of, IsExplained, IsVerdict, IsVerdictWith, verdict_lines}
use Rattle.lynx_report.specs.declared.options.Why.{Why}
use Rattle.lynx_report.specs.declared.options.Why.TheVariants.{Untold, Summary}
use Rattle.lynx_report.specs.declared.options.Why.TheVariants as whys
use Rattle.lynx_report.specs.Refusals.{BeginsRefusal, BeginsSetRefusal}

pub accepted_printed : (chains : Set) (own : Accepted) → Judges chains (AcceptedVerdict own) → IsVerdict chains (AcceptedFinding (reason_of own.excused)) (accepted_line (reason_of own.excused))
accepted_printed chains own judged = (reason_from_excuse chains own.excused judged.1, refl)

pub offending_printed : (chains : Set) (walk : List Visit) (blocks : List Block) → Judges chains (OffendingVerdict walk blocks) → IsVerdict chains Offending (with_feed (codes "offending") ++ edge_lines chains walk)
offending_printed chains walk blocks judged = ((walk, judged.0, refl), (blocks, judged.1))

-- of any verdict
judged_printed : (chains : Set) (verdict : Verdict) → Judges chains verdict → IsVerdict chains (finding_of verdict) (verdict_lines chains verdict)
judged_printed chains (AcceptedVerdict own) judged = accepted_printed chains own judged
judged_printed chains (OffendingVerdict walk blocks) judged = offending_printed chains walk blocks judged

-- and with the lines that are asked for behind it
explained : (why : Why) (chains : Set) (verdict : Verdict) (lines : List ℕ) → Judges chains verdict → AreBehind why chains verdict lines →
    IsExplained why chains (finding_of verdict) (verdict_lines chains verdict ++ lines)
explained why chains verdict lines judged behind = record {
  verdict = verdict;
  judges = judged;
  finding_is = refl;
  behind = lines;
  are_behind = behind;
  lines = refl;
}

pub verdict_with : (why : Why) (chains : Set) (verdict : Verdict) (lines : List ℕ) → Judges chains verdict → AreBehind why chains verdict lines →
    IsVerdictWith why chains (finding_of verdict) (verdict_lines chains verdict ++ lines)
verdict_with Untold chains verdict lines judged none =
    subst (IsVerdict chains (finding_of verdict)) (sym (ap (λ bytes. verdict_lines chains verdict ++ bytes) none ∙ append-nil (verdict_lines chains verdict)))
    (judged_printed chains verdict judged)
verdict_with Summary chains verdict lines judged behind = explained Summary chains verdict lines judged behind
verdict_with whys.All chains verdict lines judged behind = explained whys.All chains verdict lines judged behind

-- a beginning of the refusal of a set, by its text
pub refusal_begun : (first second : Option (List ℕ)) (text : List ℕ) (chains : Set) → IsSet chains × (text ≡ text_of chains) →
    BeginsSetRefusal chains first second → BeginsRefusal text first second
refusal_begun first second text chains spelled (inl kept) = inl kept
refusal_begun first second text chains spelled (inr begun) =
    inr (begun.0, record { chains = chains; is_set = spelled.0; spelled = spelled.1; verdict = begun.1 }, begun.2)
