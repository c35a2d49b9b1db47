-- What is printed of why a verdict is what it is.
use Rattle.std.specs.Prelude.{◌≡◌, ℕ, List, [], ◌++◌}
use Rattle.lynx_set.specs.Set.{Set}
use Rattle.lynx_check.specs.declared.verdict.Verdict.{Verdict}
use Rattle.lynx_check.specs.declared.verdict.Verdict.TheVariants.{Accepted, Offending}
use Rattle.lynx_check.specs.Reasons.{reason_of}
use Rattle.lynx_graph.specs.Edges.{edges_of}
use Rattle.lynx_graph.specs.declared.members.Member.{Member}
use Rattle.lynx_reasons.specs.Blame.{AreBlameLines}
use Rattle.lynx_reasons.specs.Busy.{busy_lines}
use Rattle.lynx_reasons.specs.Groups.{group_lines}
use Rattle.lynx_reasons.specs.Late.{late_lines}
use Rattle.lynx_reasons.specs.Meets.{meet_lines}
use Rattle.lynx_reasons.specs.Mixed.{mixed_lines}
use Rattle.lynx_reasons.specs.Never.{never_lines}
use Rattle.lynx_graph.specs.Together.{AreLed}

-- the groups of an accepted set, each led by the least of its programs; an offending set has none
abbrev pub AreGroupLines : Set → Verdict → List ℕ → Type 0
AreGroupLines set (Accepted own) lines =
    (members : List Member) × AreLed set members
    × (lines ≡ group_lines set (edges_of set) (reason_of own.excused) members)
AreGroupLines set (Offending walk blocks) lines = lines ≡ []

-- what stands in the way of an offending set: the late blocks, the mixed groups, and the programs
-- to blame; nothing does of an accepted one
abbrev pub AreOffenceLines : Set → Verdict → List ℕ → Type 0
AreOffenceLines set (Accepted own) lines = lines ≡ []
AreOffenceLines set (Offending walk blocks) lines =
    (members : List Member) × (blame : List ℕ) × AreLed set members × AreBlameLines set blame
    × (lines ≡ late_lines set ++ mixed_lines set (edges_of set) members ++ blame)

-- the hops that meet, the groups, the programs that return, those that can never begin, and what
-- stands in the way
pub record IsWhy (set : Set) (verdict : Verdict) (printed : List ℕ) : Type 0 where
  pub groups : List ℕ
  pub right : AreGroupLines set verdict groups
  pub offence : List ℕ
  pub named : AreOffenceLines set verdict offence
  pub whole : printed
      ≡ meet_lines set (edges_of set) ++ groups ++ busy_lines set ++ never_lines set ++ offence
