use Rattle.std.proofs.Common.{◌≡◌, ◌+◌, ◌++◌, ℕ, List, drop}
use Rattle.lynx_cli.specs.Mendings.{AreProposals}
use Rattle.lynx_cli.proofs.mending.list.Given as goal

-- what tells the changes that are left, behind what is told so far, tells all
abbrev pub invariant-loop-mending : goal.invariant-loop-mending
invariant-loop-mending l = record {
  told : (rest : List ℕ) → AreProposals l.number (drop l.mending-index l.mendings) rest → AreProposals 1 l.mendings (l.out.items ++ rest);
  numbered : l.number ≡ l.mending-index + 1;
}
