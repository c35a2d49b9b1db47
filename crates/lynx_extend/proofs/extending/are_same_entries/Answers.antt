use Rattle.std.proofs.Common.{◌≡◌, ◌∙◌, ◌&&◌, true, sym, ap}
use Rattle.lynx_set.proofs.Alike.{same_entries}
use Rattle.lynx_set.specs.contracts.program.ProgramPartialEq as programs
use Rattle.lynx_set.proofs.Same.{same_name}
use Rattle.lynx_extend.proofs.extending.are_same_entries.Goals as goal

pub returns-then-eq : goal.returns-then-eq
returns-then-eq c =
    let decides = same_entries (c.args.left.0.now, c.args.left.1.now) (c.args.right.0.now, c.args.right.1.now) in
    let names : same_name c.args.left.0.now c.args.right.0.now ≡ true = sym c.eq.ensures ∙ c.if-eq.true in
    let whole : (same_name c.args.left.0.now c.args.right.0.now && programs.TheImpl.ghosts.eq c.args.left.1.now c.args.right.1.now) ≡ c.eq-then-eq.result =
    ap (λ b. b && programs.TheImpl.ghosts.eq c.args.left.1.now c.args.right.1.now) names ∙ sym c.eq-then-eq.ensures in
    (λ same. decides.0 (whole ∙ same), λ is. sym whole ∙ decides.1 is)
