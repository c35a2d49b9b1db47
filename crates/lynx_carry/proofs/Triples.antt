-- When two triples are the same.
use Rattle.std.proofs.Common.{◌≡◌, ℕ, ◌==◌, ◌&&◌, ap}
use Rattle.std.specs.Bool.{Decides}
use Rattle.std.proofs.lemmas.Bool.Decides.{Decides-and, Decides-eqb}

pub triples_decide : (a b : ℕ × ℕ × ℕ) → Decides (((a.0 == b.0) && (a.1 == b.1)) && (a.2 == b.2)) (a ≡ b)
triples_decide a b =
    let parts = Decides-and _ _ (Decides-and _ _ (Decides-eqb a.0 b.0) (Decides-eqb a.1 b.1)) (Decides-eqb a.2 b.2) in (
      λ e. let are = parts.0 e in λ i. (are.0.0 i, are.0.1 i, are.1 i),
      λ e. parts.1 ((ap (λ (t : ℕ × ℕ × ℕ). t.0) e, ap (λ (t : ℕ × ℕ × ℕ). t.1) e), ap (λ (t : ℕ × ℕ × ℕ). t.2) e),
    )
