-- What `==` says of an entry that may not be there, and of two cells with their values.
use Rattle.std.proofs.Common.{◌≡◌, ℕ, ◌==◌, ◌&&◌, Bool, Option, Some, None, Bor, sym, ap, ◌∙◌}
use Rattle.std.specs.Bool.{Decides}
use Rattle.std.specs.Option.{option_copied, option_eq}
use Rattle.std.proofs.lemmas.Bool.Decides.{Decides-and, Decides-eqb}
use Rattle.lynx_entry.specs.declared.entry.Entry.{Entry}
use Rattle.lynx_entry.specs.contracts.entry.EntryPartialEq as entries
use Rattle.lynx_entry.proofs.Alike.{entries_decide}

-- an entry that may not be there is that one
pub found_decides : (found : Option (Bor Entry)) (entry : Bor Entry) (r : Bool) →
    r ≡ option_eq (λ x y. entries.TheImpl.ghosts.eq x.now y.now) found (Some entry) → Decides r (option_copied found ≡ Some entry.now)
found_decides None entry r is = (λ e. cc, λ e. cc)
found_decides (Some other) entry r is =
    let decides = entries_decide other.now entry.now in
    (λ e. ap Some (decides.0 (sym is ∙ e)), λ e. is ∙ decides.1 cc)

-- two cells with their values are the same
pub triples_decide : (a b : ℕ × ℕ × ℕ) → Decides (((a.0 == b.0) && (a.1 == b.1)) && (a.2 == b.2)) (a ≡ b)
triples_decide a b =
    let parts = Decides-and _ _ (Decides-and _ _ (Decides-eqb a.0 b.0) (Decides-eqb a.1 b.1)) (Decides-eqb a.2 b.2) in (
      λ e. let are = parts.0 e in λ i. (are.0.0 i, are.0.1 i, are.1 i),
      λ e. parts.1 ((ap (λ (t : ℕ × ℕ × ℕ). t.0) e, ap (λ (t : ℕ × ℕ × ℕ). t.1) e), ap (λ (t : ℕ × ℕ × ℕ). t.2) e),
    )
