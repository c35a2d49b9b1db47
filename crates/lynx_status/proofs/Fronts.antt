-- What follows a text at the front of another.
use Rattle.std.proofs.Common.{◌≡◌, ◌≢◌, ◌==◌, ℕ, List, [], ◌∷◌, ◌++◌, Bool, true, false, Option, Some, None, Bor, cond, refl, sym, ap, ◌∙◌}
use Rattle.std.specs.Prelude.{IfNone, IfSome, option_copied}
use Rattle.std.proofs.lemmas.Bool.{eqb-true, eq-eqb}
use Rattle.lynx_status.specs.Wanted.{behind}

behind_own : (words rest : List ℕ) → behind words (words ++ rest) ≡ Some rest
behind_own [] rest = refl
behind_own (byte ∷ words) rest = ap (λ b. cond b (behind words (words ++ rest)) None) (eq-eqb byte byte refl) ∙ behind_own words rest

behind_none : (words text : List ℕ) → ((rest : List ℕ) → text ≢ words ++ rest) → behind words text ≡ None
behind_none [] text none = absurd (none text refl)
behind_none (byte ∷ words) [] none = refl
behind_none (byte ∷ words) (first ∷ text) none = by (byte == first) refl (behind_none words text)
  where
    by : (b : Bool) → (byte == first) ≡ b → (((rest : List ℕ) → text ≢ words ++ rest) → behind words text ≡ None) → cond b (behind words text) None ≡ None
    by false is later = refl
    by true is later =
        let same : byte ≡ first = eqb-true byte first is in
        later (λ rest whole. none rest (ap (λ b. b ∷ text) (sym same) ∙ ap (λ t. byte ∷ t) whole))

-- what is found behind the words, or that nothing is
pub behind_is : (words text : List ℕ) (result : Option (Bor (List ℕ))) → IfSome result (λ rest. text ≡ words ++ rest.now) →
    IfNone result ((rest : List ℕ) → text ≢ words ++ rest) → option_copied result ≡ behind words text
behind_is words text None found none = sym (behind_none words text none)
behind_is words text (Some rest) found none = sym (ap (behind words) found ∙ behind_own words rest.now)
