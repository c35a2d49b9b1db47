-- What is found of a command line, as rows.
use Rattle.std.proofs.Common.{◌≡◌, ℕ, List, Option, Some, None, Bor, option_map, ap}
use Rattle.std.specs.Prelude.{unwrap_or}

-- the text of what was found, or of what stands for it
pub text_or : (found : Option (Bor (List ℕ))) (other : Bor (List ℕ)) (text : Option (List ℕ)) → option_map (λ own. own.now) found ≡ text →
    (unwrap_or found other).now ≡ unwrap_or text other.now
text_or None other text is = ap (λ (t : Option (List ℕ)). unwrap_or t other.now) is
text_or (Some found) other text is = ap (λ (t : Option (List ℕ)). unwrap_or t other.now) is
