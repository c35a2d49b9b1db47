-- What is written for a client.
use Rattle.std.proofs.Common.{◌≡◌, ◌++◌, ℕ, List, None, Some, IfOk, IfErr, Result, Ok, Err, ap, ◌∙◌}
use Rattle.std.specs.Prelude.{MatchResult}
use Rattle.std.specs.declared.option.Option.{Option}
use Rattle.std.specs.Io.KnownBytes.{Appends, Keeps}

-- what was kept, and then written on
pub kept_on : (a b c : Option (List ℕ)) (bs : List ℕ) → Keeps a b → Appends b c bs → Appends a c bs
kept_on None b c bs kept on = tt
kept_on (Some x) None c bs kept on = absurd kept
kept_on (Some x) (Some y) None bs kept on = absurd on
kept_on (Some x) (Some y) (Some z) bs kept on = on ∙ ap (λ l. l ++ bs) kept

-- how it was done, whichever way
pub done_so : {A B : Type 0} (P : A → Type 0) (Q : B → Type 0) (done : Result A B) → IfOk done P → IfErr done Q →
    (it : Result A B) × MatchResult it P Q
done_so P Q (Ok x) well ill = (Ok x, well)
done_so P Q (Err x) well ill = (Err x, ill)
