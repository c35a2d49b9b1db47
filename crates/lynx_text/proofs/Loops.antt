-- Reading parts one after another, as a loop does.
use Rattle.std.proofs.Common.{◌≡◌, ℕ, zero, suc, ◌+◌, ◌-◌, ◌≤◌, Bool, true, false, cond, List, Option, Some, None, sym, ap, ◌∙◌, arith}
use Rattle.lynx_lex.specs.Lines.{◌>>=◌}
use Rattle.lynx_text.specs.Parts.{parts}
use Rattle.lynx_lex.specs.Gives.{Fails}
use Rattle.lynx_lex.specs.declared.fault.FaultKind.{FaultKind}
use Rattle.lynx_lex.specs.declared.fault.FaultKind.TheVariants.{TooLong, BadVersion, BadLine, BadName, BadNumber, Repeated, Unknown, NeedNotFirst, LimitPassed, LiteralElsewhere, Shard, Memory}

-- after one more part, what is left decides
pub parts_more : {S : Type 0} (goes : List (List ℕ) → Bool) (part : S → List (List ℕ) → Option (S × List (List ℕ))) (limit n m : ℕ) (s next : S) (lines rest : List (List ℕ)) (total : Option (S × List (List ℕ)))
    → goes lines ≡ true → part s lines ≡ Some (next, rest) → m ≡ n + 1 → m ≤ limit → parts goes part (limit - n) s lines ≡ total → parts goes part (limit - m) next rest ≡ total
unfolding parts
parts_more goes part limit n m s next lines rest total goes_on read more few so_far =
    let k : limit - n ≡ suc (limit - m) = omega arith in
    let step : parts goes part (suc (limit - m)) s lines ≡ parts goes part (limit - m) next rest =
    ap (λ b. cond b (part s lines >>= λ r. parts goes part (limit - m) r.0 r.1) (Some (s, lines))) goes_on ∙ ap (λ r. r >>= λ x. parts goes part (limit - m) x.0 x.1) read in
    sym step ∙ ap (λ room. parts goes part room s lines) (sym k) ∙ so_far

-- a part that isn't read ends it
pub parts_fail : {S : Type 0} (goes : List (List ℕ) → Bool) (part : S → List (List ℕ) → Option (S × List (List ℕ))) (room : ℕ) (s : S) (lines : List (List ℕ)) (total : Option (S × List (List ℕ)))
    → goes lines ≡ true → part s lines ≡ None → parts goes part room s lines ≡ total → total ≡ None
unfolding parts
parts_fail goes part zero s lines total goes_on none so_far = sym so_far ∙ ap (λ b. cond b None (Some (s, lines))) goes_on
parts_fail goes part (suc room) s lines total goes_on none so_far =
    sym so_far ∙ ap (λ b. cond b (part s lines >>= λ r. parts goes part room r.0 r.1) (Some (s, lines))) goes_on ∙ ap (λ r. r >>= λ x. parts goes part room x.0 x.1) none

-- where it doesn't go on, all is read
pub parts_done : {S : Type 0} (goes : List (List ℕ) → Bool) (part : S → List (List ℕ) → Option (S × List (List ℕ))) (room : ℕ) (s : S) (lines : List (List ℕ)) (total : Option (S × List (List ℕ)))
    → goes lines ≡ false → parts goes part room s lines ≡ total → total ≡ Some (s, lines)
unfolding parts
parts_done goes part zero s lines total stops so_far = sym so_far ∙ ap (λ b. cond b None (Some (s, lines))) stops
parts_done goes part (suc room) s lines total stops so_far =
    sym so_far ∙ ap (λ b. cond b (part s lines >>= λ r. parts goes part room r.0 r.1) (Some (s, lines))) stops

-- a fault of a part is one of the whole
pub Fails-from : {X Y : Type 0} (kind : FaultKind) (part : Option X) (whole : Option Y) → (part ≡ None → whole ≡ None) → Fails kind part → Fails kind whole
Fails-from TooLong part whole f h = h
Fails-from BadVersion part whole f h = h
Fails-from BadLine part whole f h = f h
Fails-from BadName part whole f h = f h
Fails-from BadNumber part whole f h = f h
Fails-from Repeated part whole f h = f h
Fails-from Unknown part whole f h = f h
Fails-from NeedNotFirst part whole f h = f h
Fails-from LimitPassed part whole f h = f h
Fails-from LiteralElsewhere part whole f h = f h
Fails-from (Shard fault) part whole f h = f h
Fails-from Memory part whole f h = tt
