-- What is told of changes that make a set accepted, one behind the other.
use Rattle.std.proofs.Common.{◌≡◌, ◌∙◌, ◌+◌, ◌≤◌, ◌<◌, ◌++◌, ◌∷◌, [], ℕ, List, Option, Some, None, Result, Ok, Err, ap, append_assoc, drop, get_or, length, refl, subst, sym}
use Rattle.std.specs.Prelude.{IfNone, IfOk}
use Rattle.std.proofs.lemmas.List.{append-nil, drop_all, drop_more}
use Rattle.lynx_mend.specs.Mended.{Mended}
use Rattle.lynx_cli.specs.Mendings.{AreProposals, IsProposal}

-- what holds anyway holds where there is none
pub none_so : {X E P : Type 0} (r : Result (Option X) E) → P → IfOk r (λ found. IfNone found P)
none_so (Ok None) holds = holds
none_so (Ok (Some found)) holds = tt
none_so (Err fault) holds = tt

-- one more change is told
pub next_told : (all : List Mended) (index number : ℕ) (mended : Mended) (out new own : List ℕ) → index < length all → mended ≡ get_or all index mended
    → IsProposal number mended own → new ≡ out ++ own → ((rest : List ℕ) → AreProposals number (drop index all) rest → AreProposals 1 all (out ++ rest))
    → (rest : List ℕ) → AreProposals (number + 1) (drop (index + 1) all) rest → AreProposals 1 all (new ++ rest)
next_told all index number mended out new own within there is grown so_far rest told =
    let split : mended ∷ drop (index + 1) all ≡ drop index all = ap (λ m. m ∷ drop (index + 1) all) there ∙ sym (drop_more all index mended within) in
    let whole : AreProposals number (drop index all) (own ++ rest) = subst (λ left. AreProposals number left (own ++ rest)) split (own, rest, is, told, refl) in
    subst (λ text. AreProposals 1 all (text ++ rest)) (sym grown) (subst (AreProposals 1 all) (sym (append_assoc out own rest)) (so_far (own ++ rest) whole))

-- all are told
pub all_told : (all : List Mended) (index number : ℕ) (out : List ℕ) → length all ≤ index
    → ((rest : List ℕ) → AreProposals number (drop index all) rest → AreProposals 1 all (out ++ rest)) → AreProposals 1 all out
all_told all index number out end so_far =
    subst (AreProposals 1 all) (append-nil out) (so_far [] (subst (λ left. AreProposals number left []) (sym (drop_all index all end)) refl))
