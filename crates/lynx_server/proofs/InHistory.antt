-- Each entry of a lawful history is lawful after those before it.
use Rattle.std.proofs.Common.{◌≡◌, ℕ, zero, suc, [], ◌∷◌, ◌++◌, take, slice_get, Some, append_assoc, sym, subst}
use Rattle.std.proofs.lemmas.List.{append-nil}
use Rattle.lynx_set.specs.Set.{Set}
use Rattle.lynx_entry.specs.declared.entry.Entry.{Entry}
use Rattle.lynx_entry.specs.Entry.{History}
use Rattle.lynx_rules.specs.Lawful.{IsLawful}
use Rattle.lynx_server.specs.History.{IsLawfulAfter, IsLawfulHistory}

lawful_at : (set : Set) (server : ℕ) (before history : History) (place : ℕ) (entry : Entry) → IsLawfulAfter set server before history →
    slice_get history place ≡ Some entry → IsLawful set server (before ++ take place history) entry
lawful_at set server before [] place entry lawful there = cc
lawful_at set server before (first ∷ history) zero entry lawful there =
    let same : first ≡ entry = cc in
    subst (λ h. IsLawful set server h entry) (sym (append-nil before)) (subst (IsLawful set server before) same lawful.0)
lawful_at set server before (first ∷ history) (suc place) entry lawful there =
    subst (λ h. IsLawful set server h entry) (append_assoc before (first ∷ []) (take place history))
    (lawful_at set server (before ++ first ∷ []) history place entry lawful.1 there)

-- each entry is lawful after those before it
pub lawful_in : (set : Set) (server : ℕ) (history : History) (place : ℕ) (entry : Entry) → IsLawfulHistory set server history →
    slice_get history place ≡ Some entry → IsLawful set server (take place history) entry
lawful_in set server history place entry lawful there = lawful_at set server [] history place entry lawful there
