-- Histories of servers that are opened one after another.
use Rattle.std.proofs.Common.{◌≡◌, ◌∙◌, ℕ, ◌+◌, length, List, [], ◌∷◌, ◌++◌, slice_get, Some, inl, inr, refl, sym, ap, subst, arith}
use Rattle.std.proofs.lemmas.Bool.{cases_lt}
use Rattle.std.proofs.lemmas.List.{length-append}
use Rattle.std.proofs.lemmas.Option.{slice_get_within}
use Rattle.lynx_entry.specs.Entry.{History}
use Rattle.lynx_keep.specs.Kept.{Terms}
use Rattle.lynx_server.proofs.Chains.{get_before, get_last}
use Rattle.lynx_set.specs.Set.{Set}
use Rattle.lynx_audit.specs.Audits.{AreOpenedTo, IsOpenedTo}

-- the histories of the servers below this number
pub record AreOpenedBelow {K : Type 0} (terms : Terms K) (set : Set) (keepers : List K) (number : ℕ) (histories : List History) : Type 0 where
  pub many : length histories ≡ number
  pub each : (server : ℕ) (keeper : K) (history : History) → slice_get keepers server ≡ Some keeper →
      slice_get histories server ≡ Some history → IsOpenedTo terms set server keeper history

pub opened_none : {K : Type 0} (terms : Terms K) (set : Set) (keepers : List K) → AreOpenedBelow terms set keepers 0 []
opened_none terms set keepers = record { many = refl; each = λ server keeper history there is. cc }

pub opened_more : {K : Type 0} (terms : Terms K) (set : Set) (keepers : List K) (number : ℕ) (histories : List History) (keeper : K) (last : History) →
    slice_get keepers number ≡ Some keeper → IsOpenedTo terms set number keeper last → AreOpenedBelow terms set keepers number histories →
    AreOpenedBelow terms set keepers (number + 1) (histories ++ last ∷ [])
opened_more {K} terms set keepers number histories keeper last there is below = record {
  many = let many = below.many in let more = length-append histories (last ∷ []) in omega (arith, more);
  each = λ server one history at its. elim (cases_lt server (length histories)) [
    | inl within ↦ below.each server one history at (sym (get_before histories last server within) ∙ its)
    | inr past ↦
        let bound = slice_get_within (histories ++ last ∷ []) server history its in
        let more = length-append histories (last ∷ []) in
        let last_is : server ≡ length histories = omega (arith, more) in
        let server_is : server ≡ number = last_is ∙ below.many in
        let histories_alike : last ≡ history = let both = sym (ap (slice_get (histories ++ last ∷ [])) last_is ∙ get_last histories last) ∙ its in cc in
        let keepers_alike : keeper ≡ one = let both = sym there ∙ ap (slice_get keepers) (sym server_is) ∙ at in cc in
        subst (IsOpenedTo terms set server one) histories_alike
        (subst (λ (k : K). IsOpenedTo terms set server k last) keepers_alike (subst (λ n. IsOpenedTo terms set n keeper last) (sym server_is) is))
  ];
}

pub opened_all : {K : Type 0} (terms : Terms K) (set : Set) (keepers : List K) (number : ℕ) (histories : List History) →
    number ≡ set.servers → AreOpenedBelow terms set keepers number histories → AreOpenedTo terms set keepers histories
opened_all terms set keepers number histories all below = record {
  many = below.many ∙ all;
  each = below.each;
}
