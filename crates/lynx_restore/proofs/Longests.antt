-- The longest lawful fronts, one server after another.
use Rattle.std.proofs.Common.{◌≡◌, ◌+◌, ℕ, zero, suc, List, [], ◌∷◌, ◌++◌, drop, take, length, slice_get, Some, inl, inr, refl, sym, ap, subst, ◌∙◌, length-append, arith}
use Rattle.std.proofs.lemmas.Bool.{cases_lt}
use Rattle.std.proofs.lemmas.Option.{slice_get_within}
use Rattle.lynx_set.specs.Set.{Set}
use Rattle.lynx_entry.specs.declared.entry.Entry.{Entry}
use Rattle.lynx_entry.specs.Entry.{History}
use Rattle.lynx_keep.specs.Kept.{KeptState}
use Rattle.lynx_server.specs.History.{IsFirstUnlawful}
use Rattle.lynx_server.specs.Serving.{Serving}
use Rattle.lynx_server.proofs.Chains.{get_before, get_last}
use Rattle.lynx_weave.proofs.Fronts.{one_of}
use Rattle.lynx_restore.specs.Longest.{IsLongest, IsLongestLawful}
use Rattle.lynx_restore.specs.Restored.{restored_of}

-- ---- one server

parted : (found : History) (place : ℕ) (entry : Entry) → slice_get found place ≡ Some entry → found ≡ take place found ++ entry ∷ drop (suc place) found
parted [] place entry there = cc
parted (first ∷ found) zero entry there = let same : first ≡ entry = cc in ap (λ e. e ∷ found) same
parted (first ∷ found) (suc place) entry there = ap (λ es. first ∷ es) (parted found place entry there)

-- those before the first that isn't lawful are the longest lawful front
pub lawful_before : (set : Set) (server : ℕ) (found : History) (place : ℕ) → IsFirstUnlawful set server found place → IsLongestLawful set server found (take place found)
lawful_before set server found place first = record {
  rest = first.entry ∷ drop (suc place) found;
  found_is = parted found place first.entry first.there;
  lawful = first.before;
  ends = first.unlawful;
}

-- ---- one after another

-- the first servers
pub record AreLongestBelow (set : Set) (found : List History) (number : ℕ) (servers : List (Serving KeptState)) : Type 0 where
  pub many : length servers ≡ number
  pub each : (server : ℕ) (history : History) (here : Serving KeptState) → slice_get found server ≡ Some history → slice_get servers server ≡ Some here →
      IsLongest set server history here

pub longest_more : (set : Set) (found : List History) (number : ℕ) (servers : List (Serving KeptState)) (history : History) (here : Serving KeptState) →
    slice_get found number ≡ Some history → IsLongest set number history here → AreLongestBelow set found number servers →
    AreLongestBelow set found (number + 1) (servers ++ here ∷ [])
longest_more set found number servers history here there is below = record {
  many = let many = below.many in let more = length-append servers (here ∷ []) in omega (arith, more);
  each = λ server one_history one at_history at. elim (cases_lt server (length servers)) [
    | inl within ↦ below.each server one_history one at_history (sym (get_before servers here server within) ∙ at)
    | inr past ↦
        let bound = slice_get_within (servers ++ here ∷ []) server one at in
        let more = length-append servers (here ∷ []) in
        let last : server ≡ length servers = omega (arith, more) in
        let entries : Some here ≡ Some one = sym (ap (slice_get (servers ++ here ∷ [])) last ∙ get_last servers here) ∙ at in
        let alike : here ≡ one = cc in
        let server_is : number ≡ server = sym below.many ∙ sym last in
        let same : history ≡ one_history = one_of history one_history (slice_get found number) there (ap (slice_get found) server_is ∙ at_history) in
        subst (λ n. IsLongest set n one_history one) server_is
        (subst (λ h. IsLongest set number h one) same (subst (IsLongest set number history) alike is))
  ];
}

-- ---- what is told

pub length_restored : {K : Type 0} (counts : List ℕ) (servers : List (Serving K)) → length counts ≡ length servers → length (restored_of counts servers) ≡ length servers
length_restored [] [] same = refl
length_restored [] (here ∷ servers) same = absurd (omega (arith, same))
length_restored (count ∷ counts) [] same = refl
length_restored (count ∷ counts) (here ∷ servers) same = ap suc (length_restored counts servers (omega (arith, same)))
