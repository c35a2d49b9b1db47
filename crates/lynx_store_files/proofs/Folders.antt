-- The stores of a folder, found or made one after another.
use Rattle.std.proofs.Common.{◌≡◌, ◌⊎◌, ◌∙◌, ◌+◌, ◌<◌, ◌≤◌, ◌++◌, ◌∷◌, [], ℕ, zero, suc, List, Option, Some, None, length, slice_get, inl, inr, refl, ap, sym, subst, arith, append_assoc, length-append}
use Rattle.std.specs.Prelude.{Bool, position, unwrap_or, if◌then◌else◌}
use Rattle.std.proofs.lemmas.Option.{slice_get_within}
use Rattle.std.proofs.lemmas.List.Quantifiers.{position-Some}
use Rattle.std.specs.List.{list_any}
use Rattle.lynx_set.specs.Set.{Set}
use Rattle.lynx_store_files.specs.Folders.{AreFound, AreKeepers, IsFound, IsKeeper, has_entries, is_lacking, lost_store}
use Rattle.lynx_store_files.specs.Terms.{StoreTerms}

-- what stands in a list with one more stands in the list, or is that one
pub at_push : {X : Type 0} (xs : List X) (last x : X) (i : ℕ) → slice_get (xs ++ last ∷ []) i ≡ Some x → (slice_get xs i ≡ Some x) ⊎ ((i ≡ length xs) × (last ≡ x))
at_push [] last x zero there = inr (refl, ap (λ o. unwrap_or o last) there)
at_push [] last x (suc i) there = absurd (let e = there in cc)
at_push (y ∷ xs) last x zero there = inl there
at_push (y ∷ xs) last x (suc i) there = elim (at_push xs last x i there) [
  | inl before ↦ inl before
  | inr now ↦ inr (ap suc now.0, now.1)
]

-- what stands behind the first ones is the next
pub next_at : {X : Type 0} (xs : List X) (x : X) (ys : List X) → slice_get (xs ++ x ∷ ys) (length xs) ≡ Some x
next_at [] x ys = refl
next_at (y ∷ xs) x ys = next_at xs x ys

-- what was found of the first servers
pub record AreFoundBelow {K : Type 0} (terms : StoreTerms K) (folder : List ℕ) (set : Set) (count : ℕ) (found : List (Option K)) : Type 0 where
  pub many : length found ≡ count
  pub each : (server : ℕ) (one : Option K) → slice_get found server ≡ Some one → IsFound terms folder set server one

pub none_found : {K : Type 0} (terms : StoreTerms K) (folder : List ℕ) (set : Set) → AreFoundBelow terms folder set 0 []
none_found terms folder set = record { many = refl; each = λ server one is. cc }

pub found_more : {K : Type 0} (terms : StoreTerms K) (folder : List ℕ) (set : Set) (count at : ℕ) (found more : List (Option K)) (one : Option K) →
    more ≡ found ++ one ∷ [] → at ≡ count → IsFound terms folder set at one → AreFoundBelow terms folder set count found → AreFoundBelow terms folder set (count + 1) more
found_more {K} terms folder set count at found more one pushed at_is is below = record {
  many = let many = below.many in let longer = ap length pushed ∙ length-append found (one ∷ []) in omega (arith, longer);
  each = λ server other there. elim (at_push found one other server (ap (λ xs. slice_get xs server) (sym pushed) ∙ there)) [
    | inl before ↦ below.each server other before
    | inr now ↦
        let server_is : at ≡ server = at_is ∙ sym below.many ∙ sym now.0 in
        subst (IsFound terms folder set server) now.1 (subst (λ n. IsFound terms folder set n one) server_is is)
  ];
}

pub all_found : {K : Type 0} (terms : StoreTerms K) (folder : List ℕ) (set : Set) (count : ℕ) (found : List (Option K)) → count ≡ set.servers →
    AreFoundBelow terms folder set count found → AreFound terms folder set found
all_found terms folder set count found all below = record { many = below.many ∙ all; each = below.each }

-- the keepers of the first servers; what was found of the others is left
pub record AreKeepersBelow {K : Type 0} (terms : StoreTerms K) (folder : List ℕ) (set : Set) (found rest : List (Option K)) (number : ℕ) (keepers : List K) : Type 0 where
  pub done : List (Option K)
  pub split : found ≡ done ++ rest
  pub counted : length done ≡ number
  pub many : length keepers ≡ number
  pub each : (server : ℕ) (one : Option K) (keeper : K) → slice_get found server ≡ Some one → slice_get keepers server ≡ Some keeper → IsKeeper terms folder set server one keeper

pub no_keepers : {K : Type 0} (terms : StoreTerms K) (folder : List ℕ) (set : Set) (found rest : List (Option K)) → rest ≡ found → AreKeepersBelow terms folder set found rest 0 []
no_keepers terms folder set found rest whole = record { done = []; split = sym whole; counted = refl; many = refl; each = λ server one keeper is there. cc }

pub keepers_more : {K : Type 0} (terms : StoreTerms K) (folder : List ℕ) (set : Set) (found rest left : List (Option K)) (number at : ℕ) (keepers more : List K) (one : Option K) (keeper : K) →
    rest ≡ one ∷ left → at ≡ number → IsKeeper terms folder set at one keeper → more ≡ keepers ++ keeper ∷ [] → AreKeepersBelow terms folder set found rest number keepers →
    AreKeepersBelow terms folder set found left (number + 1) more
keepers_more {K} terms folder set found rest left number at keepers more one keeper next at_is is pushed below = record {
  done = below.done ++ one ∷ [];
  split = split ∙ sym (append_assoc below.done (one ∷ []) left);
  counted = let counted = below.counted in let longer = length-append below.done (one ∷ []) in omega (arith, longer);
  many = let many = below.many in let longer = ap length pushed ∙ length-append keepers (keeper ∷ []) in omega (arith, longer);
  each = λ server other last stands there. elim (at_push keepers keeper last server (ap (λ xs. slice_get xs server) (sym pushed) ∙ there)) [
    | inl before ↦ below.each server other last stands before
    | inr now ↦
        let server_is : number ≡ server = sym below.many ∙ sym now.0 in
        let same : Some one ≡ Some other = sym standing ∙ ap (slice_get found) server_is ∙ stands in
        let alike : one ≡ other = cc in
        subst (λ (pair : Option K × K). IsKeeper terms folder set server pair.0 pair.1) (both alike now.1) (subst (λ n. IsKeeper terms folder set n one keeper) (at_is ∙ server_is) is)
  ];
}
  where
    split : found ≡ below.done ++ one ∷ left
    split = below.split ∙ ap (λ xs. below.done ++ xs) next

    standing : slice_get found number ≡ Some one
    standing = ap (λ all. slice_get all number) split ∙ ap (slice_get (below.done ++ one ∷ left)) (sym below.counted) ∙ next_at below.done one left

    both : {X Y : Type 0} {x other : X} {y another : Y} → x ≡ other → y ≡ another → ◌≡◌ {A = X × Y} (x, y) (other, another)
    both same alike = cc

pub all_keepers : {K : Type 0} (terms : StoreTerms K) (folder : List ℕ) (set : Set) (found rest : List (Option K)) (number : ℕ) (keepers : List K) → number ≡ set.servers →
    AreKeepersBelow terms folder set found rest number keepers → AreKeepers terms folder set found keepers
all_keepers terms folder set found rest number keepers all below = record { many = below.many ∙ all; each = below.each }

-- a store that is lost is one of those that were looked for
pub lost_within : {K : Type 0} (count : K → ℕ) (found : List (Option K)) (place : ℕ) → lost_store count found ≡ Some place → place < length found
lost_within {K} count found place lost = within (list_any (has_entries count) found) lost
  where
    within : (some : Bool) → (if some then position is_lacking found else None) ≡ Some place → place < length found
    within Bool.true is = (position-Some is_lacking found place None is).0
    within Bool.false is = absurd (let e = is in cc)
