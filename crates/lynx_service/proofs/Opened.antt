-- Stores that are opened one after another, or side by side.
use Rattle.std.proofs.Common.{refl, ◌≡◌, ◌⊎◌, ◌∙◌, ◌+◌, ◌<◌, ◌++◌, ◌∷◌, [], ℕ, zero, suc, List, Option, Some, None, length, get_or, slice_get, inl, inr, Ok, append_assoc, append-nil, ap, sym, subst, arith, length-append}
use Rattle.std.specs.Prelude.{All, IfOk, IsSome, Result, Err, drop, slice_index_or, take, unwrap_or}
use Rattle.std.specs.Global.{Vec}
use Rattle.std.proofs.Math.Seq.{take-append_seam}
use Rattle.std.proofs.lemmas.Option.{slice_get-get_or, slice_get_within, get_or_from_slice_get}
use Rattle.lynx_set.specs.Set.{Set}
use Rattle.lynx_service.specs.declared.opening.Place.{Place}
use Rattle.lynx_store_files.specs.Folders.{AreFound, IsFound}
use Rattle.lynx_store_files.specs.Terms.{StoreTerms}
use Rattle.lynx_store_files.proofs.Folders.{at_push, next_at}
use Rattle.lynx_store.specs.declared.fault.StoreFault.{StoreFault}
use Rattle.lynx_service.specs.declared.fault.ServeFault.{ServeFault}
use Rattle.lynx_service.specs.Places.{AreFoundAt, AreLooked, ArePlaces, IsLooked, LooksAt}

-- something stands at a place within a list
here_at : {X : Type 0} (xs : List X) (i : ℕ) → i < length xs → (x : X) × (slice_get xs i ≡ Some x)
here_at [] i within = absurd (omega (arith, within))
here_at (x ∷ xs) zero within = (x, refl)
here_at (x ∷ xs) (suc i) within = here_at xs i (omega (arith, within))

-- the places of the first servers
pub record ArePlacesBelow {K : Type 0} (count : ℕ) (places : List (Place K)) : Type 0 where
  pub counted : length places ≡ count
  pub each : (server : ℕ) (place : Place K) → slice_get places server ≡ Some place → place.server ≡ server

pub no_places : {K : Type 0} → ArePlacesBelow {K = K} 0 []
no_places = record { counted = refl; each = λ server place is. cc }

pub one_more : {K : Type 0} (count : ℕ) (places more : List (Place K)) (place : Place K) → more ≡ places ++ place ∷ [] → place.server ≡ count → ArePlacesBelow count places →
    ArePlacesBelow (count + 1) more
one_more {K} count places more place pushed server_is are = record {
  counted = ap length pushed ∙ length-append places (place ∷ []) ∙ ap (λ n. n + 1) are.counted;
  each = λ server other there. elim (at_push places place other server (ap (λ xs. slice_get xs server) (sym pushed) ∙ there)) [
    | inl before ↦ are.each server other before
    | inr now ↦ subst (λ (p : Place K). p.server ≡ server) now.1 (server_is ∙ sym are.counted ∙ sym now.0)
  ];
}

-- it was looked at each place
pub looked_all : {K : Type 0} (terms : StoreTerms K) (folder : List ℕ) (set : Set) (places looked : List (Place K)) → length looked ≡ length places
    → ((server : ℕ) (d : Place K) → server < length places → LooksAt terms folder set (get_or places server d) (get_or looked server d))
    → ArePlaces set places → AreLooked terms folder set looked
looked_all {K} terms folder set places looked long looks are = record {
  are = record { counted = long ∙ are.counted; each = λ server place there. (both server place there).0 };
  each = λ server place there. (both server place there).1;
}
  where
    both : (server : ℕ) (place : Place K) → slice_get looked server ≡ Some place → (place.server ≡ server) × IsLooked terms folder set place
    both server place there =
        let inside : server < length places = let within = slice_get_within looked server place there in omega (arith, within, long) in
        let before = are.each server (get_or places server place) (slice_get-get_or places server place inside) in
        let did = looks server place inside in
        let is : get_or looked server place ≡ place = get_or_from_slice_get looked server place place there in
        subst (λ (p : Place K). (p.server ≡ server) × IsLooked terms folder set p) is (did.server_is ∙ before, did.looked)

-- what was found at the first places; the others are left
pub record AreFoundSoFar {K : Type 0} (places rest : List (Place K)) (found : List (Option K)) : Type 0 where
  pub done : List (Place K)
  pub split : places ≡ done ++ rest
  pub counted : length found ≡ length done
  pub each : (server : ℕ) (place : Place K) (one : Option K) → slice_get places server ≡ Some place → slice_get found server ≡ Some one → place.found ≡ Some (Ok one)

pub found_none : {K : Type 0} (places rest : List (Place K)) → rest ≡ places → AreFoundSoFar places rest []
found_none places rest whole = record { done = []; split = sym whole; counted = refl; each = λ server place one is there. cc }

pub found_more : {K : Type 0} (places rest left : List (Place K)) (place : Place K) (one : Option K) (found more : List (Option K)) → rest ≡ place ∷ left → place.found ≡ Some (Ok one) →
    more ≡ found ++ one ∷ [] → AreFoundSoFar places rest found → AreFoundSoFar places left more
found_more {K} places rest left place one found more next is pushed so_far = record {
  done = so_far.done ++ place ∷ [];
  split = split ∙ sym (append_assoc so_far.done (place ∷ []) left);
  counted = ap length pushed ∙ length-append found (one ∷ []) ∙ ap (λ n. n + 1) so_far.counted ∙ sym (length-append so_far.done (place ∷ []));
  each = λ server other last stands there. elim (at_push found one last server (ap (λ xs. slice_get xs server) (sym pushed) ∙ there)) [
    | inl before ↦ so_far.each server other last stands before
    | inr now ↦
        let same : Some place ≡ Some other = sym (ap (slice_get places) (now.0 ∙ so_far.counted) ∙ standing) ∙ stands in
        let alike : place ≡ other = cc in
        subst (λ (p : Place K). p.found ≡ Some (Ok last)) alike (is ∙ ap (λ o. Some (Ok o)) now.1)
  ];
}
  where
    split : places ≡ so_far.done ++ place ∷ left
    split = so_far.split ∙ ap (λ xs. so_far.done ++ xs) next

    standing : slice_get places (length so_far.done) ≡ Some place
    standing = ap (λ all. slice_get all (length so_far.done)) split ∙ next_at so_far.done place left

-- all were found, and none is left
pub all_found : {K : Type 0} (places rest : List (Place K)) (found : List (Option K)) → rest ≡ [] → AreFoundSoFar places rest found → AreFoundAt places found
all_found places rest found none so_far = record {
  many = so_far.counted ∙ sym (ap length (so_far.split ∙ ap (λ xs. so_far.done ++ xs) none ∙ append-nil so_far.done));
  each = so_far.each;
}

-- what was found at all places is what was found of each server
pub of_places : {K : Type 0} (terms : StoreTerms K) (folder : List ℕ) (set : Set) (places : List (Place K)) (found : List (Option K)) → AreLooked terms folder set places →
    AreFoundAt places found → AreFound terms folder set found
of_places {K} terms folder set places found looked at = record { many = at.many ∙ looked.are.counted; each = each }
  where
    each : (server : ℕ) (one : Option K) → slice_get found server ≡ Some one → IsFound terms folder set server one
    each server one there =
        let inside : server < length places = let within = slice_get_within found server one there in let many = at.many in omega (arith, within, many) in
        let stands = here_at places server inside in
        let place = stands.0 in
        let looks = looked.each server place stands.1 in
        let same : Some looks.0 ≡ Some (Ok one) = sym looks.1 ∙ at.each server place one stands.1 there in
        let is : looks.0 ≡ Ok one = cc in
        subst (λ n. IsFound terms folder set n one) (looked.are.each server place stands.1) (subst (λ r. IfOk r (IsFound terms folder set place.server)) is looks.2)

-- the same of a result
pub of_result : {K : Type 0} (terms : StoreTerms K) (folder : List ℕ) (set : Set) (places : List (Place K)) (result : Result (Vec (Option K)) ServeFault) → AreLooked terms folder set places →
    IfOk result (λ (found : Vec (Option K)). AreFoundAt places found.items) → IfOk result (λ (found : Vec (Option K)). AreFound terms folder set found.items)
of_result terms folder set places (Ok found) looked at = of_places terms folder set places found.items looked at
of_result terms folder set places (Err fault) looked at = tt

-- what was found of each stands at its place
pub some_found : {K : Type 0} (terms : StoreTerms K) (folder : List ℕ) (set : Set) (places : List (Place K)) → AreLooked terms folder set places → All (λ (place : Place K). IsSome place.found) places
some_found {K} terms folder set places looked k d within =
    let looks = looked.each k (slice_index_or places k d) (slice_get-get_or places k d within) in
    subst (λ (o : Option (Result (Option K) StoreFault)). IsSome o) (sym looks.1) refl

-- the places of a list that were looked at as a slice of it
pub looked_in : {K : Type 0} (terms : StoreTerms K) (folder : List ℕ) (set : Set) (items old looked : List (Place K)) (len : ℕ) → old ≡ items → length old ≡ len → ArePlaces set items →
    (ArePlaces set old → AreLooked terms folder set looked) → AreLooked terms folder set (take len (looked ++ drop (length looked) items))
looked_in {K} terms folder set items old looked len value many before looks =
    let now = looks (subst (ArePlaces set) (sym value) before) in
    let long : len ≡ length looked = sym many ∙ ap length value ∙ before.counted ∙ sym now.are.counted in
    let rest = drop (length looked) items in
    subst (AreLooked terms folder set) (sym (ap (λ n. take n (looked ++ rest)) long ∙ take-append_seam looked rest)) now
