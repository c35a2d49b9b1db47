-- Lists that loops build, one item on.
use Rattle.std.proofs.Common.{◌≡◌, ℕ, zero, suc, ◌+◌, ◌<◌, List, [], ◌∷◌, ◌++◌, map, take, slice_get, length, get_or, Option, Some, None, refl, ap, ◌∙◌, add-one, arith}
use Rattle.std.specs.List.{cons_option, range_with_len}
use Rattle.std.specs.Prelude.{option_map}
use Rattle.std.proofs.lemmas.List.{map_push}
use Rattle.std.proofs.lemmas.List.Elements.{filter_map-append}
use Rattle.std.proofs.lemmas.Option.{get_or_from_slice_get, slice_get_within}
use Rattle.std.proofs.Math.Seq.{take-suc}
use Rattle.lynx_entry.specs.declared.entry.Entry.{Entry}
use Rattle.lynx_order.specs.inner.Begun.{begun_chains, begun_in, chain_begun}
use Rattle.lynx_names.specs.declared.chain.ChainId.{ChainId}
use Rattle.lynx_set.specs.Set.{Set}
use Rattle.lynx_names.proofs.Ranges.{range_more}
use Rattle.lynx_world.specs.Placed.{Placed}
use Rattle.lynx_order.specs.declared.touching.Touching.{Touching}
use Rattle.lynx_order.specs.Precedence.{touches_in}
use Rattle.lynx_order.specs.Touchings.{touching, touchings_from, touchings_of}

pub map_range_more : {X : Type 0} (f : ℕ → X) (n : ℕ) → map f (range_with_len 0 (n + 1)) ≡ map f (range_with_len 0 n) ++ f n ∷ []
map_range_more f n =
    ap (λ m. map f (range_with_len 0 m)) (add-one n) ∙ ap (map f) (range_more 0 n) ∙ map_push f (range_with_len 0 n) (0 + n)
    ∙ ap (λ m. map f (range_with_len 0 n) ++ f m ∷ []) (omega arith)

from_more : (set : Set) (chain : ChainId) (from : ℕ) (list : List Placed) (i : ℕ) (d : Placed) → i < length list →
    touchings_from set chain from (take (suc i) list)
    ≡ touchings_from set chain from (take i list) ++ cons_option (touching (from + i) (touches_in set chain (get_or list i d).entry)) []
from_more set chain from [] i d within = absurd (omega arith)
from_more set chain from (placed ∷ list) zero d within =
    ap (λ n. cons_option (touching n (touches_in set chain placed.entry)) []) (omega arith)
from_more set chain from (placed ∷ list) (suc i) d within =
    ap (cons_option (touching from (touches_in set chain placed.entry))) (from_more set chain (from + 1) list i d (omega arith)
    ∙ ap (λ n. touchings_from set chain (from + 1) (take i list) ++ cons_option (touching n (touches_in set chain (get_or list i d).entry)) []) (omega arith))
    ∙ by (touching from (touches_in set chain placed.entry)) (touchings_from set chain (from + 1) (take i list))
    (cons_option (touching (from + suc i) (touches_in set chain (get_or list i d).entry)) [])
  where
    by : (o : Option Touching) (xs ys : List Touching) → cons_option o (xs ++ ys) ≡ cons_option o xs ++ ys
    by None xs ys = refl
    by (Some t) xs ys = refl

-- the touching hops with one more entry
pub touchings_more : (set : Set) (chain : ChainId) (list : List Placed) (i : ℕ) (d : Placed) → i < length list →
    touchings_of set (take (i + 1) list) chain
    ≡ touchings_of set (take i list) chain ++ cons_option (touching i (touches_in set chain (get_or list i d).entry)) []
touchings_more set chain list i d within =
    ap (λ n. touchings_of set (take n list) chain) (add-one i) ∙ from_more set chain 0 list i d within
    ∙ ap (λ n. touchings_of set (take i list) chain ++ cons_option (touching n (touches_in set chain (get_or list i d).entry)) []) (omega arith)

-- the same, by the entry at the place
pub touchings_at : (set : Set) (chain : ChainId) (list : List Placed) (i : ℕ) (entry : Entry) →
    Some entry ≡ option_map (λ (placed : Placed). placed.entry) (slice_get list i) →
    touchings_of set (take (i + 1) list) chain ≡ touchings_of set (take i list) chain ++ cons_option (touching i (touches_in set chain entry)) []
touchings_at set chain list i entry is = by (slice_get list i) refl is
  where
    by : (o : Option Placed) → slice_get list i ≡ o → Some entry ≡ option_map (λ (placed : Placed). placed.entry) o →
        touchings_of set (take (i + 1) list) chain ≡ touchings_of set (take i list) chain ++ cons_option (touching i (touches_in set chain entry)) []
    by None there same = cc
    by (Some placed) there same =
        let own : placed.entry ≡ entry = cc in
        touchings_more set chain list i placed (slice_get_within list i placed there)
        ∙ ap (λ (p : Placed). touchings_of set (take i list) chain ++ cons_option (touching i (touches_in set chain p.entry)) []) (get_or_from_slice_get list i placed placed there)
        ∙ ap (λ e. touchings_of set (take i list) chain ++ cons_option (touching i (touches_in set chain e)) []) own

-- the chains that began with one more entry
pub begun_at : (list : List Placed) (i : ℕ) (entry : Entry) → Some entry ≡ option_map (λ (placed : Placed). placed.entry) (slice_get list i) →
    begun_chains (take (i + 1) list) ≡ begun_chains (take i list) ++ cons_option (chain_begun entry) []
begun_at list i entry is = by (slice_get list i) refl is
  where
    by : (o : Option Placed) → slice_get list i ≡ o → Some entry ≡ option_map (λ (placed : Placed). placed.entry) o →
        begun_chains (take (i + 1) list) ≡ begun_chains (take i list) ++ cons_option (chain_begun entry) []
    by None there same = cc
    by (Some placed) there same =
        let own : placed.entry ≡ entry = cc in
        ap begun_chains (ap (λ n. take n list) (add-one i) ∙ take-suc list i placed (slice_get_within list i placed there)
        ∙ ap (λ p. take i list ++ p ∷ []) (get_or_from_slice_get list i placed placed there))
        ∙ filter_map-append begun_in (take i list) (placed ∷ [])
        ∙ ap (λ e. begun_chains (take i list) ++ cons_option (chain_begun e) []) own
