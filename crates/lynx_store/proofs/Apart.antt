-- Whether hops are apart, by how many are in the set of them.
use Rattle.std.specs.Prelude.{◌≡◌, ◌↔◌, ℕ, List, length, map, true}
use Rattle.std.proofs.Common.{sym, ap, subst, ◌∙◌}
use Rattle.std.specs.Bool.{Decides}
use Rattle.std.specs.Ordering.{nat_cmp, eq_by_cmp, is_eq}
use Rattle.std.specs.Cmp.{IsTotalOrder}
use Rattle.std.specs.BTreeSet.{BTreeSet, btree_set_len, IsFromIterResult}
use Rattle.std.proofs.lemmas.Cmp.{nat_cmp_total, on_total, then_total, tied_itself, eq_by_cmp_equiv}
use Rattle.std.proofs.lemmas.List.{length-map}
use Rattle.std.proofs.lemmas.Map.Lookups.{CmpEqualImpliesEq, exact_pairs, exact_unsigned}
use Rattle.std.proofs.lemmas.Map.Made.{AllPairs-from_IsDistinct, IsDistinct-from_AllPairs, IsDistinct-from_count, distinct_count-from_IsDistinct}
use Rattle.std.proofs.lemmas.Map.Views.{btree_set_len-from_list, tells_apart}
use Rattle.lynx_cells.specs.Database.{cell_cmp}
use Rattle.lynx_cells.proofs.CellOrder.{cell_cmp_total}
use Rattle.lynx_sql.specs.declared.acts.Acted.{Acted}
use Rattle.lynx_store.specs.Acts.{AreApart, hop_cmp, hop_in}

hop_cmp_total : IsTotalOrder hop_cmp
hop_cmp_total = then_total (on_total (λ (c : (ℕ × ℕ) × ℕ). c.0) cell_cmp_total) (on_total (λ (c : (ℕ × ℕ) × ℕ). c.1) nat_cmp_total)

hop_cmp_exact : CmpEqualImpliesEq hop_cmp
hop_cmp_exact = exact_pairs cell_cmp nat_cmp (exact_pairs nat_cmp nat_cmp exact_unsigned exact_unsigned) exact_unsigned

tells_hops : (a b : (ℕ × ℕ) × ℕ) → Decides (eq_by_cmp hop_cmp a b) (a ≡ b)
tells_hops a b = (tells_apart hop_cmp_exact a b, λ same. subst (λ c. eq_by_cmp hop_cmp a c ≡ true) same (ap is_eq (tied_itself hop_cmp_total a)))

-- as many are in their set as there are exactly where no two are one
pub apart_by_count : (acts : List Acted) (hops : BTreeSet ((ℕ × ℕ) × ℕ))
    → IsFromIterResult hop_cmp (map hop_in acts) hops
    → (btree_set_len hops ≡ length acts) ↔ AreApart acts
apart_by_count acts hops made =
    let keys = map hop_in acts in
    let laws = eq_by_cmp_equiv hop_cmp_total in
    let count = btree_set_len-from_list hop_cmp_total keys hops made in
    let long = length-map acts hop_in in (
      λ same. AllPairs-from_IsDistinct tells_hops keys (IsDistinct-from_count laws keys (sym count ∙ same ∙ sym long)),
      λ apart. count ∙ distinct_count-from_IsDistinct laws keys (IsDistinct-from_AllPairs tells_hops keys apart) ∙ long,
    )
