-- What was judged by histories holds in the world that they weave to.
use Rattle.std.proofs.Common.{◌≡◌, ℕ, suc, ◌+◌, ◌≤◌, ◌&&◌, cond, count_by, List, [], ◌∷◌, ◌++◌, take, replicate, length, get_or, slice_get, Some, Err, inl, inr, refl, sym, ap, ◌∙◌, subst}
use Rattle.std.specs.Prelude.{All}
use Rattle.std.proofs.lemmas.List.Sums.{sum_by-append}
use Rattle.std.proofs.lemmas.Option.{slice_get-get_or}
use Rattle.lynx_set.specs.Set.{Set}
use Rattle.lynx_entry.specs.Entry.{History}
use Rattle.lynx_keep.specs.Kept.{KeptState}
use Rattle.lynx_server.specs.Serving.{Serving}
use Rattle.lynx_world.specs.declared.added.Added.{Added}
use Rattle.lynx_world.specs.Placed.{Placed}
use Rattle.lynx_world.specs.Servers.{Servers, held_of, list_of}
use Rattle.lynx_world.proofs.Once.{both}
use Rattle.lynx_weave.specs.declared.fault.WeaveFault.{WeaveFault}
use Rattle.lynx_weave.specs.declared.fault.WeaveFault.TheVariants.{Mismatch, Told, Memory}
use Rattle.lynx_weave.specs.declared.told.ToldItem.{ToldItem}
use Rattle.lynx_weave.specs.inner.Judging.{AreAllWellTold, IsBadIn, IsFreshAgain, JudgesAll, agrees_at, is_fresh_at}
use Rattle.lynx_weave.specs.Lists.{IsListOf}
use Rattle.lynx_weave.specs.inner.Orders.{IsOrderOf}
use Rattle.lynx_weave.specs.inner.Rebuilt.{AreRebuilt}
use Rattle.lynx_weave.specs.Servers.{histories_of}
use Rattle.lynx_weave.specs.Since.{IsFreshByOld, IsToldFaultSince, WeavesSince}
use Rattle.lynx_weave.specs.Told.{is_fresh}
use Rattle.lynx_weave.specs.Weaving.{IsToldAgain, IsWoven, all_told}
use Rattle.lynx_weave.proofs.Bridging.{agrees_by, agrees_is, fresh_is, in_the_list, placed_is, stands_not, stands_so}
use Rattle.lynx_weave.proofs.Gets.{in_place, place_in}
use Rattle.lynx_weave.proofs.Ordered.{list_is}
use Rattle.lynx_weave.proofs.Servings.{many_of}

-- nothing is held
held_none : (servers : Servers) → ((server : ℕ) (here : Serving KeptState) → slice_get servers server ≡ Some here → here.held ≡ []) →
    held_of servers ≡ replicate (length servers) []
held_none [] each = refl
held_none (here ∷ servers) each =
    ap (λ h. h ∷ held_of servers) (each 0 here refl) ∙ ap (λ hs. [] ∷ hs) (held_none servers (λ server one there. each (suc server) one there))

pub woven : (set : Set) (servers : Servers) (order : List Added) (starts : List ℕ) (told : List (List ToldItem)) → AreRebuilt set servers →
    IsOrderOf set servers order → AreAllWellTold (histories_of servers) starts told →
    IsWoven set (histories_of servers) told (record { set = set; list = list_of servers order; held = held_of servers })
woven set servers order starts told are ordered well = record {
  set_is = refl;
  list_is = list;
  nothing_held = held_none servers (λ server here there. (are.each server here there).held_is) ∙ ap (λ n. replicate n []) are.many;
  stand = λ session d within place e inside.
      let items = slice_get-get_or told session d within in
      stands_so set histories (list_of servers order) _ few list
      (well.each session _ items place _ (slice_get-get_or (get_or told session d) place e inside)).stands;
  in_time = λ session d within place item there fresh.
      (well.each session _ (slice_get-get_or told session d within) place item there).in_time fresh;
  once = λ at d within.
      let placed = get_or (list_of servers order) at d in
      let there = in_place placed (list_of servers order) at (slice_get-get_or (list_of servers order) at d within) in
      let stands = placed_is set histories (list_of servers order) placed few list there in
      subst (λ n. n ≤ 1) (fresh_is histories placed.server stands.place placed.entry (all_told told) stands.there)
      (well.once placed.server stands.place);
}
  where
    histories : List History
    histories = histories_of servers

    list : IsListOf set (histories_of servers) (list_of servers order)
    list = list_is set servers order ordered

    few : length (histories_of servers) ≡ set.servers
    few = many_of servers ∙ are.many

-- nothing that was told is fresh by an entry from before
pub none_old : (histories : List History) (starts : List ℕ) (told : List (List ToldItem)) → AreAllWellTold histories starts told →
    All (All (λ item. IsFreshByOld histories starts item → ⊥)) told
none_old histories starts told well session d within place e inside =
    (well.each session _ (slice_get-get_or told session d within) place _ (slice_get-get_or (get_or told session d) place e inside)).since

-- an item that is badly told
pub falsely : (set : Set) (histories : List History) (starts : List ℕ) (list : List Placed) (told : List (List ToldItem)) (session place : ℕ) →
    length histories ≡ set.servers → IsListOf set histories list → IsBadIn histories starts told session place →
    IsToldFaultSince set histories starts told session place
falsely set histories starts list told session place few is bad = record {
  list = list;
  list_is = is;
  items = bad.items;
  items_are = bad.items_are;
  item = bad.bad.item;
  there = bad.bad.there;
  falsely = elim bad.bad.badly [
    | inl never ↦ inl (inl (stands_not set histories list bad.bad.item few is never))
    | inr rest ↦ elim rest [
      | inl late ↦ inl (inr (inl late))
      | inr other ↦ elim other [
        | inl again ↦ inl (inr (inr (told_again again)))
        | inr before ↦ inr before
      ]
    ]
  ];
}
  where
    told_again : IsFreshAgain histories
        (λ server at. count_by (is_fresh_at histories server at) (all_told (take session told)) + count_by (is_fresh_at histories server at) (take place bad.items))
        bad.bad.item →
        IsToldAgain list (all_told (take session told) ++ take place bad.items) bad.bad.item
    told_again again =
        let parts = both (is_fresh bad.bad.item) (agrees_at histories bad.bad.item again.server again.place) again.is_by in
        let one = agrees_by histories bad.bad.item again.server again.place parts.1 in
        let at = place_in (record { server = again.server; entry = one.entry }) list (in_the_list set histories list again.server again.place one.entry is one.there) in
        record {
          at = at.0;
          placed = record { server = again.server; entry = one.entry };
          there = at.1;
          is_by = ap (λ b. is_fresh bad.bad.item && b) (sym (agrees_is histories bad.bad.item again.server again.place one.entry one.there)) ∙ again.is_by;
          again = subst (λ n. 1 ≤ n)
              (sym (sum_by-append (λ t. cond (is_fresh_at histories again.server again.place t) 1 0) (all_told (take session told)) (take place bad.items))
              ∙ fresh_is histories again.server again.place one.entry (all_told (take session told) ++ take place bad.items) one.there)
              again.again;
        }

-- as the judging of all items has it
pub judged_fault : (set : Set) (servers : Servers) (order : List Added) (starts : List ℕ) (told : List (List ToldItem)) (fault : WeaveFault) →
    AreRebuilt set servers → IsOrderOf set servers order → JudgesAll (histories_of servers) starts told (Err fault) →
    WeavesSince set (histories_of servers) starts told (Err fault)
judged_fault set servers order starts told (Mismatch server place) are ordered bad = absurd bad
judged_fault set servers order starts told (Told session place) are ordered bad =
    falsely set (histories_of servers) starts (list_of servers order) told session place (many_of servers ∙ are.many) (list_is set servers order ordered) bad
judged_fault set servers order starts told Memory are ordered bad = tt
