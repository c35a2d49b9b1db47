-- Servers whose entries were put in one order.
use Rattle.std.proofs.Common.{◌≡◌, ℕ, zero, suc, ◌+◌, ◌-◌, ◌<◌, ◌≤◌, List, [], ◌∷◌, ◌++◌, take, replicate, length, get_or, slice_get, slice_set, Option, Some, None, IsSome, All, option_map, refl, sym, ap, ◌∙◌, subst, arith}
use Rattle.std.specs.List.{cons_option}
use Rattle.std.specs.Option.{option_and_then}
use Rattle.std.proofs.lemmas.List.Elements.{All-nil, All-push, filter_map-append}
use Rattle.std.proofs.lemmas.Option.{get_or_from_slice_get, slice_get_within}
use Rattle.lynx_names.specs.declared.limits.TheConstants.{MAX_ENTRIES}
use Rattle.lynx_set.specs.Set.{Set}
use Rattle.lynx_entry.specs.declared.entry.Entry.{Entry}
use Rattle.lynx_entry.specs.Entry.{History}
use Rattle.lynx_keep.specs.Kept.{KeptState}
use Rattle.lynx_server.specs.Serving.{Serving}
use Rattle.lynx_world.specs.declared.added.Added.{Added}
use Rattle.lynx_world.specs.Placed.{Placed}
use Rattle.lynx_world.specs.Legal.{IsSent}
use Rattle.lynx_world.specs.Servers.{Servers, list_of, placed_of}
use Rattle.lynx_weave.specs.Lists.{IsListOf}
use Rattle.lynx_weave.specs.inner.Orders.{IsLeastNext, IsNextAt, IsOrderOf}
use Rattle.lynx_weave.specs.inner.Rebuilt.{AreRebuilt}
use Rattle.lynx_weave.specs.Servers.{histories_of}
use Rattle.lynx_weave.specs.Senders.{AreAllSent}
use Rattle.lynx_weave.proofs.Agreements.{history_there}
use Rattle.lynx_weave.proofs.Lawfuls.{few_before}
use Rattle.lynx_server.proofs.InHistory.{lawful_in}
use Rattle.lynx_weave.proofs.Merging.{IsAt, IsMergedTo, merged_end, merged_start, merged_step, some_then}
use Rattle.lynx_weave.proofs.Servings.{lawful_all, many_of, server_of}

-- what was added is found
abbrev pub IsFound : Servers → Added → Type 0
IsFound servers added = IsSome (placed_of servers added)

some_is : {X : Type 0} (o : Option X) (x : X) → o ≡ Some x → IsSome o
some_is None x is = cc
some_is (Some y) x is = refl

-- ---- what is left

-- how many entries are left
pub remaining : Servers → List ℕ → ℕ
remaining [] places = 0
remaining (here ∷ servers) [] = 0
remaining (here ∷ servers) (place ∷ places) = (length here.history - place) + remaining servers places

pub fewer : (servers : Servers) (places : List ℕ) (number place : ℕ) (here : Serving KeptState) → slice_get servers number ≡ Some here →
    slice_get places number ≡ Some place → place < length here.history → remaining servers (slice_set places number (place + 1)) < remaining servers places
unfolding remaining
fewer [] places number place here there through within = cc
fewer (first ∷ servers) [] number place here there through within = cc
fewer (first ∷ servers) (other ∷ places) zero place here there through within =
    let same : first ≡ here = cc in
    let at : other ≡ place = cc in
    let long : length first.history ≡ length here.history = ap (λ (h : Serving KeptState). length h.history) same in
    omega arith
fewer (first ∷ servers) (other ∷ places) (suc number) place here there through within =
    let less = fewer servers places number place here there through within in omega arith

-- ---- one step

-- the next entry, at its server
pub record IsNow (set : Set) (servers : Servers) (places : List ℕ) (number : ℕ) (least : IsLeastNext (histories_of servers) places number) : Type 0 where
  pub here : Serving KeptState
  pub there : slice_get servers number ≡ Some here
  pub at : IsAt (histories_of servers) places number least.entry
  pub found : slice_get here.history at.place ≡ Some least.entry
  pub few : at.place < MAX_ENTRIES

pub now_is : (set : Set) (servers : Servers) (places : List ℕ) (number : ℕ) (least : IsLeastNext (histories_of servers) places number) →
    AreRebuilt set servers → IsNow set servers places number least
now_is set servers places number least are =
    let at = some_then (histories_of servers) places number least.entry least.next in
    let of = server_of servers number at.history at.there in
    let lawful = lawful_in set number at.history at.place least.entry (lawful_all set servers are number at.history at.there) at.at in
    let within = slice_get_within at.history at.place least.entry at.at in
    record {
      here = of.here;
      there = of.there;
      at = at;
      found = ap (λ h. slice_get h at.place) of.history_is ∙ at.at;
      few = let few = few_before set number _ least.entry lawful in let long = length_take at.history at.place (omega arith) in omega arith;
    }
  where
    length_take : (h : History) (n : ℕ) → n ≤ length h → length (take n h) ≡ n
    length_take h zero low = refl
    length_take [] (suc n) low = absurd (omega arith)
    length_take (e ∷ h) (suc n) low = ap suc (length_take h n (omega arith))

pub least_within : (servers : Servers) (places : List ℕ) (number : ℕ) → IsLeastNext (histories_of servers) places number →
    (number < length servers) × (number < length places)
least_within servers places number least =
    let at = some_then (histories_of servers) places number least.entry least.next in
    let inside = slice_get_within (histories_of servers) number at.history at.there in
    let many = many_of servers in
    (omega arith, slice_get_within places number at.place at.through)

pub place_few : (set : Set) (servers : Servers) (places : List ℕ) (number place : ℕ) → IsLeastNext (histories_of servers) places number →
    AreRebuilt set servers → place ≡ get_or places number place → place < MAX_ENTRIES
place_few set servers places number place least are place_is =
    let now = now_is set servers places number least are in
    let at : place ≡ now.at.place = place_is ∙ get_or_from_slice_get places number now.at.place place now.at.through in
    let few = now.few in omega arith

list_push : (servers : Servers) (order : List Added) (one : Added) (placed : Placed) → placed_of servers one ≡ Some placed →
    list_of servers (order ++ one ∷ []) ≡ list_of servers order ++ placed ∷ []
list_push servers order one placed is =
    filter_map-append (placed_of servers) order (one ∷ []) ∙ ap (λ o. list_of servers order ++ cons_option o []) is

placed_there : (servers : Servers) (number place : ℕ) (here : Serving KeptState) (entry : Entry) → slice_get servers number ≡ Some here →
    slice_get here.history place ≡ Some entry → placed_of servers (record { server = number; place = place }) ≡ Some (record { server = number; entry = entry })
placed_there servers number place here entry there at =
    ap (λ o. option_map (λ (e : Entry). record { server = number; entry = e }) (option_and_then (λ (h : Serving KeptState). slice_get h.history place) o)) there
    ∙ ap (option_map (λ (e : Entry). record { server = number; entry = e })) at

-- what is kept from step to step
pub record IsGoing (set : Set) (servers : Servers) (order : List Added) (places : List ℕ) : Type 0 where
  pub merged : IsMergedTo set (histories_of servers) places (list_of servers order)
  pub found : All (IsFound servers) order

pub record IsNearer (set : Set) (servers : Servers) (order : List Added) (places old : List ℕ) : Type 0 where
  pub going : IsGoing set servers order places
  pub nearer : remaining servers places < remaining servers old

pub going_on : (set : Set) (servers : Servers) (order more : List Added) (places next : List ℕ) (number server place : ℕ) →
    AreRebuilt set servers → AreAllSent set (histories_of servers) → IsGoing set servers order places →
    IsLeastNext (histories_of servers) places number → place ≡ get_or places number place → server ≡ number →
    more ≡ order ++ record { server = server; place = place } ∷ [] → next ≡ slice_set places number (place + 1) →
    IsNearer set servers more next places
going_on set servers order more places next number server place are sent going least place_is server_is grew moved =
    let now = now_is set servers places number least are in
    let at : now.at.place ≡ place = sym (place_is ∙ get_or_from_slice_get places number now.at.place place now.at.through) in
    let one : Added = record { server = number; place = now.at.place } in
    let placed = placed_there servers number now.at.place now.here least.entry now.there now.found in
    let order_is : order ++ one ∷ [] ≡ more =
    sym (grew ∙ ap (λ s. order ++ record { server = s; place = place } ∷ []) server_is ∙ ap (λ p. order ++ record { server = number; place = p } ∷ []) (sym at)) in
    let places_is : slice_set places number (now.at.place + 1) ≡ next = ap (λ p. slice_set places number (p + 1)) at ∙ sym moved in
    let few : length (histories_of servers) ≡ set.servers = many_of servers ∙ are.many in
    let step = merged_step set (histories_of servers) places (list_of servers order) number
    (record { merged = going.merged; least = least; lawful = lawful_all set servers are; sent = sent; few = few }) now.at in
    record {
      going = record {
        merged = subst (λ p. IsMergedTo set (histories_of servers) p (list_of servers more)) places_is
            (subst (λ l. IsMergedTo set (histories_of servers) (slice_set places number (now.at.place + 1)) l)
            (sym (list_push servers order one _ placed) ∙ ap (list_of servers) order_is) step);
        found = subst (All (IsFound servers)) order_is (All-push (IsFound servers) order one going.found (some_is _ _ placed));
      };
      nearer = subst (λ p. remaining servers p < remaining servers places) places_is
          (fewer servers places number now.at.place now.here now.there now.at.through (slice_get_within now.here.history now.at.place least.entry now.found));
    }

-- ---- start and end

pub going_start : (set : Set) (servers : Servers) (places : List ℕ) → AreRebuilt set servers → length places ≡ set.servers →
    ((number place : ℕ) → slice_get places number ≡ Some place → place ≡ 0) → IsGoing set servers [] places
going_start set servers places are many zeros = record {
  merged = merged_start set (histories_of servers) places (many ∙ sym (many_of servers ∙ are.many)) zeros;
  found = All-nil (IsFound servers);
}

pub zeros_are : (count number place : ℕ) → slice_get (replicate count 0) number ≡ Some place → place ≡ 0
zeros_are zero number place is = cc
zeros_are (suc count) zero place is = cc
zeros_are (suc count) (suc number) place is = zeros_are count number place is

pub order_end : (set : Set) (servers : Servers) (order : List Added) (places : List ℕ) → AreRebuilt set servers → IsGoing set servers order places →
    IsNextAt (histories_of servers) places None → IsOrderOf set servers order
order_end set servers order places are going none =
    let list = merged_end set (histories_of servers) places (list_of servers order) going.merged none in
    record {
      are = record {
        many = are.many;
        each = λ server here there.
            let rebuilt = are.each server here there in
            record {
              set_is = rebuilt.set_is;
              server_is = rebuilt.server_is;
              history_is = sym (list.histories_are server here.history (history_there servers server here there));
              runs = rebuilt.runs;
              unmarked = rebuilt.acknowledged_is;
              sent = subst (All (IsSent set (list_of servers order))) (sym rebuilt.held_is) (All-nil (IsSent set (list_of servers order)));
            };
        found = going.found;
        is_legal = list.legal;
      };
      in_order = list.in_order;
    }

-- the list of the histories
pub list_is : (set : Set) (servers : Servers) (order : List Added) → IsOrderOf set servers order →
    IsListOf set (histories_of servers) (list_of servers order)
list_is set servers order ordered = record {
  legal = ordered.are.is_legal;
  in_order = ordered.in_order;
  histories_are = λ server history there.
      let of = server_of servers server history there in
      sym (ordered.are.each server of.here of.there).history_is ∙ of.history_is;
}
