-- Servers that are opened one after another, and one that is opened again among others.
use Rattle.std.proofs.Common.{◌≡◌, ℕ, zero, suc, ◌+◌, ◌<◌, List, [], ◌∷◌, ◌++◌, length, slice_get, slice_index_or, slice_set, Some, inl, inr, refl, sym, ap, ◌∙◌, subst, arith, append_assoc}
use Rattle.std.specs.List.{insert, remove}
use Rattle.std.proofs.lemmas.Bool.{cases_lt}
use Rattle.std.proofs.lemmas.List.{length-append}
use Rattle.std.proofs.lemmas.Option.{slice_get-get_or, slice_get_within}
use Rattle.lynx_keep.specs.Kept.{Terms}
use Rattle.lynx_set.specs.Set.{Set}
use Rattle.lynx_server.specs.Opening.{IsOpened}
use Rattle.lynx_server.specs.Serving.{Serving}
use Rattle.lynx_entry.specs.declared.event.Outcome.TheVariants.{Restarted}
use Rattle.lynx_rerun.specs.Events.{CallsAt, IsRestarted}
use Rattle.lynx_rerun.specs.Reruns.{AreOver, IsOver}
use Rattle.lynx_server.proofs.Chains.{get_before, get_last}

-- the first servers, each opened over its keeper; the keepers of the others are left
pub record AreOpenedBelow {K : Type 0} (terms : Terms K) (set : Set) (keepers rest : List K) (number : ℕ) (servers : List (Serving K)) : Type 0 where
  pub done : List K
  pub split : keepers ≡ done ++ rest
  pub counted : length done ≡ number
  pub many : length servers ≡ number
  pub each : (server : ℕ) (here : Serving K) → slice_get servers server ≡ Some here → IsOver terms set keepers server here

pub opened_none : {K : Type 0} (terms : Terms K) (set : Set) (keepers rest : List K) → rest ≡ keepers → AreOpenedBelow terms set keepers rest 0 []
opened_none terms set keepers rest whole = record { done = []; split = sym whole; counted = refl; many = refl; each = λ server here is. cc }

-- what stands behind the first ones is the next
next_at : {X : Type 0} (xs : List X) (x : X) (ys : List X) → slice_get (xs ++ x ∷ ys) (length xs) ≡ Some x
next_at [] x ys = refl
next_at (y ∷ xs) x ys = next_at xs x ys

pub opened_more : {K : Type 0} (terms : Terms K) (set : Set) (keepers rest left : List K) (number at : ℕ) (servers more : List (Serving K)) (keeper : K) (here : Serving K) →
    rest ≡ keeper ∷ left → at ≡ number → IsOpened terms set at keeper here → more ≡ servers ++ here ∷ [] → AreOpenedBelow terms set keepers rest number servers →
    AreOpenedBelow terms set keepers left (number + 1) more
opened_more {K} terms set keepers rest left number at servers more keeper here next at_is opened more_is below = record {
  done = below.done ++ keeper ∷ [];
  split = split ∙ sym (append_assoc below.done (keeper ∷ []) left);
  counted = let counted = below.counted in let longer = length-append below.done (keeper ∷ []) in omega (arith, longer);
  many = let many = below.many in let longer = ap length more_is ∙ length-append servers (here ∷ []) in omega (arith, longer);
  each = λ server one there. elim (cases_lt server (length servers)) [
    | inl within ↦ below.each server one (sym (get_before servers here server within) ∙ ap (λ xs. slice_get xs server) (sym more_is) ∙ there)
    | inr past ↦
        let moved : slice_get (servers ++ here ∷ []) server ≡ Some one = ap (λ xs. slice_get xs server) (sym more_is) ∙ there in
        let bound = slice_get_within (servers ++ here ∷ []) server one moved in
        let longer = length-append servers (here ∷ []) in
        let last : server ≡ length servers = omega (arith, longer) in
        let entries : Some here ≡ Some one = sym (ap (slice_get (servers ++ here ∷ [])) last ∙ get_last servers here) ∙ moved in
        let alike : here ≡ one = cc in
        let server_is : number ≡ server = sym below.many ∙ sym last in
        subst (IsOver terms set keepers server) alike (keeper, subst (λ n. slice_get keepers n ≡ Some keeper) server_is standing, subst (λ n. IsOpened terms set n keeper here) (at_is ∙ server_is) opened)
  ];
}
  where
    split : keepers ≡ below.done ++ keeper ∷ left
    split = below.split ∙ ap (λ xs. below.done ++ xs) next

    standing : slice_get keepers number ≡ Some keeper
    standing = ap (λ all. slice_get all number) split ∙ ap (slice_get (below.done ++ keeper ∷ left)) (sym below.counted) ∙ next_at below.done keeper left

-- all are opened
pub all_opened : {K : Type 0} (terms : Terms K) (set : Set) (keepers rest : List K) (number : ℕ) (servers : List (Serving K)) → number ≡ set.servers →
    AreOpenedBelow terms set keepers rest number servers → AreOver terms set keepers servers
all_opened terms set keepers rest number servers all below = record { many = below.many ∙ all; each = below.each }

-- while servers are left, so are keepers
pub some_left : {K : Type 0} (terms : Terms K) (set : Set) (keepers rest : List K) (number : ℕ) (servers : List (Serving K)) → number < length keepers → rest ≡ [] →
    AreOpenedBelow terms set keepers rest number servers → ⊥
some_left terms set keepers rest number servers within none below =
    let lengths = ap length below.split ∙ length-append below.done rest in
    let empty = ap length none in
    let counted = below.counted in
    omega (arith, within, lengths, empty, counted)

-- what is taken out and put back changed is changed
pub put_back : {X : Type 0} (xs : List X) (place : ℕ) (x : X) → place < length xs → insert (remove xs place) place x ≡ slice_set xs place x
put_back [] place x within = absurd (omega arith)
put_back (y ∷ ys) zero x within = refl
put_back (y ∷ ys) (suc place) x within = ap (λ rest. y ∷ rest) (put_back ys place x (omega arith))

-- one server is opened again, and the others stay
pub reopened : {K : Type 0} (terms : Terms K) (server at : ℕ) (old less new : List (Serving K)) (before after : Serving K) → at ≡ server →
    at < length old → before ≡ slice_index_or old at before → less ≡ remove old at → new ≡ insert less at after →
    IsOpened terms before.set before.server before.keeper after → CallsAt server (Restarted server) (IsRestarted terms server (Restarted server)) old new
reopened {K} terms server at old less new before after at_is within is less_is new_is opened = inr (record {
  before = before;
  after = after;
  there = subst (λ n. slice_get old n ≡ Some before) at_is (slice_get-get_or old at before within ∙ ap Some (sym is));
  others = new_is ∙ ap (λ (xs : List (Serving K)). insert xs at after) less_is ∙ put_back old at after within ∙ ap (λ n. slice_set old n after) at_is;
  calls = (refl, opened);
})
