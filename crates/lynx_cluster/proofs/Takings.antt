-- States that are taken back one after another, and sessions that are spent so.
use Rattle.std.proofs.Common.{◌≡◌, ◌∙◌, ℕ, ◌+◌, ◌<◌, length, List, [], ◌∷◌, ◌++◌, slice_get, Some, Result, Ok, Err, IfOk, IsOkAnd, inl, inr, refl, sym, ap, subst, arith}
use Rattle.std.proofs.lemmas.Bool.{cases_lt}
use Rattle.std.proofs.lemmas.List.{append-nil, append_assoc, length-append, map-append}
use Rattle.std.proofs.lemmas.Option.{slice_get_within}
use Rattle.std.specs.Global.{Vec}
use Rattle.lynx_entry.specs.Entry.{History}
use Rattle.lynx_keep.specs.Kept.{Terms}
use Rattle.lynx_names.specs.declared.memory.Memory.{Memory}
use Rattle.lynx_server.proofs.Chains.{get_before, get_last}
use Rattle.lynx_set.specs.Set.{Set}
use Rattle.lynx_weave.specs.Rebuilt.{told_in}
use Rattle.lynx_weave.specs.declared.told.ToldItem.{ToldItem}
use Rattle.lynx_cluster.specs.Closing.{AreTakenBack, IsTakenBack, told_to}
use Rattle.lynx_cluster.specs.Sessions.{SessionState}

-- the states of the servers below this number were taken back
pub record AreTakenBelow {K : Type 0} (terms : Terms K) (set : Set) (number : ℕ) (histories : List History) (keepers : List K) : Type 0 where
  pub many : length histories ≡ number
  pub as_many : length keepers ≡ number
  pub each : (server : ℕ) (history : History) (keeper : K) → slice_get histories server ≡ Some history →
      slice_get keepers server ≡ Some keeper → IsTakenBack terms set server history keeper

pub taken_none : {K : Type 0} (terms : Terms K) (set : Set) → AreTakenBelow terms set 0 [] []
taken_none terms set = record { many = refl; as_many = refl; each = λ server history keeper there is. cc }

pub taken_more : {K : Type 0} (terms : Terms K) (set : Set) (number : ℕ) (histories : List History) (keepers : List K) (history : History) (keeper : K) →
    IsTakenBack terms set number history keeper → AreTakenBelow terms set number histories keepers →
    AreTakenBelow terms set (number + 1) (histories ++ history ∷ []) (keepers ++ keeper ∷ [])
taken_more {K} terms set number histories keepers history keeper is below = record {
  many = let many = below.many in let more = length-append histories (history ∷ []) in omega (arith, more);
  as_many = let many = below.as_many in let more = length-append keepers (keeper ∷ []) in omega (arith, more);
  each = λ server its one at there. elim (cases_lt server number) [
    | inl within ↦
        let before : server < length histories = let many = below.many in omega (arith, many, within) in
        let before_too : server < length keepers = let many = below.as_many in omega (arith, many, within) in
        below.each server its one (sym (get_before histories history server before) ∙ at) (sym (get_before keepers keeper server before_too) ∙ there)
    | inr past ↦
        let bound = slice_get_within (histories ++ history ∷ []) server its at in
        let more = length-append histories (history ∷ []) in
        let many = below.many in
        let server_is : server ≡ number = omega (arith, bound, more, many, past) in
        let histories_alike : history ≡ its =
        let both = sym (ap (slice_get (histories ++ history ∷ [])) (server_is ∙ sym below.many) ∙ get_last histories history) ∙ at in cc in
        let keepers_alike : keeper ≡ one =
        let both = sym (ap (slice_get (keepers ++ keeper ∷ [])) (server_is ∙ sym below.as_many) ∙ get_last keepers keeper) ∙ there in cc in
        subst (λ (k : K). IsTakenBack terms set server its k) keepers_alike
        (subst (λ (h : History). IsTakenBack terms set server h keeper) histories_alike (subst (λ n. IsTakenBack terms set n history keeper) (sym server_is) is))
  ];
}

pub taken_all : {K : Type 0} (terms : Terms K) (set : Set) (number : ℕ) (histories : List History) (keepers : List K) → number ≡ set.servers →
    AreTakenBelow terms set number histories keepers → AreTakenBack terms set histories keepers
taken_all terms set number histories keepers all below = record {
  one_history = below.many ∙ all;
  one_keeper = below.as_many ∙ all;
  each = below.each;
}

-- what is told is that of all sessions but those that are left, where there was memory for it
abbrev pub AreSpent : Result (Vec (Vec ToldItem)) Memory → List SessionState → List SessionState → Type 0
AreSpent told left all = IfOk told (λ (lists : Vec (Vec ToldItem)). told_in lists.items ++ told_to left ≡ told_to all)

pub spent_more : (told longer : Result (Vec (Vec ToldItem)) Memory) (items : Vec ToldItem) (session : SessionState) (old left all : List SessionState) →
    IfOk longer (λ (after : Vec (Vec ToldItem)). IsOkAnd told (λ (before : Vec (Vec ToldItem)). after.items ≡ before.items ++ items ∷ [])) →
    items.items ≡ session.told → old ≡ session ∷ left → AreSpent told old all → AreSpent longer left all
spent_more (Ok before) (Ok after) items session old left all more items_are old_is spent =
    let lists = ap told_in more ∙ map-append (λ (it : Vec ToldItem). it.items) before.items (items ∷ []) in
    ap (λ (l : List (List ToldItem)). l ++ told_to left) lists ∙ append_assoc (told_in before.items) (items.items ∷ []) (told_to left)
    ∙ ap (λ (it : List ToldItem). told_in before.items ++ it ∷ told_to left) items_are
    ∙ ap (λ (l : List SessionState). told_in before.items ++ told_to l) (sym old_is) ∙ spent
spent_more (Err none) (Ok after) items session old left all more items_are old_is spent = absurd more
spent_more told (Err none) items session old left all more items_are old_is spent = tt

pub spent_all : (told : Result (Vec (Vec ToldItem)) Memory) (left all : List SessionState) → left ≡ [] → AreSpent told left all →
    IfOk told (λ (lists : Vec (Vec ToldItem)). told_in lists.items ≡ told_to all)
spent_all (Ok lists) left all none spent =
    sym (append-nil (told_in lists.items)) ∙ ap (λ (l : List SessionState). told_in lists.items ++ told_to l) (sym none) ∙ spent
spent_all (Err fault) left all none spent = tt
