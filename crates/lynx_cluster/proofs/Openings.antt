-- Servers that are opened one after another.
use Rattle.std.proofs.Common.{◌≡◌, ◌∙◌, ℕ, ◌+◌, ◌<◌, length, List, [], ◌∷◌, ◌++◌, slice_get, Some, Ok, Err, inl, inr, refl, sym, ap, subst, arith}
use Rattle.std.proofs.lemmas.Bool.{cases_lt}
use Rattle.std.proofs.lemmas.List.{length-append}
use Rattle.std.proofs.lemmas.Option.{slice_get_cases, slice_get_within}
use Rattle.lynx_keep.specs.Kept.{Terms}
use Rattle.lynx_server.proofs.Chains.{get_before, get_last}
use Rattle.lynx_set.specs.Set.{Set}
use Rattle.lynx_cluster.specs.declared.fault.StartFault.{StartFault}
use Rattle.lynx_cluster.specs.declared.fault.StartFault.TheVariants.{OtherCount, Open, NoThread, Memory}
use Rattle.lynx_cluster.specs.inner.Opening.{IsLate, IsOpenFault, OpensOne}
use Rattle.lynx_server.specs.Opening.{Opens}
use Rattle.lynx_server.specs.Serving.{Serving}
use Rattle.lynx_weave.specs.Servers.{AreServersOf}
use Rattle.lynx_cluster.specs.Starting.{AreOpened, IsUnopenedAt, IsUnstarted}

-- the servers below this number were opened
pub record AreOpenedBelow {K : Type 0} (terms : Terms K) (set : Set) (keepers : List K) (number : ℕ) (servers : List (Serving K)) : Type 0 where
  pub many : length servers ≡ number
  pub each : (server : ℕ) (keeper : K) (here : Serving K) → slice_get keepers server ≡ Some keeper →
      slice_get servers server ≡ Some here → Opens terms set server keeper (Ok here)

pub opened_none : {K : Type 0} (terms : Terms K) (set : Set) (keepers : List K) → AreOpenedBelow terms set keepers 0 []
opened_none terms set keepers = record { many = refl; each = λ server keeper here there is. cc }

pub opened_more : {K : Type 0} (terms : Terms K) (set : Set) (keepers : List K) (number : ℕ) (servers : List (Serving K)) (keeper : K) (last : Serving K) →
    slice_get keepers number ≡ Some keeper → Opens terms set number keeper (Ok last) → AreOpenedBelow terms set keepers number servers →
    AreOpenedBelow terms set keepers (number + 1) (servers ++ last ∷ [])
opened_more {K} terms set keepers number servers keeper last there is below = record {
  many = let many = below.many in let more = length-append servers (last ∷ []) in omega (arith, more);
  each = λ server one here at its. elim (cases_lt server (length servers)) [
    | inl within ↦ below.each server one here at (sym (get_before servers last server within) ∙ its)
    | inr past ↦
        let bound = slice_get_within (servers ++ last ∷ []) server here its in
        let more = length-append servers (last ∷ []) in
        let last_is : server ≡ length servers = omega (arith, more) in
        let server_is : server ≡ number = last_is ∙ below.many in
        let servers_alike : last ≡ here = let both = sym (ap (slice_get (servers ++ last ∷ [])) last_is ∙ get_last servers last) ∙ its in cc in
        let keepers_alike : keeper ≡ one = let both = sym there ∙ ap (slice_get keepers) (sym server_is) ∙ at in cc in
        subst (λ (s : Serving K). Opens terms set server one (Ok s)) servers_alike
        (subst (λ (k : K). Opens terms set server k (Ok last)) keepers_alike (subst (λ n. Opens terms set n keeper (Ok last)) (sym server_is) is))
  ];
}

pub opened_all : {K : Type 0} (terms : Terms K) (set : Set) (keepers : List K) (number : ℕ) (servers : List (Serving K)) → length keepers ≡ set.servers →
    number ≡ set.servers → AreOpenedBelow terms set keepers number servers → AreOpened terms set keepers servers
opened_all terms set keepers number servers many all below = record {
  one_keeper = many;
  one_server = below.many ∙ all;
  each = below.each;
}

pub there_is : {X : Type 0} (items : List X) (place : ℕ) → place < length items → (item : X) × (slice_get items place ≡ Some item)
there_is items place within = elim (slice_get_cases items place).1 [
  | inl found ↦ (found.0, found.2)
  | inr none ↦ let past = none.0 in absurd (omega (arith, past, within))
]

-- opened servers are those of the set
pub servers_opened : {K : Type 0} (terms : Terms K) (set : Set) (keepers : List K) (servers : List (Serving K)) → AreOpened terms set keepers servers →
    AreServersOf set servers
servers_opened {K} terms set keepers servers are = record {
  many = are.one_server;
  each = λ server here there.
      let bound = slice_get_within servers server here there in
      let at = there_is keepers server (let one = are.one_keeper in let other = are.one_server in omega (arith, one, other, bound)) in
      let opened = are.each server at.0 here at.1 there in
      record { set_is = opened.set_is; server_is = opened.server_is; lawful = opened.lawful };
}

-- the server that isn't opened
pub open_fault : {K : Type 0} (terms : Terms K) (set : Set) (keepers : List K) (number : ℕ) (keeper : K) (fault : StartFault) →
    slice_get keepers number ≡ Some keeper → OpensOne terms set number keeper (Err fault) → IsOpenFault terms set keepers fault
open_fault terms set keepers number keeper OtherCount there is = is
open_fault terms set keepers number keeper (Open found fault) there is =
    subst (λ n. IsUnopenedAt terms set keepers n fault) (sym is.0) (record { keeper = keeper; there = there; opens = is.1; no_want = is.2 })
open_fault terms set keepers number keeper NoThread there is = is
open_fault terms set keepers number keeper Memory there is = tt

-- a fault of opening, where there is a keeper for each server, is one of starting
pub open_unstarted : {K : Type 0} (terms : Terms K) (set : Set) (keepers : List K) (fault : StartFault) → length keepers ≡ set.servers →
    IsOpenFault terms set keepers fault → IsUnstarted terms set keepers fault
open_unstarted terms set keepers OtherCount many is = absurd is
open_unstarted terms set keepers (Open server fault) many is = (many, is)
open_unstarted terms set keepers NoThread many is = absurd is
open_unstarted terms set keepers Memory many is = many

-- .. and so is a later fault
pub late_unstarted : {K : Type 0} (terms : Terms K) (set : Set) (keepers : List K) (fault : StartFault) → length keepers ≡ set.servers →
    IsLate fault → IsUnstarted terms set keepers fault
late_unstarted terms set keepers OtherCount many is = absurd is
late_unstarted terms set keepers (Open server fault) many is = absurd is
late_unstarted terms set keepers NoThread many is = many
late_unstarted terms set keepers Memory many is = many
