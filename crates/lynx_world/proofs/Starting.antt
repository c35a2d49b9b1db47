-- A world in which nothing happened yet, and the cells of its servers.
use Rattle.std.proofs.Common.{◌≡◌, ◌<◌, ◌+◌, ◌-◌, ℕ, zero, suc, map, length, replicate, List, [], ◌∷◌, ◌++◌, slice_get, Some, add-one, refl, sym, ap, ◌∙◌, subst, arith}
use Rattle.std.specs.List.{flat_map, range_with_len}
use Rattle.std.proofs.lemmas.List.{map-append}
use Rattle.std.proofs.lemmas.List.Elements.{All-nil}
use Rattle.lynx_set.specs.Set.{Set}
use Rattle.lynx_keep.specs.Kept.{KeptState}
use Rattle.lynx_names.proofs.Ranges.{range_more}
use Rattle.lynx_server.specs.Serving.{Serving}
use Rattle.lynx_world.specs.declared.added.Added.{Added}
use Rattle.lynx_world.specs.Legal.{IsSent}
use Rattle.lynx_world.specs.Servers.{AreServers, IsServerOf, Servers, held_of, list_of}
use Rattle.lynx_world.specs.inner.Servers.{cells_left, new_server, new_servers}
use Rattle.lynx_world.specs.Tables.{cells_after, cells_of}
use Rattle.lynx_world.specs.Worlds.{history_of, new_world}
use Rattle.lynx_world.proofs.Stepping.{world_of}

-- as many as the numbers
many_from : (set : Set) (a n : ℕ) → length (map (new_server set) (range_with_len a n)) ≡ n
many_from set a zero = refl
many_from set a (suc n) = ap suc (many_from set (a + 1) n)

-- each has its number
number_from : (set : Set) (a n server : ℕ) (here : Serving KeptState) → slice_get (map (new_server set) (range_with_len a n)) server ≡ Some here →
    new_server set (a + server) ≡ here
number_from set a zero server here is = cc
number_from set a (suc n) zero here is = let same : new_server set a ≡ here = cc in ap (new_server set) (omega arith) ∙ same
number_from set a (suc n) (suc server) here is = ap (new_server set) (omega arith) ∙ number_from set (a + 1) n server here is

-- none holds anything
held_from : (set : Set) (a n : ℕ) → held_of (map (new_server set) (range_with_len a n)) ≡ replicate n []
held_from set a zero = refl
held_from set a (suc n) = ap (λ held. [] ∷ held) (held_from set (a + 1) n)

pub new_are : (set : Set) → AreServers set (new_servers set) []
new_are set = record {
  many = many_from set 0 set.servers;
  each = λ server here is.
      let same : new_server set server ≡ here = ap (new_server set) (omega arith) ∙ number_from set 0 set.servers server here is in
      subst (IsServerOf set [] server) same (record {
        set_is = refl;
        server_is = refl;
        history_is = refl;
        runs = refl;
        unmarked = refl;
        sent = All-nil (IsSent set []);
      });
  found = All-nil _;
  is_legal = tt;
}

pub new_is : (set : Set) → world_of set (new_servers set) [] ≡ new_world set
new_is set = ap (λ held. record { set = set; list = []; held = held }) (held_from set 0 set.servers)

-- one more new server
pub one_more : (set : Set) (servers : Servers) (number : ℕ) (more : Servers) (here : Serving KeptState) → servers ≡ map (new_server set) (range_with_len 0 number) →
    more ≡ servers ++ here ∷ [] → here ≡ new_server set number → more ≡ map (new_server set) (range_with_len 0 (number + 1))
one_more set servers number more here are grew is =
    grew ∙ ap (λ s. s ++ here ∷ []) are ∙ ap (λ h. map (new_server set) (range_with_len 0 number) ++ h ∷ []) is ∙ ap (λ n. map (new_server set) (range_with_len 0 number) ++ new_server set n ∷ []) (omega arith)
    ∙ pushed 0 number
  where
    pushed : (a n : ℕ) → map (new_server set) (range_with_len a n) ++ new_server set (a + n) ∷ [] ≡ map (new_server set) (range_with_len a (n + 1))
    pushed a n =
        sym (ap (λ m. map (new_server set) (range_with_len a m)) (add-one n) ∙ ap (map (new_server set)) (range_more a n)
        ∙ map-append (new_server set) (range_with_len a n) ((a + n) ∷ []))

-- the first of as many alike
pub first_alike : {X : Type 0} (z first : X) (rest : List X) (count number : ℕ) → (first ∷ rest) ≡ replicate (count - number) z → number < count →
    (first ≡ z) × (rest ≡ replicate (count - (number + 1)) z)
first_alike {X} z first rest count number is within = by (count - number) is (omega arith)
  where
    by : (m : ℕ) → (first ∷ rest) ≡ replicate m z → m ≡ (count - (number + 1)) + 1 → (first ≡ z) × (rest ≡ replicate (count - (number + 1)) z)
    by zero alike m_is = absurd (omega arith)
    by (suc m) alike m_is =
        let same : m ≡ count - (number + 1) = omega arith in
        let tail : rest ≡ replicate m z = cc in
        (cc, tail ∙ ap (λ n. replicate n z) same)

-- what each server gives, told by its number
cells_from : (h : ℕ → List (ℕ × ℕ × ℕ)) (servers : Servers) (a : ℕ) →
    ((server : ℕ) (here : Serving KeptState) → slice_get servers server ≡ Some here → cells_left here ≡ h (a + server)) →
    flat_map cells_left servers ≡ flat_map h (range_with_len a (length servers))
cells_from h [] a each = refl
cells_from h (first ∷ servers) a each =
    ap (λ cells. cells ++ flat_map cells_left servers) (each 0 first refl ∙ ap h (omega arith))
    ∙ ap (λ cells. h a ++ cells) (cells_from h servers (a + 1) (λ server here is. each (suc server) here is ∙ ap h (omega arith)))

-- The cells of the servers are those of the world.
pub cells_are : (set : Set) (servers : Servers) (order : List Added) → AreServers set servers order →
    flat_map cells_left servers ≡ cells_of (world_of set servers order)
cells_are set servers order are =
    cells_from (λ server. cells_after set (history_of server (list_of servers order))) servers 0
    (λ server here is.
    let its = are.each server here is in
    ap (λ s. cells_after s here.history) its.set_is ∙ ap (cells_after set) its.history_is
    ∙ ap (λ n. cells_after set (history_of n (list_of servers order))) (omega arith))
    ∙ ap (λ n. flat_map (λ server. cells_after set (history_of server (list_of servers order))) (range_with_len 0 n)) are.many
