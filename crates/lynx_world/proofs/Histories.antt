-- The histories of a world, at its start and after one more entry.
use Rattle.std.proofs.Common.{◌≡◌, ℕ, ◌<◌, ◌+◌, List, [], ◌∷◌, ◌++◌, Bool, true, false, cond, length, get_or, refl, ap, ◌∙◌, nat_eq, suc, arith}
use Rattle.std.specs.List.{filter_map}
use Rattle.std.proofs.lemmas.List.Elements.{filter_map-append}
use Rattle.lynx_world.specs.Placed.{Placed}
use Rattle.std.specs.List.{flat_map, range_with_len}
use Rattle.lynx_world.specs.Worlds.{entry_at, history_of}

-- the entry goes to its server's history alone
pub history_of-push : (server : ℕ) (list : List Placed) (placed : Placed) →
    history_of server (list ++ placed ∷ []) ≡ history_of server list ++ cond (nat_eq placed.server server) (placed.entry ∷ []) []
history_of-push server list placed =
    filter_map-append (entry_at server) list (placed ∷ [])
    ∙ ap (λ entries. history_of server list ++ entries) (one (nat_eq placed.server server) refl)
  where
    one : (b : Bool) → nat_eq placed.server server ≡ b → filter_map (entry_at server) (placed ∷ []) ≡ cond b (placed.entry ∷ []) []
    one true e = rw e refl
    one false e = rw e refl

-- what each of a list gives, told by its place
pub gathered : {X Y : Type 0} (f : X → List Y) (g : ℕ → X) (d : X) (xs : List X) (a : ℕ) →
    ((i : ℕ) → i < length xs → get_or xs i d ≡ g (a + i)) → flat_map f xs ≡ flat_map (λ n. f (g n)) (range_with_len a (length xs))
gathered f g d [] a each = refl
gathered f g d (x ∷ xs) a each =
    ap (λ y. f y ++ flat_map f xs) (each 0 (omega arith) ∙ ap g (omega arith))
    ∙ ap (λ ys. f (g a) ++ ys) (gathered f g d xs (a + 1) (λ i within. each (suc i) (omega arith) ∙ ap g (omega arith)))
