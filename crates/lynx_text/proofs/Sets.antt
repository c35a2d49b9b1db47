-- Plain sets have the names and hops of sets.
use Rattle.std.proofs.Common.{◌≡◌, ℕ, suc, List, [], ◌∷◌, map, length, refl, ap}
use Rattle.lynx_set.specs.declared.program.Hop.{Hop}
use Rattle.lynx_set.specs.Plain.{plain_hop, plain_named}
use Rattle.lynx_set.specs.declared.program.Program.{Program}

-- plain programs have the same names
pub names_plain : (programs : List (List ℕ × Program)) → map (λ named. named.0) (map plain_named programs) ≡ map (λ named. named.0) programs
names_plain [] = refl
names_plain (program ∷ programs) = ap (λ names. program.0 ∷ names) (names_plain programs)

-- and plain programs as many hops
pub hops_plain : (hops : List Hop) → length (map plain_hop hops) ≡ length hops
hops_plain [] = refl
hops_plain (hop ∷ hops) = ap suc (hops_plain hops)
