-- The tests of walks of blocks decide what they are named for.
use Rattle.std.proofs.Common.{◌≡◌, ℕ, ◌<◌, ◌≤◌, inl, inr, ◌+◌, Bool, true, false, not, List, [], ◌∷◌, Option, Some, None, ap, sym, ◌∙◌, refl, arith}
use Rattle.std.specs.Prelude.{◌==◌, ◌&&◌, ◌||◌, All, Any, nat_le, nat_lt, slice_get, option_and_then, option_map, unwrap_or}
use Rattle.std.specs.Bool.{Decides}
use Rattle.std.specs.List.{list_any}
use Rattle.std.specs.Option.{option_map_or}
use Rattle.std.proofs.lemmas.Bool.{and_from, and_parts, cases_lt, eq-eqb, eqb-true, false≢true}
use Rattle.std.proofs.lemmas.Option.{none-some, same_Some}
use Rattle.std.proofs.lemmas.List.Folds.{Any-from_list_any, list_any-from_Any}
use Rattle.std.proofs.lemmas.Bool.Decides.{Decides-and, Decides-by_and, Decides-like, Decides-ltb, Decides-not, leb_tells}
use Rattle.lynx_set.specs.Set.{Set}
use Rattle.lynx_set.specs.declared.program.Hop.{Hop}
use Rattle.lynx_set.specs.declared.program.Program.{Program}
use Rattle.lynx_set.specs.Lookups.{hop_at, hops_of, origin_of, program_at}
use Rattle.lynx_graph.specs.declared.block.Block.{Block}
use Rattle.lynx_graph.specs.declared.block.Block.TheVariants.{One, Two}
use Rattle.lynx_graph.specs.declared.meeting.Place.{Place}
use Rattle.lynx_graph.specs.Blocks.{HasCome, IsBlock, IsForward, IsOffendingBlockWalk, Meets, MeetsAround, entrance_of, exit_of}
use Rattle.lynx_graph.specs.inner.BlockTests.{block_offends, is_backward, is_block, meets, meets_around, some_is_no_block}
use Rattle.lynx_graph.specs.Tests.{has_come, serves_upto, server_of}
use Rattle.lynx_graph.proofs.Decides.{Decides-joins, Decides-same_server}
use Rattle.lynx_graph.proofs.Lists.{enumerated-any, enumerated-found}

pub Decides-meets : (set : Set) (left right : Place) → Decides (meets set left right) (Meets set left right)
Decides-meets set left right = Decides-like
    (meets set left right)
    (λ parts. record { conflict = parts.0; apart = parts.1 })
    (λ whole. (whole.conflict, whole.apart))
    (Decides-and _ _ (Decides-joins set left right) (Decides-not _ (Decides-same_server (origin_of set left.program) (origin_of set right.program))))

pub Decides-meets_around : (set : Set) (first block : Block) (rest : List Block) → Decides (meets_around set first block rest) (MeetsAround set first block rest)
Decides-meets_around set first block [] = Decides-meets set (exit_of block) (entrance_of first)
Decides-meets_around set first block (next ∷ rest) = Decides-and _ _ (Decides-meets set (exit_of block) (entrance_of next)) (Decides-meets_around set first next rest)

pub Decides-is_block : (set : Set) (block : Block) → Decides (is_block set block) (IsBlock set block)
Decides-is_block set (One program entered left) = (λ _. tt, λ _. refl)
Decides-is_block set (Two first entered second left) = Decides-same_server (origin_of set first) (origin_of set second)

-- ---- blocks

none_fails : {X : Type 0} (p : X → Bool) (x : X) (xs : List X) → not (list_any (λ y. not (p y)) (x ∷ xs)) ≡ (p x && not (list_any (λ y. not (p y)) xs))
none_fails p x xs = by_test (p x)
  where
    by_test : (b : Bool) → not (not b || list_any (λ y. not (p y)) xs) ≡ (b && not (list_any (λ y. not (p y)) xs))
    by_test true = refl
    by_test false = refl

Decides-are_blocks : (set : Set) (walk : List Block) → Decides (not (some_is_no_block set walk)) (All (IsBlock set) walk)
Decides-are_blocks set = Decides-by_and (is_block set) (IsBlock set) (λ walk. not (some_is_no_block set walk)) (Decides-is_block set) refl (none_fails (is_block set))

-- ---- the server of an earlier hop

Decides-upto : (a b : ℕ) → Decides (nat_le a b) (a ≤ b)
Decides-upto a b = elim (leb_tells a b) [
  | inl below ↦ (λ _. below.1, λ _. below.0)
  | inr above ↦ (λ passes. absurd (false≢true (sym above.0 ∙ passes)), λ upto. absurd (omega (arith, upto, above.1)))
]

hop_in_hops : (set : Set) (program hop : ℕ) → hop_at set program hop ≡ slice_get (hops_of set program) hop
hop_in_hops set program hop = by_program (program_at set program)
  where
    by_program : (known : Option Program) → option_and_then (λ found. slice_get found.hops hop) known ≡ slice_get (unwrap_or (option_map (λ found. found.hops) known) []) hop
    by_program None = refl
    by_program (Some found) = refl

serves_from : (set : Set) (place : Place) (program last server : ℕ) → server_of set place ≡ Some server → serves_upto (hops_of set program) server last ≡ true → HasCome set place program last
serves_from set place program last server there passes =
    let found = enumerated-found (λ (numbered : ℕ × Hop). nat_le numbered.0 last && numbered.1.server == server) 0 (hops_of set program) passes in
    let parts = and_parts _ _ found.passes in
    let upto : 0 + found.at ≤ last = (Decides-upto (0 + found.at) last).0 parts.0 in
    record {
      hop = found.at;
      server = server;
      upto = omega (arith, upto);
      own = ap (option_map (λ (hop : Hop). hop.server)) (hop_in_hops set program found.at ∙ found.there) ∙ ap Some (eqb-true _ _ parts.1);
      there = there;
    }

serves_to : (set : Set) (place : Place) (program last : ℕ) → (come : HasCome set place program last) → serves_upto (hops_of set program) come.server last ≡ true
serves_to set place program last come =
    by_hop (slice_get (hops_of set program) come.hop) refl (sym (ap (option_map (λ (hop : Hop). hop.server)) (hop_in_hops set program come.hop)) ∙ come.own)
  where
    by_hop : (hop : Option Hop) → slice_get (hops_of set program) come.hop ≡ hop → option_map (λ (hop : Hop). hop.server) hop ≡ Some come.server → serves_upto (hops_of set program) come.server last ≡ true
    by_hop None at none = absurd (none-some come.server none)
    by_hop (Some hop) at is =
        let same : 0 + come.hop ≡ come.hop = omega arith in
        enumerated-any (λ (numbered : ℕ × Hop). nat_le numbered.0 last && numbered.1.server == come.server) 0 (hops_of set program) come.hop hop at
        (and_from _ _ (ap (λ (n : ℕ). nat_le n last) same ∙ (Decides-upto come.hop last).1 come.upto) (eq-eqb hop.server come.server (same_Some _ _ is)))

Decides-has_come : (set : Set) (place : Place) (program last : ℕ) → Decides (has_come set place program last) (HasCome set place program last)
Decides-has_come set place program last = by_server (server_of set place) refl
  where
    by_server : (there : Option ℕ) → server_of set place ≡ there →
        Decides (option_map_or (λ server. serves_upto (hops_of set program) server last) there false) (HasCome set place program last)
    by_server None none = (λ passes. absurd (false≢true passes), λ come. absurd (none-some come.server (sym none ∙ come.there)))
    by_server (Some server) is = (
      serves_from set place program last server is,
      λ come. ap (λ (s : ℕ). serves_upto (hops_of set program) s last) (same_Some server come.server (sym is ∙ come.there)) ∙ serves_to set place program last come,
    )

-- ---- the walk

backward_one : (entered left : ℕ) → Decides (nat_lt left entered) (entered ≤ left → ⊥)
backward_one entered left = Decides-like (nat_lt left entered) (λ less upto. omega (arith, less, upto)) (λ never. not_above entered left never) (Decides-ltb left entered)
  where
    not_above : (entered left : ℕ) → (entered ≤ left → ⊥) → left < entered
    not_above entered left never = elim (cases_lt left entered) [ inl less ↦ less | inr upto ↦ absurd (never upto) ]

pub Decides-is_backward : (set : Set) (block : Block) → Decides (is_backward set block) (IsForward set block → ⊥)
Decides-is_backward set (One program entered left) = backward_one entered left
Decides-is_backward set (Two first entered second left) = Decides-not _ (Decides-has_come set (record { program = first; hop = entered }) second left)

Decides-some_backward : (set : Set) (walk : List Block) → Decides (list_any (is_backward set) walk) (Any (λ block. IsForward set block → ⊥) walk)
Decides-some_backward set walk = (
  λ passes. let found = Any-from_list_any (is_backward set) walk passes in (found.0, found.1, found.2, found.3, (Decides-is_backward set found.1).0 found.4),
  λ found. list_any-from_Any (is_backward set) walk (found.0, found.1, found.2, found.3, (Decides-is_backward set found.1).1 found.4),
)

pub Decides-block_offends : (set : Set) (walk : List Block) → Decides (block_offends set walk) (IsOffendingBlockWalk set walk)
Decides-block_offends set [] = (λ passes. absurd (false≢true passes), λ offending. absurd offending.0)
Decides-block_offends set (only ∷ []) = (λ passes. absurd (false≢true passes), λ offending. absurd offending.0)
Decides-block_offends set (first ∷ second ∷ rest) = Decides-like
    {P = MeetsAround set first first (second ∷ rest) × (All (IsBlock set) (first ∷ second ∷ rest) × Any (λ block. IsForward set block → ⊥) (first ∷ second ∷ rest))}
    (block_offends set (first ∷ second ∷ rest))
    (λ parts. ((parts.1.0, parts.0), parts.1.1))
    (λ whole. (whole.0.1, (whole.0.0, whole.1)))
    (Decides-and _ _ (Decides-meets_around set first first (second ∷ rest))
    (Decides-and _ _ (Decides-are_blocks set (first ∷ second ∷ rest)) (Decides-some_backward set (first ∷ second ∷ rest))))
