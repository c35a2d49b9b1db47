-- The least number that actions leave for a parameter is the least that is asked for, or the least
-- key of a shard.
use Rattle.std.proofs.Common.{◌≡◌, ℕ, ◌≤◌, ◌<◌, ◌^◌, ◌⊎◌, inl, inr, ⊎_elim, Bool, true, false, cond, eqb, ◌||◌, List, [], ◌∷◌, refl, sym, ap, ◌∙◌, arith}
use Rattle.std.specs.List.{list_all, list_any}
use Rattle.std.proofs.lemmas.Bool.{and_from, and_parts, cases_lt, or_left, or_right}
use Rattle.lynx_shards.specs.declared.shard.Shard.{Shard}
use Rattle.lynx_shards.specs.Ranges.{EachCovers}
use Rattle.lynx_shards.specs.Shards.{server_of}
use Rattle.lynx_set.specs.declared.action.Action.{Action}
use Rattle.lynx_set.specs.declared.action.Action.TheVariants.{Get, Update, Let, Need}
use Rattle.lynx_set.specs.declared.action.Key.{Key}
use Rattle.lynx_set.specs.declared.action.Key.TheVariants.{Literal, Param}
use Rattle.lynx_reasons.specs.Begins.{is_home, is_key_home}
use Rattle.lynx_reasons.proofs.Starts.{start_of}

-- from where on up to a number what passes there passes
abbrev pub FromShard : List (List Shard) → (ℕ → Bool) → ℕ → Type 0
FromShard tables passes number =
    (shard : Shard) × ((test : Shard → Bool) → test shard ≡ true → list_any (list_any test) tables ≡ true)
    × (shard.low ≤ number) × ((other : ℕ) → shard.low ≤ other → other ≤ number → passes other ≡ true)

-- a key that is at home is so from the beginning of its shard, or wherever it is
key_home : (tables : List (List Shard)) → EachCovers tables → (parameter number server table : ℕ) (key : Key) → number < 2 ^ 64
    → is_key_home tables parameter number server table key ≡ true
    → ((other : ℕ) → is_key_home tables parameter other server table key ≡ true)
    ⊎ FromShard tables (λ other. is_key_home tables parameter other server table key) number
key_home tables covers parameter number server table (Literal key) below home = inl (λ other. refl)
key_home tables covers parameter number server table (Param place) below home = by (eqb place parameter) refl
  where
    by : (test : Bool) → eqb place parameter ≡ test
        → ((other : ℕ) → is_key_home tables parameter other server table (Param place) ≡ true)
        ⊎ FromShard tables (λ other. is_key_home tables parameter other server table (Param place)) number
    by false is = inl (λ other. ap (λ b. cond b (eqb (server_of tables table other) server) true) is)
    by true is =
        let at : eqb (server_of tables table number) server ≡ true =
        sym (ap (λ b. cond b (eqb (server_of tables table number) server) true) is) ∙ home in
        ⊎_elim
        (λ same. inl (λ other. ap (λ b. cond b (eqb (server_of tables table other) server) true) is ∙ ap (λ s. eqb s server) (same other) ∙ at))
        (λ start. inr (
          start.shard,
          start.one_of,
          start.begins,
          λ other after before.
              ap (λ b. cond b (eqb (server_of tables table other) server) true) is ∙ ap (λ s. eqb s server) (start.same other after before) ∙ at,
        ))
        (start_of tables table number covers below)

home : (tables : List (List Shard)) → EachCovers tables → (parameter number : ℕ) (sited : ℕ × Action) → number < 2 ^ 64
    → is_home tables parameter number sited ≡ true
    → ((other : ℕ) → is_home tables parameter other sited ≡ true) ⊎ FromShard tables (λ other. is_home tables parameter other sited) number
home tables covers parameter number (server, Get table key) below is = key_home tables covers parameter number server table key below is
home tables covers parameter number (server, Update update table key value) below is = key_home tables covers parameter number server table key below is
home tables covers parameter number (server, Let left operator right) below is = inl (λ other. refl)
home tables covers parameter number (server, Need left relation right) below is = inl (λ other. refl)

-- the least number from which on up to that one the actions leave all; it is one of those tried
pub record Least (tables : List (List Shard)) (parameter : ℕ) (actions : List (ℕ × Action)) (least number : ℕ) : Type 0 where
  pub from : ℕ
  pub above : least ≤ from
  pub upto : from ≤ number
  pub tried : (test : ℕ → Bool) → test from ≡ true → (test least || list_any (list_any (λ (shard : Shard). test shard.low)) tables) ≡ true
  pub kept : (other : ℕ) → from ≤ other → other ≤ number → list_all (is_home tables parameter other) actions ≡ true

pub least_left : (tables : List (List Shard)) → EachCovers tables → (parameter : ℕ) (actions : List (ℕ × Action)) (least number : ℕ)
    → least ≤ number → number < 2 ^ 64 → list_all (is_home tables parameter number) actions ≡ true
    → Least tables parameter actions least number
least_left tables covers parameter [] least number above below left = record {
  from = least;
  above = omega arith;
  upto = above;
  tried = λ test passes. or_left (test least) _ passes;
  kept = λ other after before. refl;
}
least_left tables covers parameter (sited ∷ actions) least number above below left =
    with_rest (least_left tables covers parameter actions least number above below parts.1)
  where
    parts : (is_home tables parameter number sited ≡ true) × (list_all (is_home tables parameter number) actions ≡ true)
    parts = and_parts (is_home tables parameter number sited) (list_all (is_home tables parameter number) actions) left

    with_rest : Least tables parameter actions least number → Least tables parameter (sited ∷ actions) least number
    with_rest rest = ⊎_elim
        (λ always. record {
          from = rest.from;
          above = rest.above;
          upto = rest.upto;
          tried = rest.tried;
          kept = λ other after before. and_from _ _ (always other) (rest.kept other after before);
        })
        (λ (start : FromShard tables (λ other. is_home tables parameter other sited) number). ⊎_elim
        (λ earlier. record {
          from = start.0.low;
          above = omega (arith, rest.above, earlier);
          upto = start.2;
          tried = λ test passes. or_right (test least) _ (start.1 (λ shard. test shard.low) passes);
          kept = λ other after before. and_from _ _ (start.3 other after before) (rest.kept other (omega (arith, after, earlier)) before);
        })
        (λ later. record {
          from = rest.from;
          above = rest.above;
          upto = rest.upto;
          tried = rest.tried;
          kept = λ other after before. and_from _ _ (start.3 other (omega (arith, after, later)) before) (rest.kept other after before);
        })
        (cases_lt rest.from start.0.low))
        (home tables covers parameter number sited below parts.0)
