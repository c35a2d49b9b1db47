-- In a set whose literal keys lie at their hops' servers, a hop whose keys were looked at touches only cells of its own
-- server.
use Rattle.std.proofs.Common.{◌≡◌, ℕ, zero, suc, Bool, true, List, [], ◌∷◌, map, Some, slice_get, sym, ap, ◌∙◌, subst}
use Rattle.std.specs.Prelude.{All}
use Rattle.std.specs.List.{filter_map, list_all}
use Rattle.std.proofs.lemmas.Bool.{eqb-true}
use Rattle.std.proofs.lemmas.List.Elements.{All-nil, All-cons}
use Rattle.lynx_shards.specs.Shards.{server_of}
use Rattle.lynx_set.specs.declared.action.Action.{Action}
use Rattle.lynx_set.specs.declared.action.Action.TheVariants.{Get, Update, Let, Need}
use Rattle.lynx_set.specs.declared.action.Key.{Key}
use Rattle.lynx_set.specs.declared.action.Key.TheVariants.{Literal, Param}
use Rattle.lynx_set.specs.declared.program.Hop.{Hop}
use Rattle.lynx_set.specs.Home.{AreLiteralsHome, is_action_home}
use Rattle.lynx_set.specs.Set.{Set}
use Rattle.lynx_set.specs.Scopes.{is_home}
use Rattle.lynx_hops.specs.Meaning.{key_of}
use Rattle.lynx_foot.specs.declared.touch.Touch.{Touch}
use Rattle.lynx_foot.specs.Feet.{foot_of, touch_of, touches_of}
use Rattle.lynx_rules.specs.Checks.{is_key_at, is_action_at, are_keys_placed}
use Rattle.lynx_world.proofs.HopsOf.{HasHop, actions_are, hop_at-is}
use Rattle.lynx_world.proofs.Once.{both}

-- the literal keys of a hop of the set are at its server
home : (set : Set) (program number : ℕ) (has : HasHop set program number) → AreLiteralsHome set →
    list_all (is_action_home set.shards has.hop.server) has.hop.actions ≡ true
home set program number has literals = literals program number has.hop (hop_at-is set program number has)

-- ---- touches

-- a cell of the server
abbrev pub LiesAt : Set → ℕ → Touch → Type 0
LiesAt set server touch = server_of set.shards touch.table touch.key ≡ server

key_lies : (set : Set) (server : ℕ) (args : List ℕ) (table : ℕ) (key : Key) → is_home set.shards server table key ≡ true →
    is_key_at set server args table key ≡ true → server_of set.shards table (key_of args key) ≡ server
key_lies set server args table (Literal key) home there = eqb-true _ _ home
key_lies set server args table (Param place) home there = eqb-true _ _ there

actions_lie : (set : Set) (server : ℕ) (args : List ℕ) (actions : List Action) → list_all (is_action_home set.shards server) actions ≡ true →
    list_all (is_action_at set server args) actions ≡ true → All (LiesAt set server) (map (touch_of args) (filter_map foot_of actions))
actions_lie set server args [] home there = All-nil (LiesAt set server)
actions_lie set server args (Get table key ∷ actions) home there =
    let parts = both (is_key_at set server args table key) _ there in
    let homes = both (is_home set.shards server table key) _ home in
    All-cons (LiesAt set server) _ _ (key_lies set server args table key homes.0 parts.0) (actions_lie set server args actions homes.1 parts.1)
actions_lie set server args (Update update table key value ∷ actions) home there =
    let parts = both (is_key_at set server args table key) _ there in
    let homes = both (is_home set.shards server table key) _ home in
    All-cons (LiesAt set server) _ _ (key_lies set server args table key homes.0 parts.0) (actions_lie set server args actions homes.1 parts.1)
actions_lie set server args (Let left operator right ∷ actions) home there = actions_lie set server args actions home there
actions_lie set server args (Need left relation right ∷ actions) home there = actions_lie set server args actions home there

-- what passes a test of all passes it
passes_at : {X : Type 0} (test : X → Bool) (xs : List X) (i : ℕ) (x : X) → list_all test xs ≡ true → slice_get xs i ≡ Some x → test x ≡ true
passes_at test [] i x all is = cc
passes_at test (first ∷ xs) zero x all is = let same : first ≡ x = cc in ap test (sym same) ∙ (both (test first) _ all).0
passes_at test (first ∷ xs) (suc i) x all is = passes_at test xs i x (both (test first) _ all).1 is

-- the touches of a hop are of cells of its server
pub touches_lie : (set : Set) (program number : ℕ) (args : List ℕ) (has : HasHop set program number) → AreLiteralsHome set →
    are_keys_placed set args has.found.hops ≡ true → All (LiesAt set has.hop.server) (touches_of set program number args)
touches_lie set program number args has is placed =
    subst (λ actions. All (LiesAt set has.hop.server) (map (touch_of args) (filter_map foot_of actions))) (sym (actions_are set program number has))
    (actions_lie set has.hop.server args has.hop.actions (home set program number has is)
    (passes_at (λ (hop : Hop). list_all (is_action_at set hop.server args) hop.actions) has.found.hops number has.hop placed has.hop_is))
