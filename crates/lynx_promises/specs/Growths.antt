-- A set that grows: between two runs its servers are opened by a set that extends theirs.
use Rattle.std.specs.Prelude.{List, [], ◌∷◌, replicate}
use Rattle.lynx_set.specs.Rules.{IsSet}
use Rattle.lynx_set.specs.Set.{Set}
use Rattle.lynx_extend.specs.Extends.{Extends}
use Rattle.lynx_weave.specs.declared.told.ToldItem.{ToldItem}
use Rattle.lynx_world.specs.Worlds.{WorldState}
use Rattle.lynx_promises.specs.Stops.{Happening, Past, after_all}

-- the set by which the servers are opened, and what happens then
pub record Growth : Type 0 where
  pub set : Set
  pub happenings : List Happening

-- All servers stop, and are opened by that set: what they did and what was told stays, nothing is
-- held.
abbrev pub opened_by : Set → Past → Past
opened_by set past = record {
  world = record { set = set; list = past.world.list; held = replicate set.servers [] };
  told = past.told;
}

abbrev pub after_growths : Past → List Growth → Past
after_growths past [] = past
after_growths past (growth ∷ growths) =
    after_growths (after_all (opened_by growth.set past) growth.happenings) growths

-- the world after that, of which sessions were told these
abbrev pub world_later : WorldState → List (List ToldItem) → List Happening → List Growth
    → WorldState
world_later world told happenings growths =
    (after_growths (after_all (record { world = world; told = told }) happenings) growths).world

-- each set has a text, and extends the one before it
abbrev pub AreGrowths : Set → List Growth → Type 0
AreGrowths set [] = Unit {0}
AreGrowths set (growth ∷ growths) =
    IsSet growth.set × Extends set growth.set × AreGrowths growth.set growths

-- the set that it has become
abbrev pub grown : Set → List Growth → Set
grown set [] = set
grown set (growth ∷ growths) = grown growth.set growths
