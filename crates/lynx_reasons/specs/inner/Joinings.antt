-- Programs by groups, as far as edges have joined them.
use Rattle.std.specs.Prelude.{◌≡◌, ◌≢◌, ◌⊎◌, Bool, false, true, not, ◌==◌, ◌&&◌, ◌||◌, ℕ, List, IfSome, Option, Some, None, slice_get, slice_set, if◌then◌else◌}
use Rattle.std.specs.List.{list_any}
use Rattle.std.specs.Option.{option_map_or}
use Rattle.lynx_set.specs.Lookups.{origin_of}
use Rattle.lynx_set.specs.Set.{Set}
use Rattle.lynx_foot.specs.Conflicts.{MayConflict}
use Rattle.lynx_graph.specs.Edges.{IsConflict}
use Rattle.lynx_graph.specs.Tests.{same_server}
use Rattle.lynx_graph.specs.Together.{AreTogether}
use Rattle.lynx_graph.specs.declared.edges.Edge.{Edge}
use Rattle.lynx_graph.specs.declared.meeting.Place.{Place}
use Rattle.lynx_reasons.specs.Culprits.{is_of, set_without}
use Rattle.lynx_reasons.specs.declared.culprit.Culprit.{Culprit}
use Rattle.lynx_reasons.specs.declared.joining.Joined.{Joined}
use Rattle.lynx_reasons.specs.inner.Numbers.{number_of}

-- a program by itself
abbrev pub single : Set → ℕ → Joined
single set program = record {
  origin = origin_of set program;
  group = program;
  met = None;
  is_met_twice = false;
}

-- the program, as one of which that hop meets another
abbrev pub noted_by : Option ℕ → ℕ → Joined → Joined
noted_by None hop joined = record joined { met = Some hop }
noted_by (Some first) hop joined =
    record joined { is_met_twice = joined.is_met_twice || not (first == hop) }

abbrev pub noted : ℕ → Joined → Joined
noted hop joined = noted_by joined.met hop joined

abbrev pub noted_at : Place → List Joined → List Joined
noted_at place programs =
    option_map_or (λ joined. slice_set programs place.program (noted place.hop joined))
    (slice_get programs place.program) programs

-- the program, in the one group where it was in the other
abbrev pub led_by : ℕ → ℕ → Joined → Joined
led_by group other joined =
    record joined { group = if joined.group == other then group else joined.group }

-- the other is of its group, and begins at another server
abbrev pub is_abroad_of : Joined → Joined → Bool
is_abroad_of joined other =
    other.group == joined.group && not (same_server other.origin joined.origin)

abbrev pub is_mixed_by : List Joined → Joined → Bool
is_mixed_by programs joined = joined.is_met_twice && list_any (is_abroad_of joined) programs

-- the programs of both ends are left, and the ends may conflict
pub record IsEdgeLeft (set : Set) (culprit : Culprit) (edge : Edge) : Type 0 where
  pub left : is_of culprit edge.left.program ≡ false
  pub right : is_of culprit edge.right.program ≡ false
  pub conflict : IsConflict set edge

-- the program is left, and the hop meets one of a program that is
pub record MeetsOne (set : Set) (culprit : Culprit) (program hop : ℕ) : Type 0 where
  pub own : is_of culprit program ≡ false
  pub other : Place
  pub its : is_of culprit other.program ≡ false
  pub conflict : MayConflict set program hop other.program other.hop

pub record MeetsTwice (set : Set) (culprit : Culprit) (program : ℕ) : Type 0 where
  pub hop : ℕ
  pub other : ℕ
  pub differ : hop ≢ other
  pub meets : MeetsOne set culprit program hop
  pub also : MeetsOne set culprit program other

-- two programs that are left, and are together without these
pub record AreTogetherLeft (set : Set) (culprit : Culprit) (left right : ℕ) : Type 0 where
  pub left_own : is_of culprit left ≡ false
  pub right_own : is_of culprit right ≡ false
  pub together : AreTogether (set_without set culprit) (number_of culprit left)
      (number_of culprit right)

-- what is noted of each program is so, and two of one group are one, or together
pub record AreJoined (set : Set) (culprit : Culprit) (programs : List Joined) : Type 0 where
  pub origins : (program : ℕ) (joined : Joined) → slice_get programs program ≡ Some joined
      → joined.origin ≡ origin_of set program
  pub met : (program : ℕ) (joined : Joined) → slice_get programs program ≡ Some joined
      → IfSome joined.met (MeetsOne set culprit program)
  pub twice : (program : ℕ) (joined : Joined) → slice_get programs program ≡ Some joined
      → joined.is_met_twice ≡ true → MeetsTwice set culprit program
  pub groups : (left right : ℕ) (one other : Joined) → slice_get programs left ≡ Some one
      → slice_get programs right ≡ Some other → one.group ≡ other.group
      → (left ≡ right) ⊎ AreTogetherLeft set culprit left right
