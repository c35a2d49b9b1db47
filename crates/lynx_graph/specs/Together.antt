-- Programs that meet, directly or by way of others.
use Rattle.std.specs.Prelude.{◌≡◌, ◌≤◌, ℕ, List, [], ◌∷◌, All, map, length}
use Rattle.std.specs.List.{range_with_len}
use Rattle.lynx_set.specs.Set.{Set}
use Rattle.lynx_foot.specs.Conflicts.{MayConflict}
use Rattle.lynx_graph.specs.declared.members.Member.{Member}

-- some hop of the one program may conflict with some hop of the other
pub record Meet (set : Set) (left right : ℕ) : Type 0 where
  pub left_hop : ℕ
  pub right_hop : ℕ
  pub conflict : MayConflict set left left_hop right right_hop

-- the program meets the first of these, each of them the one after it, and the last is that program
abbrev pub LeadsTo : Set → ℕ → List ℕ → ℕ → Type 0
LeadsTo set program [] last = program ≡ last
LeadsTo set program (next ∷ rest) last = Meet set program next × LeadsTo set next rest last

-- two programs are one, or meet, directly or by way of others
abbrev pub AreTogether : Set → ℕ → ℕ → Type 0
AreTogether set left right = (way : List ℕ) × LeadsTo set left way right

-- the leader is the least of the programs that are together with a program
pub record IsLed (set : Set) (member : Member) : Type 0 where
  pub together : AreTogether set member.program member.leader
  pub least : (other : ℕ) → AreTogether set member.program other → member.leader ≤ other

-- the programs of the set in order, each with its leader
pub record AreLed (set : Set) (members : List Member) : Type 0 where
  pub all : map (λ member. member.program) members ≡ range_with_len 0 (length set.programs)
  pub led : All (IsLed set) members
