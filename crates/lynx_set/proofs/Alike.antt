-- What `==` says of names, shards and programs.
use Rattle.std.proofs.Common.{◌≡◌, ◌≤◌, length, ℕ, ◌&&◌, Bool, List, sym, ap, ◌∙◌}
use Rattle.std.specs.Bool.{Decides}
use Rattle.std.proofs.Math.Bridge.{le_prop}
use mathlib.Core.HLevel.{is_prop→PathP}
use Rattle.lynx_names.specs.declared.limits.TheConstants.{MAX_ACTIONS, MAX_HOPS, MAX_PARAMETERS}
use Rattle.std.specs.Cmp.Lexicographic.{pointwise, pointwise_decides}
use Rattle.std.proofs.lemmas.Bool.Decides.{Decides-and, Decides-eqb}
use denote.Enum.Bare.{same_true, true_same}
use Rattle.lynx_shards.specs.declared.shard.Shard.{Shard}
use Rattle.lynx_shards.specs.contracts.shard.ShardPartialEq as shards
use Rattle.lynx_set.specs.declared.action.Relation.{Relation}
use Rattle.lynx_set.specs.declared.action.Operator.{Operator}
use Rattle.lynx_set.specs.declared.action.Key.{Key}
use Rattle.lynx_set.specs.declared.action.Key.TheVariants.{Literal, Param}
use Rattle.lynx_set.specs.declared.action.Operand.{Operand}
use Rattle.lynx_set.specs.declared.action.Operand.TheVariants.{Number, Name}
use Rattle.lynx_set.specs.declared.action.Action.{Action}
use Rattle.lynx_set.specs.declared.action.Action.TheVariants.{Get, Update, Let, Need}
use Rattle.lynx_set.specs.declared.action.Update.{Update as TheUpdate}
use Rattle.lynx_set.specs.declared.interval.Interval.{Interval}
use Rattle.lynx_set.specs.declared.program.ParameterRange.{ParameterRange}
use Rattle.lynx_set.specs.declared.program.Hop.{Hop}
use Rattle.lynx_set.specs.declared.program.Program.{Program}
use Rattle.lynx_set.specs.contracts.action.Relation as relation
use Rattle.lynx_set.specs.contracts.action.Operator as operator
use Rattle.lynx_set.specs.contracts.action.Update as update
use Rattle.lynx_set.specs.contracts.action.RelationPartialEq as relations
use Rattle.lynx_set.specs.contracts.action.OperatorPartialEq as operators
use Rattle.lynx_set.specs.contracts.action.UpdatePartialEq as updates
use Rattle.lynx_set.specs.contracts.action.KeyPartialEq as keys
use Rattle.lynx_set.specs.contracts.action.OperandPartialEq as operands
use Rattle.lynx_set.specs.contracts.action.ActionPartialEq as actions
use Rattle.lynx_set.specs.contracts.interval.IntervalPartialEq as intervals
use Rattle.lynx_set.specs.contracts.program.ParameterRangePartialEq as ranges
use Rattle.lynx_set.specs.contracts.program.HopPartialEq as hops
use Rattle.lynx_set.specs.contracts.program.ProgramPartialEq as programs
use Rattle.lynx_set.proofs.Same.{same_name, same_name-exact, same_name-refl}

into : {P Q : Type 0} (r : Bool) → Decides r P → (P → Q) → (Q → P) → Decides r Q
into r decides to from = (λ e. to (decides.0 e), λ q. decides.1 (from q))

same_relations : (a b : Relation) → Decides (relations.TheImpl.ghosts.eq a b) (a ≡ b)
same_relations a b = (same_true relation.the_type tt a b, true_same relation.the_type a b)

same_operators : (a b : Operator) → Decides (operators.TheImpl.ghosts.eq a b) (a ≡ b)
same_operators a b = (same_true operator.the_type tt a b, true_same operator.the_type a b)

same_updates : (a b : TheUpdate) → Decides (updates.TheImpl.ghosts.eq a b) (a ≡ b)
same_updates a b = (same_true update.the_type tt a b, true_same update.the_type a b)

same_keys : (a b : Key) → Decides (keys.TheImpl.ghosts.eq a b) (a ≡ b)
same_keys (Literal a) (Literal b) = into _ (Decides-eqb a b) (ap Literal) (λ e. cc)
same_keys (Param a) (Param b) = into _ (Decides-eqb a b) (ap Param) (λ e. cc)
same_keys (Literal a) (Param b) = (λ e. cc, λ e. cc)
same_keys (Param a) (Literal b) = (λ e. cc, λ e. cc)

same_operands : (a b : Operand) → Decides (operands.TheImpl.ghosts.eq a b) (a ≡ b)
same_operands (Number a) (Number b) = into _ (Decides-eqb a b) (ap Number) (λ e. cc)
same_operands (Name a) (Name b) = into _ (Decides-eqb a b) (ap Name) (λ e. cc)
same_operands (Number a) (Name b) = (λ e. cc, λ e. cc)
same_operands (Name a) (Number b) = (λ e. cc, λ e. cc)

same_actions : (a b : Action) → Decides (actions.TheImpl.ghosts.eq a b) (a ≡ b)
same_actions (Get t k) (Get u l) = into _ (Decides-and _ _ (Decides-eqb t u) (same_keys k l)) (λ p. λ i. Get (p.0 i) (p.1 i)) (λ e. (cc, cc))
same_actions (Update c t k v) (Update d u l w) =
    into _ (Decides-and _ _ (same_updates c d) (Decides-and _ _ (Decides-eqb t u) (Decides-and _ _ (same_keys k l) (same_operands v w))))
    (λ p. λ i. Update (p.0 i) (p.1.0 i) (p.1.1.0 i) (p.1.1.1 i)) (λ e. (cc, (cc, (cc, cc))))
same_actions (Let a o b) (Let c p d) =
    into _ (Decides-and _ _ (same_operands a c) (Decides-and _ _ (same_operators o p) (same_operands b d))) (λ q. λ i. Let (q.0 i) (q.1.0 i) (q.1.1 i)) (λ e. (cc, (cc, cc)))
same_actions (Need a r b) (Need c s d) =
    into _ (Decides-and _ _ (same_operands a c) (Decides-and _ _ (same_relations r s) (same_operands b d))) (λ q. λ i. Need (q.0 i) (q.1.0 i) (q.1.1 i)) (λ e. (cc, (cc, cc)))
same_actions (Get x y) (Update s t u v) = (λ e. cc, λ e. cc)
same_actions (Get x y) (Let u v w) = (λ e. cc, λ e. cc)
same_actions (Get x y) (Need u v w) = (λ e. cc, λ e. cc)
same_actions (Update w x y z) (Get u v) = (λ e. cc, λ e. cc)
same_actions (Update w x y z) (Let s t u) = (λ e. cc, λ e. cc)
same_actions (Update w x y z) (Need s t u) = (λ e. cc, λ e. cc)
same_actions (Let x y z) (Get u v) = (λ e. cc, λ e. cc)
same_actions (Let x y z) (Update s t u v) = (λ e. cc, λ e. cc)
same_actions (Let x y z) (Need u v w) = (λ e. cc, λ e. cc)
same_actions (Need x y z) (Get u v) = (λ e. cc, λ e. cc)
same_actions (Need x y z) (Update s t u v) = (λ e. cc, λ e. cc)
same_actions (Need x y z) (Let u v w) = (λ e. cc, λ e. cc)

hop_is : (a b : Hop) → a.server ≡ b.server → a.actions ≡ b.actions → a ≡ b
hop_is a b servers actions = λ i. record {
  server = servers i;
  actions = actions i;
  few_actions = is_prop→PathP (λ j. length (actions j) ≤ MAX_ACTIONS) (λ j. le_prop) a.few_actions b.few_actions i;
}

same_hops : (a b : Hop) → Decides (hops.TheImpl.ghosts.eq a b) (a ≡ b)
same_hops a b =
    into _ (Decides-and _ _ (Decides-eqb a.server b.server) (pointwise_decides same_actions a.actions b.actions))
    (λ p. hop_is a b p.0 p.1)
    (λ e. (ap (λ (h : Hop). h.server) e, ap (λ (h : Hop). h.actions) e))

-- names that are spelled alike are the same
pub same_names : (a b : List ℕ) → Decides (same_name a b) (a ≡ b)
same_names a b = (same_name-exact a b, λ e. ap (same_name a) (sym e) ∙ same_name-refl a)

same_intervals : (a b : Interval) → Decides (intervals.TheImpl.ghosts.eq a b) (a ≡ b)
same_intervals a b =
    into _ (Decides-and _ _ (Decides-eqb a.low b.low) (Decides-eqb a.high b.high))
    (λ p. λ i. record { low = p.0 i; high = p.1 i })
    (λ e. (ap (λ (n : Interval). n.low) e, ap (λ (n : Interval). n.high) e))

same_ranges : (a b : ParameterRange) → Decides (ranges.TheImpl.ghosts.eq a b) (a ≡ b)
same_ranges a b =
    into _ (Decides-and _ _ (Decides-eqb a.parameter b.parameter) (same_intervals a.interval b.interval))
    (λ p. λ i. record { parameter = p.0 i; interval = p.1 i })
    (λ e. (ap (λ (r : ParameterRange). r.parameter) e, ap (λ (r : ParameterRange). r.interval) e))

program_is : (a b : Program) → a.parameters ≡ b.parameters → a.names ≡ b.names → a.ranges ≡ b.ranges → a.hops ≡ b.hops → a ≡ b
program_is a b parameters names ranges hops = λ i. record {
  parameters = parameters i;
  names = names i;
  ranges = ranges i;
  hops = hops i;
  few_parameters = is_prop→PathP (λ j. parameters j ≤ MAX_PARAMETERS) (λ j. le_prop) a.few_parameters b.few_parameters i;
  few_hops = is_prop→PathP (λ j. length (hops j) ≤ MAX_HOPS) (λ j. le_prop) a.few_hops b.few_hops i;
}

same_programs : (a b : Program) → Decides (programs.TheImpl.ghosts.eq a b) (a ≡ b)
same_programs a b =
    into _ (Decides-and _ _ (Decides-eqb a.parameters b.parameters) (Decides-and _ _ (pointwise_decides same_names a.names b.names)
    (Decides-and _ _ (pointwise_decides same_ranges a.ranges b.ranges) (pointwise_decides same_hops a.hops b.hops))))
    (λ p. program_is a b p.0 p.1.0 p.1.1.0 p.1.1.1)
    (λ e. (ap (λ (p : Program). p.parameters) e, (ap (λ (p : Program). p.names) e, (ap (λ (p : Program). p.ranges) e, ap (λ (p : Program). p.hops) e))))

-- programs under their names
pub same_entries : (a b : List ℕ × Program) → Decides (same_name a.0 b.0 && programs.TheImpl.ghosts.eq a.1 b.1) (a ≡ b)
same_entries a b =
    into _ (Decides-and _ _ (same_names a.0 b.0) (same_programs a.1 b.1))
    (λ p. λ i. (p.0 i, p.1 i))
    (λ e. (ap (λ (x : List ℕ × Program). x.0) e, ap (λ (x : List ℕ × Program). x.1) e))

same_shard : (a b : Shard) → Decides (shards.TheImpl.ghosts.eq a b) (a ≡ b)
same_shard a b =
    into _ (Decides-and _ _ (Decides-eqb a.low b.low) (Decides-and _ _ (Decides-eqb a.high b.high) (Decides-eqb a.server b.server)))
    (λ p. λ i. record { low = p.0 i; high = p.1.0 i; server = p.1.1 i })
    (λ e. (ap (λ (s : Shard). s.low) e, (ap (λ (s : Shard). s.high) e, ap (λ (s : Shard). s.server) e)))

-- the shards of a table
pub same_shard_lists : (a b : List Shard) → Decides (pointwise shards.TheImpl.ghosts.eq a b) (a ≡ b)
same_shard_lists = pointwise_decides same_shard
