-- Each value passes the test of being like itself.
use Rattle.std.proofs.Common.{◌≡◌, ℕ, Bool, true, List, [], ◌∷◌, nat_eq, eq-eqb, refl}
use Rattle.std.specs.Cmp.Lexicographic.{pointwise}
use Rattle.lynx_entry.specs.declared.message.Message.{Message}
use Rattle.lynx_names.specs.declared.numbers.NumberAt.{NumberAt}
use Rattle.lynx_rules.specs.Checks.{same_numbers}
use Rattle.lynx_rules.specs.Deliveries.{same_message}
use Rattle.lynx_world.proofs.Once.{same_chain-self}
use Rattle.lynx_world.proofs.Tests.{and-true}

-- a list is like itself, where each of its values is
pub pointwise-self : {X : Type 0} (alike : X → X → Bool) → ((x : X) → alike x x ≡ true) → (xs : List X) → pointwise alike xs xs ≡ true
pointwise-self alike self [] = refl
pointwise-self alike self (x ∷ xs) = and-true _ _ (self x) (pointwise-self alike self xs)

-- a number is the same as itself
pub nat-self : (n : ℕ) → nat_eq n n ≡ true
nat-self n = eq-eqb n n refl

-- a chain's numbers are the same as themselves
pub numbers-self : (numbers : List NumberAt) → same_numbers numbers numbers ≡ true
numbers-self numbers = pointwise-self _ (λ n. and-true _ _ (nat-self n.server) (nat-self n.number)) numbers

-- a message is the same as itself
pub same_message-self : (message : Message) → same_message message message ≡ true
same_message-self message =
    let hop = and-true _ _ (same_chain-self message.chain) (nat-self message.hop) in
    let program = and-true _ _ hop (nat-self message.program) in
    let stamp = and-true _ _ program (nat-self message.stamp) in
    let args = and-true _ _ stamp (pointwise-self nat_eq nat-self message.args) in
    let numbers = and-true _ _ args (numbers-self message.numbers) in
    and-true _ _ numbers (pointwise-self (pointwise nat_eq) (pointwise-self nat_eq nat-self) message.results)
