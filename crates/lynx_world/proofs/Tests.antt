-- Tests that went one way.
use Rattle.std.proofs.Common.{◌≡◌, Bool, true, false, not, ◌&&◌, refl}

-- two tests that both pass
pub and-true : (a b : Bool) → a ≡ true → b ≡ true → (a && b) ≡ true
and-true true b one other = other
and-true false b one other = cc

-- no test goes both ways
pub not_both : (b : Bool) → b ≡ true → b ≡ false → ⊥
not_both b is isnt = cc

-- a test whose opposite passes
pub not_true : (b : Bool) → not b ≡ true → b ≡ false
not_true true e = cc
not_true false e = refl
