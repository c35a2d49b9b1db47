-- What a change of a set costs.
use Rattle.std.specs.Prelude.{ℕ, ◌==◌, if◌then◌else◌}
use Rattle.lynx_mend.specs.declared.change.Change.{Change}
use Rattle.lynx_mend.specs.declared.change.Change.TheVariants as changes

-- a change of the order that keeps the server costs more than one that changes it
abbrev pub order_cost : ℕ → ℕ → ℕ
order_cost before server = if before == server then 21 else 20

abbrev pub cost_of : Change → ℕ
cost_of (changes.Order program hop place before server) = order_cost before server
cost_of (changes.Turn program server table key) = 30
cost_of (changes.Drop program hop action) = 30
cost_of (changes.Decide server programs tables moved) = 40
cost_of (changes.Cut program hop) = 50
cost_of (changes.Range program parameter interval other other_parameter other_interval) = 60
cost_of (changes.Leave program) = 80
