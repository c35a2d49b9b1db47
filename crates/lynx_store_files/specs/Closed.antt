-- What becomes of keepers that are let go.
use Rattle.std.specs.Prelude.{◌≡◌, ◌≤◌, ℕ, Bool, true, false, List, length, slice_get, Some}
use Rattle.std.specs.List.{AllByRecursion}
use Rattle.lynx_names.specs.declared.limits.TheConstants.{MAX_SERVERS}

-- each was let go, and that went well
abbrev pub AreClosed : {K : Type 0} → (K → Bool → Type 0) → List K → Type 0
AreClosed Closed keepers = AllByRecursion (λ keeper. Closed keeper true) keepers

-- that of this server was let go, and that failed; of no more than there may be servers
abbrev pub FailsAt : {K : Type 0} → (K → Bool → Type 0) → List K → ℕ → Type 0
FailsAt {K} Closed keepers server =
    length keepers ≤ MAX_SERVERS
    → (keeper : K) × (slice_get keepers server ≡ Some keeper) × Closed keeper false
