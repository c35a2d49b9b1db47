-- What raising the counters of a draw does to each counter.
use Rattle.std.proofs.Common.{ℕ, ◌≡◌, ◌<◌, ◌+◌, ◌==◌, ◌||◌, List, [], ◌∷◌, length, All, slice_index, true, false, Bool, if◌then◌else◌, refl, arith, ◌∙◌}
use Rattle.std.proofs.lemmas.List.{length-set}
use Rattle.std.proofs.lemmas.List.Elements.{All-map, All-head, All-tail}
use Rattle.std.proofs.lemmas.Grind.{common_steps}
use Rattle.lynx_names.specs.declared.limits.TheConstants.{MAX_ENTRIES, MAX_SERVERS}
use Rattle.lynx_names.specs.declared.numbers.NumberAt.{NumberAt}
use Rattle.lynx_seq.specs.Counters.{IsNumber, numbers_from, counted, raised, raised_one, has_number}

-- the counters of some servers are numbers
pub numbers_are : (counters visits : List ℕ) (numbers : List NumberAt) → numbers ≡ numbers_from counters visits →
    All (λ server. slice_index counters server < MAX_ENTRIES) visits → All (λ drawn. drawn.server < MAX_SERVERS) numbers →
    All (IsNumber counters) numbers
numbers_are counters visits numbers are small inside k d within =
    let Fits : NumberAt → Type 0 = λ drawn. (drawn.number ≡ slice_index counters drawn.server) × (drawn.number < MAX_ENTRIES) in
    let fitting = All-map Fits (counted counters) visits (λ k d within. (refl, small k d within)) in
    let here = rw (← are) at fitting in
    record { is_next = (here k d within).0; small = (here k d within).1; inside = inside k d within }

-- one counter is one above its base
raised_one_at : (base counters : List ℕ) (drawn : NumberAt) (server : ℕ) →
    drawn.number ≡ slice_index base drawn.server → drawn.server < length counters →
    slice_index (raised_one counters drawn) server ≡ (if drawn.server == server then slice_index base server + 1 else slice_index counters server)
raised_one_at base counters drawn server is_next inside = grind (arith, common_steps, is_next)

two_tests : (this rest : Bool) (more same : ℕ) →
    (if rest then more else (if this then more else same)) ≡ (if this || rest then more else same)
two_tests true true more same = refl
two_tests true false more same = refl
two_tests false true more same = refl
two_tests false false more same = refl

raised_from : (base counters : List ℕ) (numbers : List NumberAt) (server : ℕ) → length counters ≡ MAX_SERVERS →
    All (IsNumber base) numbers →
    slice_index (raised numbers counters) server ≡ (if has_number numbers server then slice_index base server + 1 else slice_index counters server)
raised_from base counters [] server room all = refl
raised_from base counters (drawn ∷ numbers) server room all =
    let first : IsNumber base drawn = All-head (IsNumber base) drawn numbers all in
    let rest : All (IsNumber base) numbers = All-tail (IsNumber base) drawn numbers all in
    rw (
      raised_from base (raised_one counters drawn) numbers server (length-set counters drawn.server (drawn.number + 1) ∙ room) rest,
      raised_one_at base counters drawn server first.is_next (rw room first.inside),
    )
    (two_tests (drawn.server == server) (has_number numbers server) _ _)

-- Each counter of a draw is one more, and each other counter stays.
pub raised_at : (counters : List ℕ) (numbers : List NumberAt) (server : ℕ) → length counters ≡ MAX_SERVERS →
    All (IsNumber counters) numbers →
    slice_index (raised numbers counters) server ≡ (if has_number numbers server then slice_index counters server + 1 else slice_index counters server)
raised_at counters numbers server room all = raised_from counters counters numbers server room all
