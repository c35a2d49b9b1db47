-- The servers that a program visits: no more than it has hops, and each above the one before.
use Rattle.std.proofs.Common.{◌≡◌, ℕ, zero, suc, ◌+◌, ◌<◌, ◌≤◌, ◌==◌, ◌||◌, Bool, true, false, cond, List, [], ◌∷◌, map, filter, length, Option, Some, None, refl, sym, ap, ◌∙◌, subst, inl, inr, arith}
use Rattle.std.specs.Prelude.{option_map, unwrap_or}
use Rattle.std.specs.List.{range_with_len}
use Rattle.std.proofs.lemmas.Bool.Decides.{eqb_tells}
use Rattle.lynx_names.specs.declared.limits.TheConstants.{MAX_SERVERS, MAX_HOPS}
use Rattle.lynx_names.specs.declared.numbers.NumberAt.{NumberAt}
use Rattle.lynx_set.specs.declared.program.Hop.{Hop}
use Rattle.lynx_set.specs.declared.program.Program.{Program}
use Rattle.lynx_set.specs.Set.{Set}
use Rattle.lynx_set.specs.Lookups.{hops_of, program_at}
use Rattle.lynx_rules.specs.Visits.{visits, visited}
use Rattle.lynx_codec.specs.Ranges.{Rise, HaveOrder}

-- one more number before those that pass one test or the other
one_more : (a b : Bool) (x : ℕ) (either one other : List ℕ) → length either ≤ length one + length other →
    length (cond (a || b) (x ∷ either) either) ≤ length (cond a (x ∷ one) one) + length (cond b (x ∷ other) other)
one_more true true x either one other few = omega (arith, few)
one_more true false x either one other few = omega (arith, few)
one_more false true x either one other few = omega (arith, few)
one_more false false x either one other few = few

-- what passes one test or the other
pass_either : (one other : ℕ → Bool) (xs : List ℕ) →
    length (filter (λ x. one x || other x) xs) ≤ length (filter one xs) + length (filter other xs)
pass_either one other [] = omega arith
pass_either one other (x ∷ xs) = one_more (one x) (other x) x _ _ _ (pass_either one other xs)

-- a number is not among greater ones
none_above : (k a n : ℕ) → k < a → length (filter (λ x. k == x) (range_with_len a n)) ≡ 0
none_above k a zero below = refl
none_above k a (suc n) below =
    let rest : List ℕ = filter (λ x. k == x) (range_with_len (a + 1) n) in
    elim (eqb_tells k a) [
      | inl same ↦ absurd (omega (arith, same.1, below))
      | inr other ↦ ap (λ b. length (cond b (a ∷ rest) rest)) other.0 ∙ none_above k (a + 1) n (omega (arith, below))
    ]

-- a number is once at most among rising ones
once : (k a n : ℕ) → length (filter (λ x. k == x) (range_with_len a n)) ≤ 1
once k a zero = omega arith
once k a (suc n) =
    let rest : List ℕ = filter (λ x. k == x) (range_with_len (a + 1) n) in
    elim (eqb_tells k a) [
      | inl same ↦
          let alone : length rest ≡ 0 = none_above k (a + 1) n (omega (arith, same.1)) in
          let one : length (filter (λ x. k == x) (range_with_len a (suc n))) ≡ length (a ∷ rest) =
          ap (λ b. length (cond b (a ∷ rest) rest)) same.0 in
          omega (arith, one, alone)
      | inr other ↦
          let less : length (filter (λ x. k == x) (range_with_len a (suc n))) ≡ length rest =
          ap (λ b. length (cond b (a ∷ rest) rest)) other.0 in
          omega (arith, less, once k (a + 1) n)
    ]

none_pass : (xs : List ℕ) → length (filter (λ x. visits [] x) xs) ≡ 0
none_pass [] = refl
none_pass (x ∷ xs) = none_pass xs

-- some hops are at no more servers than they are
few_servers : (hops : List Hop) (a n : ℕ) →
    length (filter (λ server. visits hops server) (range_with_len a n)) ≤ length hops
few_servers [] a n = omega (arith, none_pass (range_with_len a n))
few_servers (hop ∷ hops) a n =
    let either : length (filter (λ server. visits (hop ∷ hops) server) (range_with_len a n))
    ≤ length (filter (λ server. hop.server == server) (range_with_len a n))
    + length (filter (λ server. visits hops server) (range_with_len a n)) =
    pass_either (λ server. hop.server == server) (λ server. visits hops server) (range_with_len a n) in
    omega (arith, either, once hop.server a n, few_servers hops a n)

kept_some : (b : Bool) (x : ℕ) (xs : List ℕ) → 1 ≤ length xs → 1 ≤ length (cond b (x ∷ xs) xs)
kept_some true x xs some = omega arith
kept_some false x xs some = some

-- where a number of a range passes, some do
some_pass : (test : ℕ → Bool) (n a k : ℕ) → a ≤ k → k < a + n → test k ≡ true → 1 ≤ length (filter test (range_with_len a n))
some_pass test zero a k from below passes = absurd (omega (arith, from, below))
some_pass test (suc n) a k from below passes =
    let rest : List ℕ = filter test (range_with_len (a + 1) n) in
    elim (eqb_tells a k) [
      | inl same ↦
          subst (λ b. 1 ≤ length (cond b (a ∷ rest) rest)) (sym (ap test same.1 ∙ passes)) (omega arith)
      | inr other ↦
          let differs : a ≡ k → ⊥ = other.1 in
          kept_some (test a) a rest (some_pass test n (a + 1) k (grind (arith, differs, from)) (omega (arith, below)) passes)
    ]

-- the servers of a chain's numbers
abbrev pub servers : List NumberAt → List ℕ
servers numbers = map (λ n. n.server) numbers

rise_step : (a n least : ℕ) (rest : List ℕ) (numbers : List NumberAt) (b : Bool) →
    ((low : ℕ) (others : List NumberAt) → low ≤ a + 1 → servers others ≡ rest → Rise low others) →
    least ≤ a → servers numbers ≡ cond b (a ∷ rest) rest → Rise least numbers
rise_step a n least rest numbers false more low is = more least numbers (omega (arith, low)) is
rise_step a n least rest [] true more low is = tt
rise_step a n least rest (first ∷ others) true more low is =
    let here : first.server ≡ a = cc in
    let behind : servers others ≡ rest = cc in
    (omega (arith, low, here), more (suc first.server) others (omega (arith, here)) behind)

-- numbers for servers of a range, each once and in order, rise
rises : (test : ℕ → Bool) (n a least : ℕ) (numbers : List NumberAt) → least ≤ a →
    servers numbers ≡ filter test (range_with_len a n) → Rise least numbers
rises test zero a least [] low is = tt
rises test zero a least (first ∷ others) low is = cc
rises test (suc n) a least numbers low is =
    rise_step a n least (filter test (range_with_len (a + 1) n)) numbers (test a) (rises test n (a + 1)) low is

length-servers : (numbers : List NumberAt) → length (servers numbers) ≡ length numbers
length-servers [] = refl
length-servers (first ∷ others) = ap suc (length-servers others)

-- a program has few hops
pub few_hops : (set : Set) (program : ℕ) → length (hops_of set program) ≤ MAX_HOPS
few_hops set program = by (program_at set program)
  where
    by : (o : Option Program) → length (unwrap_or (option_map (λ (found : Program). found.hops) o) []) ≤ MAX_HOPS
    by None = omega arith
    by (Some found) = found.few_hops

-- The numbers of a chain for the servers that its program visits, if it visits one, are in order.
pub have_order : (set : Set) (program server : ℕ) (numbers : List NumberAt) → server < MAX_SERVERS →
    visits (hops_of set program) server ≡ true → servers numbers ≡ visited set program → HaveOrder numbers
unfolding visited
have_order set program server numbers within there is =
    let counted : length numbers ≡ length (visited set program) = sym (length-servers numbers) ∙ ap length is in
    let some : 1 ≤ length (visited set program) =
    some_pass (λ s. visits (hops_of set program) s) MAX_SERVERS 0 server (omega arith) (omega (arith, within)) there in
    let few : length (visited set program) ≤ length (hops_of set program) = few_servers (hops_of set program) 0 MAX_SERVERS in (
      omega (arith, counted, some),
      omega (arith, counted, few, few_hops set program),
      rises (λ s. visits (hops_of set program) s) MAX_SERVERS 0 0 numbers (omega arith) is,
    )
