-- Marks of the servers that hops visit.
use Rattle.std.proofs.Common.{◌≡◌, ◌∙◌, ◌<◌, ◌+◌, ◌==◌, ◌||◌, ◌∷◌, ℕ, zero, suc, Bool, true, false, cond, filter, List, ap, arith, get_or, inl, inr, length, refl, set, sym, take}
use Rattle.std.proofs.Math.Bool.{or-false, or-true}
use Rattle.std.proofs.lemmas.Bool.Decides.{eqb_tells}
use Rattle.std.proofs.lemmas.Grind.{get_or-set_at}
use Rattle.std.proofs.lemmas.List.{get_or-set_other}
use Rattle.std.proofs.lemmas.List.Folds.{list_any_more}
use Rattle.std.specs.List.{range_with_len}
use Rattle.lynx_names.specs.declared.limits.TheConstants.{MAX_SERVERS}
use Rattle.lynx_names.specs.ServerList.{is_marked, marked_servers}
use Rattle.lynx_set.specs.declared.program.Hop.{Hop}
use Rattle.lynx_set.specs.Set.{Set}
use Rattle.lynx_set.specs.Lookups.{hops_of}
use Rattle.lynx_rules.specs.Visits.{MarksVisits, visited, visits}

-- one more server is marked
marked_more : (marks : List Bool) (at server : ℕ) → at < length marks →
    is_marked (set marks at true) server ≡ (is_marked marks server || (at == server))
marked_more marks at server within =
    elim (eqb_tells at server) [
      | inl same ↦ get_or-set_at marks at server true false (sym same.1) within ∙ sym (or-true (is_marked marks server))
          ∙ ap (λ b. is_marked marks server || b) (sym same.0)
      | inr other ↦ let differs : at ≡ server → ⊥ = other.1 in
          get_or-set_other marks at server true false (λ same. differs (sym same)) ∙ sym (or-false (is_marked marks server))
          ∙ ap (λ b. is_marked marks server || b) (sym other.0)
    ]

-- the server of one more hop is marked
pub visits_more : (hops : List Hop) (i : ℕ) (hop : Hop) (marks : List Bool) (at server : ℕ) → i < length hops → hop ≡ get_or hops i hop →
    at ≡ hop.server → at < length marks → is_marked marks server ≡ visits (take i hops) server →
    is_marked (set marks at true) server ≡ visits (take (i + 1) hops) server
visits_more hops i hop marks at server inside is here within before =
    marked_more marks at server within
    ∙ ap (λ b. b || (at == server)) before
    ∙ ap (λ n. visits (take i hops) server || (n == server)) (here ∙ ap (λ (h : Hop). h.server) is)
    ∙ sym (list_any_more (λ (h : Hop). h.server == server) hops i hop inside)

-- the numbers in a range that pass one of two tests that tell the same of them
filter_alike : (p q : ℕ → Bool) (a n : ℕ) → ((k : ℕ) → k < a + n → p k ≡ q k) → filter p (range_with_len a n) ≡ filter q (range_with_len a n)
filter_alike p q a zero alike = refl
filter_alike p q a (suc n) alike =
    ap (λ b. cond b (a ∷ filter p (range_with_len (a + 1) n)) (filter p (range_with_len (a + 1) n))) (alike a (omega arith))
    ∙ ap (λ rest. cond (q a) (a ∷ rest) rest) (filter_alike p q (a + 1) n (λ k below. alike k (omega (arith, below))))

-- the servers that hops visit are those that are marked for them
pub marked-visited : (set : Set) (program : ℕ) (hops : List Hop) (marks : List Bool) → hops ≡ hops_of set program → MarksVisits hops marks →
    marked_servers marks ≡ visited set program
unfolding visited
marked-visited set program hops marks are marks_visits =
    filter_alike (is_marked marks) (visits hops) 0 MAX_SERVERS marks_visits
    ∙ ap (λ of. filter (visits of) (range_with_len 0 MAX_SERVERS)) are
