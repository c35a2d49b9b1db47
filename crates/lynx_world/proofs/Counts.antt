-- How a count over a server's history grows with one more entry of the list.
use Rattle.std.proofs.Common.{◌≡◌, ◌≢◌, ℕ, ◌+◌, ◌<◌, ◌≤◌, Bool, true, false, cond, List, [], ◌∷◌, ◌++◌, inl, inr, ◌⊎◌, nat_eq, eq-eqb, refl, ap, ◌∙◌, arith}
use Rattle.std.specs.Prelude.{count_by}
use Rattle.std.proofs.lemmas.Bool.{eqb-true}
use Rattle.std.proofs.lemmas.Bool.Decides.{eqb_tells}
use Rattle.std.proofs.lemmas.List.Sums.{sum_by-append}
use Rattle.lynx_entry.specs.declared.entry.Entry.{Entry}
use Rattle.lynx_world.specs.Placed.{Placed}
use Rattle.lynx_world.specs.Worlds.{history_of}
use Rattle.lynx_world.proofs.Histories.{history_of-push}

-- one more where the last entry is of the server and passes the test
pub count-push : (test : Entry → Bool) (server : ℕ) (list : List Placed) (last : Placed) →
    count_by test (history_of server (list ++ last ∷ []))
    ≡ count_by test (history_of server list) + cond (nat_eq last.server server) (cond (test last.entry) 1 0) 0
count-push test server list last =
    ap (count_by test) (history_of-push server list last)
    ∙ sum_by-append (λ entry. cond (test entry) 1 0) (history_of server list) (cond (nat_eq last.server server) (last.entry ∷ []) [])
    ∙ ap (λ n. count_by test (history_of server list) + n) (one (nat_eq last.server server))
  where
    one : (b : Bool) → count_by test (cond b (last.entry ∷ []) []) ≡ cond b (cond (test last.entry) 1 0) 0
    one true = omega arith
    one false = refl

-- a count never falls
pub count-grows : (test : Entry → Bool) (server : ℕ) (list : List Placed) (last : Placed) →
    count_by test (history_of server list) ≤ count_by test (history_of server (list ++ last ∷ []))
count-grows test server list last = omega (arith, count-push test server list last)

-- it rises by one with an entry of the server that passes the test
pub count-here : (test : Entry → Bool) (server : ℕ) (list : List Placed) (last : Placed) → last.server ≡ server → test last.entry ≡ true →
    count_by test (history_of server (list ++ last ∷ [])) ≡ count_by test (history_of server list) + 1
count-here test server list last here passes =
    count-push test server list last
    ∙ ap (λ b. count_by test (history_of server list) + cond b (cond (test last.entry) 1 0) 0) (eq-eqb last.server server here)
    ∙ ap (λ b. count_by test (history_of server list) + cond b 1 0) passes

-- a number below the count was below it before, or the last entry is the one counted with it
pub count-last : (test : Entry → Bool) (server : ℕ) (list : List Placed) (last : Placed) (k : ℕ) →
    k < count_by test (history_of server (list ++ last ∷ [])) →
    (k < count_by test (history_of server list)) ⊎ ((k ≡ count_by test (history_of server list)) × (last.server ≡ server) × (test last.entry ≡ true))
count-last test server list last k below = by (nat_eq last.server server) (test last.entry) refl refl (count-push test server list last)
  where
    by : (b t : Bool) → nat_eq last.server server ≡ b → test last.entry ≡ t →
        count_by test (history_of server (list ++ last ∷ [])) ≡ count_by test (history_of server list) + cond b (cond t 1 0) 0 →
        (k < count_by test (history_of server list)) ⊎ ((k ≡ count_by test (history_of server list)) × (last.server ≡ server) × (test last.entry ≡ true))
    by false t here passes grown = inl (omega arith)
    by true false here passes grown = inl (omega arith)
    by true true here passes grown = elim (eqb_tells k (count_by test (history_of server list))) [
      | inl same ↦ inr (same.1, eqb-true _ _ here, passes)
      | inr differs ↦ let apart : k ≢ count_by test (history_of server list) = differs.1 in inl (omega arith)
    ]
