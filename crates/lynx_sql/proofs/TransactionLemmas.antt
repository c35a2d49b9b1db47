-- What the commit of a transaction keeps, and what a stop leaves.
use Rattle.std.proofs.Common.{◌≡◌, ◌⊎◌, true, false, sym, subst, arith}
use Rattle.sqlite.specs.Tree.{Trees}
use Rattle.sqlite.specs.Store.{Ghosts}
use Rattle.sqlite.specs.Held.{Held, state}
use Rattle.sqlite.specs.State.{State, HasCleanDisk, Shows, Survives}
use Rattle.sqlite.proofs.StateLemmas.{survives_then}
use Rattle.sqlite.proofs.Callers.{survives_begin}
use Rattle.lynx_sql.specs.Acts.{version_of}
use Rattle.lynx_sql.specs.Contents.{Contents}
use Rattle.lynx_sql.specs.Tables.{store_schema}
use Rattle.lynx_sql.specs.Steps.{Holds, Keeps}
use Rattle.lynx_sql.proofs.CommitLemmas.{kept_after}

pub clean_before : (a b : State) (P : Trees → Type 0) → Survives a b P → HasCleanDisk b → HasCleanDisk a
clean_before a b P step clean = omega (arith, step.clean)

-- what commits nothing, twice
pub survives_both : (a b c : State) → Survives a b (λ _. ⊥) → Survives b c (λ _. ⊥) → Survives a c (λ _. ⊥)
survives_both a b c = survives_then a b c _ _ (λ _. ⊥) (λ _ db none. none) (λ _ db none. none)

-- The transaction sees a store that holds this.
abbrev pub HasMade : State → Contents → Type 0
HasMade last contents = Holds last.now.trees contents × (last.now.schema ≡ store_schema (version_of contents.acted))

module _ {S : Type 0} (g : Ghosts S) (old tx last end given : Held S) (begun : tx ≡ record old { in_transaction = true }) (same : end ≡ given) (contents : Contents)
    (made : HasMade (state g last) contents) where
  pub committed : Shows (state g last) (state g end) (state g last).now (state g last).now false → Keeps (state g given) contents
  committed shown = subst (λ h. Keeps (state g h) contents) same (kept_after (state g last) (state g end) contents shown made)

  pub stopped : Survives (state g tx) (state g last) (λ _. ⊥) → Survives (state g last) (state g end) (λ db. db ≡ (state g last).now.trees)
      → HasCleanDisk (state g given) → (db : Trees) → (state g given).may_leave db → (state g old).may_leave db ⊎ Holds db contents
  stopped inside commit =
      let P = λ (trees : Trees). Holds trees contents in
      let whole = survives_then (state g old) (state g last) (state g end) _ _ P (λ _ db none. absurd none) (λ _ db is. subst P (sym is) made.0)
      (survives_begin g old (state g last) _ (rw begun at inside)) commit in
      (subst (λ h. Survives (state g old) (state g h) P) same whole).crash
