-- What is told of kept cells that aren't those of the kept entries.
use Rattle.std.proofs.Common.{◌≡◌, ◌∙◌, ◌↔◌, ℕ, Bool, false, IsTrue, length, inl, inr, refl, sym, ap, subst}
use Rattle.lynx_cells.specs.Database.{Database}
use Rattle.lynx_set.specs.Set.{Set}
use Rattle.lynx_entry.specs.Entry.{History}
use Rattle.lynx_keep.specs.Kept.{KeptState}
use Rattle.lynx_rules.specs.Tables.{tables_of}
use Rattle.lynx_server.specs.History.{IsLawfulHistory}
use Rattle.lynx_server.specs.Keeping.{kept_of}
use Rattle.lynx_server.specs.Opening.{HasOtherCells, IsDamaged}
use Rattle.lynx_server.specs.Serving.{Serving}
use Rattle.lynx_server.specs.inner.Repeating.{IsReplayed}
use Rattle.lynx_server.proofs.InHistory.{lawful_in}

pub other_cells : {K : Type 0} (set : Set) (server : ℕ) (entries : History) (cells : Database) (kept : KeptState) (replayed : Serving K) (found : Database) (same : Bool) (place : ℕ) →
    IsReplayed set server entries replayed → entries ≡ kept.entries → cells ≡ kept.cells → found ≡ tables_of replayed.set replayed.history →
    (IsTrue same ↔ (found ≡ cells)) → same ≡ false → place ≡ length entries → HasOtherCells set server kept place
other_cells set server entries cells kept replayed found same place is entries_are cells_are found_is tells differ place_is = record {
  lawful = subst (IsLawfulHistory set server) entries_are is.lawful;
  place_is = place_is ∙ ap length entries_are;
  cells_differ = λ theirs.
      let tables : tables_of replayed.set replayed.history ≡ tables_of set kept.entries =
      ap (λ s. tables_of s replayed.history) is.set_is ∙ ap (tables_of set) (is.history_is ∙ entries_are) in
      never (tells.1 (found_is ∙ tables ∙ sym theirs ∙ sym cells_are));
}
  where
    never : IsTrue same → ⊥
    never same_is = let no = sym differ ∙ same_is in cc

-- what a server keeps is never damaged
pub never_damaged : (set : Set) (server : ℕ) (history : History) (place : ℕ) → IsLawfulHistory set server history →
    IsDamaged set server (kept_of set history) place → ⊥
never_damaged set server history place lawful (inl first) =
    first.unlawful (lawful_in set server history place first.entry lawful first.there)
never_damaged set server history place lawful (inr others) = others.cells_differ refl
