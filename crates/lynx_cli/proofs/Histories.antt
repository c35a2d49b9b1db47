-- What the stores in a folder kept, by servers that were opened over copies of them.
use Rattle.std.proofs.Common.{◌≡◌, ◌∙◌, ◌<◌, ℕ, List, Some, ap, arith, length, slice_get, subst}
use Rattle.std.specs.Prelude.{IfSome}
use Rattle.std.proofs.lemmas.Option.{slice_get_within}
use Rattle.sqlite.specs.State.{State}
use Rattle.lynx_entry.specs.Entry.{History}
use Rattle.lynx_keep.specs.Kept.{KeptState, Terms}
use Rattle.lynx_server.specs.History.{IsLawfulHistory}
use Rattle.lynx_server.specs.Keeping.{kept_of}
use Rattle.lynx_set.specs.Set.{Set}
use Rattle.lynx_store.specs.Premise.{IsUndisturbed}
use Rattle.lynx_store.specs.Stored.{IsKept, Owner}
use Rattle.lynx_store_files.specs.Paths.{store_path}
use Rattle.lynx_audit.specs.Audits.{AreOpenedTo}
use Rattle.lynx_cli.specs.Copied.{AreHistoriesIn, IsCopiedAt}
use Rattle.lynx_cli.proofs.Placing.{there}

-- The histories to which servers open over stores that were opened over copies, whatever the terms of these stores are, where they
-- say of each what its owner and its count say.
pub histories_are : {C K : Type 0} (copied_from : List ℕ → C → Type 0) (state_of : C → State) (folder : List ℕ) (set : Set) (terms : Terms K)
    (now : K → C) (owner : K → Owner) (count : K → ℕ) →
    ((keeper : K) → IsUndisturbed (state_of (now keeper)) → terms.sound keeper) → ((keeper : K) → terms.sound keeper → IsUndisturbed (state_of (now keeper))) →
    ((keeper : K) (kept : KeptState) → IsKept (state_of (now keeper)) (owner keeper) (count keeper) kept → terms.keeps keeper kept) →
    (keepers : List K) (histories : List History) → length keepers ≡ set.servers →
    ((server : ℕ) → IfSome (slice_get keepers server) (λ keeper. IsCopiedAt copied_from state_of set server (store_path folder server) (now keeper) (owner keeper) (count keeper))) →
    AreOpenedTo terms set keepers histories → AreHistoriesIn copied_from state_of folder set histories
histories_are copied_from state_of folder set terms now owner count sound undisturbed keeps keepers histories many copies are = record {
  many = are.many;
  each = λ server history at.
      let place = there keepers server (omega (arith, slice_get_within histories server history at, are.many, many)) in
      let keeper = place.0 in
      let copied : IsCopiedAt copied_from state_of set server (store_path folder server) (now keeper) (owner keeper) (count keeper) =
      subst (λ found. IfSome found (λ one. IsCopiedAt copied_from state_of set server (store_path folder server) (now one) (owner one) (count one))) place.1 (copies server) in
      let to = are.each server keeper history place.1 at in
      record {
        copy = copied.copy;
        from = copied.from;
        read = now to.here.keeper;
        all = λ fine before kept was.
            let believed = sound to.here.keeper fine in
            let then = copied.keeps (undisturbed keeper (to.opened.finds.read.sound_before believed)) before kept was in
            to.opened.finds.all believed kept (keeps keeper kept then) ∙ ap (kept_of set) to.history_is;
        lawful = subst (IsLawfulHistory set server) to.history_is to.opened.lawful;
      };
}
