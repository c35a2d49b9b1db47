-- A legal list by induction on its end, and what each of its entries followed.
use Rattle.std.proofs.Common.{◌≡◌, List, [], ◌∷◌, ◌++◌, inl, inr, ◌⊎◌, append_assoc, sym, ap, ◌∙◌, subst}
use Rattle.std.proofs.lemmas.List.{append-nil}
use Rattle.lynx_set.specs.Set.{Set}
use Rattle.lynx_world.specs.Placed.{Placed}
use Rattle.lynx_world.specs.Legal.{MayFollow, IsLegalAfter, IsLegal}
use Rattle.lynx_world.proofs.LegalSteps.{legal-push}
use Rattle.lynx_world.proofs.Members.{IsIn, in-push}

-- behind a list of which it holds, what stays with each entry that may follow holds of the whole
induction_after : (set : Set) (P : List Placed → Type 0) →
    ((list : List Placed) (placed : Placed) → IsLegal set list → P list → MayFollow set list placed → P (list ++ placed ∷ [])) →
    (before list : List Placed) → IsLegal set before → P before → IsLegalAfter set before list → P (before ++ list)
induction_after set P more before [] was holds legal = subst P (sym (append-nil before)) holds
induction_after set P more before (placed ∷ list) was holds legal =
    subst P (append_assoc before (placed ∷ []) list)
    (induction_after set P more (before ++ placed ∷ []) list (legal-push set before placed was legal.0) (more before placed was holds legal.0) legal.1)

-- what holds of the empty list, and of a legal list with one more entry that may follow, holds of each legal list
pub legal_induction : (set : Set) (P : List Placed → Type 0) → P [] →
    ((list : List Placed) (placed : Placed) → IsLegal set list → P list → MayFollow set list placed → P (list ++ placed ∷ [])) →
    (list : List Placed) → IsLegal set list → P list
legal_induction set P none more list legal = induction_after set P more [] list tt none legal

-- the entries before one of a legal list, after which it might follow, and those behind it
pub record Stands (set : Set) (list : List Placed) (placed : Placed) : Type 0 where
  pub before : List Placed
  pub behind : List Placed
  pub whole : before ++ placed ∷ behind ≡ list
  pub legal : IsLegal set before
  pub may_follow : MayFollow set before placed

-- an entry of a list with one more at its end
stands-push : (set : Set) (list : List Placed) (last placed : Placed) → IsLegal set list → MayFollow set list last →
    (IsIn placed list → Stands set list placed) → IsIn placed list ⊎ (last ≡ placed) → Stands set (list ++ last ∷ []) placed
stands-push set list last placed legal may stood (inl there) =
    let old = stood there in
    record {
      before = old.before;
      behind = old.behind ++ last ∷ [];
      whole = sym (append_assoc old.before (placed ∷ old.behind) (last ∷ [])) ∙ ap (λ l. l ++ last ∷ []) old.whole;
      legal = old.legal;
      may_follow = old.may_follow;
    }
stands-push set list last placed legal may stood (inr same) = record {
  before = list;
  behind = [];
  whole = ap (λ p. list ++ p ∷ []) (sym same);
  legal = legal;
  may_follow = subst (MayFollow set list) same may;
}

-- each entry of a legal list might follow the entries before it
pub stands : (set : Set) (list : List Placed) (placed : Placed) → IsLegal set list → IsIn placed list → Stands set list placed
stands set list placed legal =
    legal_induction set (λ l. IsIn placed l → Stands set l placed) (λ never. absurd never)
    (λ before last was stood may there. stands-push set before last placed was may stood (in-push placed last before there))
    list legal
