-- Acknowledgements that are told one after another.
use Rattle.std.proofs.Common.{◌≡◌, ◌∙◌, ℕ, zero, suc, ◌<◌, cond, nat_eq, List, [], ◌∷◌, ◌++◌, take, drop, length, inl, inr, refl, sym, ap, subst, append_assoc, arith}
use Rattle.lynx_link.specs.EndLists.{EndLists}
use Rattle.lynx_link.specs.declared.parcel.Parcel.TheVariants.{Done}
use Rattle.lynx_worker.specs.declared.steps.Acknowledgement.{Acknowledgement}
use Rattle.lynx_link.specs.declared.parcel.Parcel.{Parcel}
use Rattle.lynx_worker.specs.Sending.{SendsNothing, SendsTo, sent_to}
use Rattle.lynx_worker.specs.Telling.{Tells}

-- one more is told, or stays
more : (acknowledgements : List Acknowledgement) (acknowledgement : Acknowledgement) (old : EndLists) (stay : List Acknowledgement) (mid new : EndLists) → Tells acknowledgements old stay mid →
    (SendsTo mid acknowledgement.to (Done acknowledgement.chain acknowledgement.hop) new → Tells (acknowledgements ++ acknowledgement ∷ []) old stay new)
    × (SendsNothing mid new → Tells (acknowledgements ++ acknowledgement ∷ []) old (stay ++ acknowledgement ∷ []) new)
more [] acknowledgement old stay mid new tells = (
  (λ sends. (new, inl (started sends, (tells.0, λ server. refl)))),
  (λ nothing. (new, inr ((λ server. nothing server ∙ tells.1 server), ([], ap (λ (l : List Acknowledgement). l ++ acknowledgement ∷ []) tells.0, (refl, λ server. refl))))),
)
  where
    started : SendsTo mid acknowledgement.to (Done acknowledgement.chain acknowledgement.hop) new → SendsTo old acknowledgement.to (Done acknowledgement.chain acknowledgement.hop) new
    started sends server = subst (λ (sent : List Parcel). sent_to new server ≡ cond (nat_eq server acknowledgement.to) (sent ++ Done acknowledgement.chain acknowledgement.hop ∷ []) sent)
        (tells.1 server) (sends server)
more (first ∷ acknowledgements) acknowledgement old stay mid new (between, inl (sends, tells)) =
    let rest = more acknowledgements acknowledgement between stay mid new tells in
    ((λ s. (between, inl (sends, rest.0 s))), (λ n. (between, inl (sends, rest.1 n))))
more (first ∷ acknowledgements) acknowledgement old stay mid new (between, inr (nothing, (behind, is, tells))) =
    let rest = more acknowledgements acknowledgement between behind mid new tells in (
      (λ s. (between, inr (nothing, (behind, is, rest.0 s)))),
      (λ n. (between, inr (nothing, (behind ++ acknowledgement ∷ [], ap (λ (l : List Acknowledgement). l ++ acknowledgement ∷ []) is, rest.1 n)))),
    )

-- the next acknowledgement is taken from the front
taken : (all : List Acknowledgement) (i : ℕ) (stay : List Acknowledgement) (acknowledgement : Acknowledgement) (rest : List Acknowledgement) → i < length all →
    acknowledgement ∷ rest ≡ drop i all ++ stay → (rest ≡ drop (suc i) all ++ stay) × (take (suc i) all ≡ take i all ++ acknowledgement ∷ [])
taken [] i stay acknowledgement rest within is = absurd (omega (arith, within))
taken (first ∷ all) zero stay acknowledgement rest within is = (cc, cc)
taken (first ∷ all) (suc i) stay acknowledgement rest within is =
    let found = taken all i stay acknowledgement rest (omega (arith, within)) is in
    (found.0, ap (λ (l : List Acknowledgement). first ∷ l) found.1)

-- a turn of the loop
module _ (all : List Acknowledgement) (i next : ℕ) (stay : List Acknowledgement) (acknowledgement : Acknowledgement) (rest : List Acknowledgement) (old mid new : EndLists) (left : List Acknowledgement)
    (is_next : next ≡ suc i) (within : i < length all) (is : acknowledgement ∷ rest ≡ drop i all ++ stay) (tells : Tells (take i all) old stay mid) where
  split : (rest ≡ drop next all ++ stay) × (take next all ≡ take i all ++ acknowledgement ∷ [])
  split = subst (λ (n : ℕ). (rest ≡ drop n all ++ stay) × (take n all ≡ take i all ++ acknowledgement ∷ [])) (sym is_next) (taken all i stay acknowledgement rest within is)

  pub told : SendsTo mid acknowledgement.to (Done acknowledgement.chain acknowledgement.hop) new → left ≡ rest → (left ≡ drop next all ++ stay) × Tells (take next all) old stay new
  told sends same = (
    same ∙ split.0,
    subst (λ (l : List Acknowledgement). Tells l old stay new) (sym split.1) ((more (take i all) acknowledgement old stay mid new tells).0 sends),
  )

  pub stayed : SendsNothing mid new → left ≡ rest ++ acknowledgement ∷ [] →
      (left ≡ drop next all ++ (stay ++ acknowledgement ∷ [])) × Tells (take next all) old (stay ++ acknowledgement ∷ []) new
  stayed nothing same = (
    same ∙ ap (λ (l : List Acknowledgement). l ++ acknowledgement ∷ []) split.0 ∙ append_assoc (drop next all) stay (acknowledgement ∷ []),
    subst (λ (l : List Acknowledgement). Tells l old (stay ++ acknowledgement ∷ []) new) (sym split.1) ((more (take i all) acknowledgement old stay mid new tells).1 nothing),
  )
