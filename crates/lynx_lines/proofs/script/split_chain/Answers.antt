use Rattle.std.proofs.Common.{◌≡◌, ◌+◌, List, ℕ, [], ◌∷◌, take, drop, Option, Some, None, refl, sym, ap, ◌∙◌}
use Rattle.std.proofs.lemmas.List.{take_rest}
use Rattle.std.specs.Prelude.{position}
use Rattle.std.specs.List.{slice_split}
use Rattle.lynx_lex.proofs.WordLaws.{split_found, split_none}
use Rattle.lynx_lines.specs.Scripts.{is_colon}
use Rattle.lynx_lines.proofs.script.split_chain.Goals as goal

one_piece : {a b c : List ℕ} → a ∷ [] ≡ b ∷ c ∷ [] → ⊥
one_piece e = cc

-- a second colon makes a third piece
third : (word : List ℕ) (i j : ℕ) (a b : List ℕ) → position is_colon word ≡ Some i → position is_colon (drop (i + 1) word) ≡ Some j → slice_split is_colon word ≡ a ∷ b ∷ [] → ⊥
third word i j a b first second is = differ (sym (split_found is_colon word i first ∙ ap (λ (ps : List (List ℕ)). take i word ∷ ps) (split_found is_colon (drop (i + 1) word) j second)) ∙ is)
  where
    pieces : (ps : List (List ℕ)) → take i word ∷ take j (drop (i + 1) word) ∷ ps ≡ a ∷ b ∷ [] → ((ps ≡ []) → ⊥) → ⊥
    pieces ps e h = h cc

    no_piece : {x : List ℕ} {xs : List (List ℕ)} → x ∷ xs ≡ [] → ⊥
    no_piece f = cc

    by : (rest : List ℕ) (o : Option ℕ) → position is_colon rest ≡ o → slice_split is_colon rest ≡ [] → ⊥
    by rest None at e = no_piece (sym (split_none is_colon rest at) ∙ e)
    by rest (Some k) at e = no_piece (sym (split_found is_colon rest k at) ∙ e)

    filled : (rest : List ℕ) → slice_split is_colon rest ≡ [] → ⊥
    filled rest e = by rest (position is_colon rest) refl e

    differ : take i word ∷ take j (drop (i + 1) word) ∷ slice_split is_colon (drop (j + 1) (drop (i + 1) word)) ≡ a ∷ b ∷ [] → ⊥
    differ e = pieces (slice_split is_colon (drop (j + 1) (drop (i + 1) word))) e (filled (drop (j + 1) (drop (i + 1) word)))

pub returns-in_err-colon-clause-none : goal.returns-in_err-colon-clause-none
returns-in_err-colon-clause-none c =
    rw c.from_residual.ensures (λ origin index is. one_piece (sym (split_none is_colon c.args.word.now (sym c.in_err-colon.ensures.place)) ∙ is))

pub returns-in-Some-clause-none : goal.returns-in-Some-clause-none
returns-in-Some-clause-none c = λ origin index is.
    third c.args.word.now c.in_ok-colon.colon c.in-Some.field-0 origin index (sym c.in_ok-colon.ensures.place)
    (ap (position is_colon) (sym (take_rest c.args.word.now (c.in_ok-colon.colon + 1))) ∙ sym c.in-Some.ensures.place) is

pub returns-in-None-clause-found : goal.returns-in-None-clause-found
returns-in-None-clause-found c =
    split_found is_colon c.args.word.now c.in_ok-colon.colon (sym c.in_ok-colon.ensures.place)
    ∙ ap (λ (ps : List (List ℕ)). take c.in_ok-colon.colon c.args.word.now ∷ ps)
    (ap (slice_split is_colon) (sym (take_rest c.args.word.now (c.in_ok-colon.colon + 1))) ∙ split_none is_colon _ (sym c.in-None.ensures.place))
