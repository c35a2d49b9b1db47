-- What a chain's last entry tells, entry by entry.
use Rattle.std.proofs.Common.{◌≡◌, ℕ, zero, suc, ◌+◌, Bool, true, false, cond, ◌&&◌, ◌==◌, List, [], ◌∷◌, take, Option, Some, None, add-one, refl, sym, ap, ◌∙◌, Less, Equal, Greater}
use Rattle.std.specs.BTreeMap.{is_at}
use Rattle.std.specs.Cmp.{unsigned_tied}
use Rattle.std.specs.Option.{option_or}
use Rattle.std.specs.Ordering.{is_eq, nat_cmp, ordering_then}
use Rattle.std.specs.declared.cmp.Ordering.{Ordering}
use Rattle.lynx_names.specs.declared.chain.ChainId.{ChainId}
use Rattle.lynx_entry.specs.declared.entry.Entry.{Entry}
use Rattle.lynx_rules.specs.Deliveries.{same_chain}
use Rattle.lynx_world.specs.Placed.{Placed}
use Rattle.lynx_report.specs.Lasts.{last_of, told_at, told_of}
use Rattle.lynx_report.specs.Owed.{chain_cmp}

pub or-none : {X : Type 0} (o : Option X) → option_or o None ≡ o
or-none None = refl
or-none (Some x) = refl

or-or : {X : Type 0} (a b c : Option X) → option_or (option_or a b) c ≡ option_or a (option_or b c)
or-or None b c = refl
or-or (Some x) b c = refl

-- ---- one more entry

more : {X : Type 0} (tells : Entry → Option (ChainId × X)) (list : List Placed) (place : ℕ) (chain : ChainId) →
    last_of tells (take (suc place) list) chain ≡ option_or (told_of chain (told_at tells list place)) (last_of tells (take place list) chain)
more tells [] zero chain = refl
more tells [] (suc place) chain = refl
more tells (placed ∷ list) zero chain = sym (or-none (told_of chain (tells placed.entry)))
more tells (placed ∷ list) (suc place) chain =
    ap (λ o. option_or o (told_of chain (tells placed.entry))) (more tells list place chain)
    ∙ or-or (told_of chain (told_at tells list place)) (last_of tells (take place list) chain) (told_of chain (tells placed.entry))

pub last_of-more : {X : Type 0} (tells : Entry → Option (ChainId × X)) (list : List Placed) (place : ℕ) (chain : ChainId) →
    last_of tells (take (place + 1) list) chain ≡ option_or (told_of chain (told_at tells list place)) (last_of tells (take place list) chain)
last_of-more tells list place chain = ap (λ n. last_of tells (take n list) chain) (add-one place) ∙ more tells list place chain

-- ---- a chain that is noted

then_tied : (r t : Ordering) → is_eq (ordering_then r t) ≡ (is_eq r && is_eq t)
then_tied Less t = refl
then_tied Equal t = refl
then_tied Greater t = refl

-- chains tie where they are the same
pub tied_chains : (one other : ChainId) → is_at (chain_cmp one) other ≡ same_chain one other
tied_chains one other =
    then_tied (nat_cmp one.origin other.origin) (nat_cmp one.index other.index)
    ∙ ap (λ t. t && is_eq (nat_cmp one.index other.index)) (unsigned_tied one.origin other.origin)
    ∙ ap (λ t. (one.origin == other.origin) && t) (unsigned_tied one.index other.index)

-- what is found of a chain where one was noted
pub found_told : {X : Type 0} (key chain : ChainId) (told : X) (old new : Option X) → new ≡ cond (is_at (chain_cmp key) chain) (Some told) old →
    new ≡ option_or (told_of chain (Some (key, told))) old
found_told key chain told old new is = is ∙ ap (λ b. cond b (Some told) old) (tied_chains key chain) ∙ by (same_chain key chain)
  where
    by : (b : Bool) → cond b (Some told) old ≡ option_or (cond b (Some told) None) old
    by true = refl
    by false = refl
