-- Keepers that are read one after another.
use Rattle.std.proofs.Common.{◌≡◌, ◌≢◌, ◌∙◌, ℕ, ◌+◌, ◌<◌, ◌≤◌, length, List, [], ◌∷◌, ◌++◌, slice_get, slice_set, get_or, Some, Result, Ok, Err, inl, inr, refl, sym, ap, subst, arith}
use Rattle.std.proofs.lemmas.Bool.{cases_lt}
use Rattle.std.proofs.lemmas.Bool.Decides.{eqb_tells}
use Rattle.std.proofs.lemmas.List.{length-append, length-set}
use Rattle.std.proofs.lemmas.Option.{slice_get_within, slice_get-get_or}
use Rattle.std.specs.Global.{Vec}
use Rattle.std.specs.Result.{IsErrAnd}
use Rattle.lynx_entry.specs.declared.entry.Entry.{Entry}
use Rattle.lynx_entry.specs.Entry.{History}
use Rattle.lynx_keep.specs.Kept.{KeptState, Terms}
use Rattle.lynx_keep.specs.declared.fault.KeepFault.{KeepFault}
use Rattle.lynx_keep.specs.declared.fault.KeepFault.TheVariants as keep
use Rattle.lynx_server.specs.Opening.{FindsNoRoom, IsRead}
use Rattle.lynx_server.proofs.Chains.{get_before, get_last}
use Rattle.lynx_weave.specs.declared.gather_fault.GatherFault.{GatherFault}
use Rattle.lynx_weave.specs.declared.gather_fault.GatherFault.TheVariants.{Memory}
use Rattle.lynx_weave.specs.Gathering.{Each, FindsAll, FindsHistory}
use Rattle.lynx_weave.specs.inner.Loading.{Loads, LoadsAll, fault_of}
use Rattle.lynx_weave.proofs.Merging.{put_same, put_other}

-- between two calls a stop leaves what is kept
abbrev pub IsSettled : {K : Type 0} → Terms K → Type 0
IsSettled {K} terms = (keeper : K) (kept : KeptState) → terms.sound keeper → terms.keeps keeper kept → terms.leaves keeper kept kept

-- the keepers of the servers below this number were read, and the others weren't touched
pub record FindsBelow {K : Type 0} (terms : Terms K) (old now : List K) (number : ℕ) (histories : List History) : Type 0 where
  pub many : length histories ≡ number
  pub same : length now ≡ length old
  pub below : (server : ℕ) (before after : K) (history : History) → slice_get old server ≡ Some before →
      slice_get now server ≡ Some after → slice_get histories server ≡ Some history → FindsHistory terms before after history
  pub others : (server : ℕ) → number ≤ server → slice_get now server ≡ slice_get old server

pub finds_none : {K : Type 0} (terms : Terms K) (old : List K) → FindsBelow terms old old 0 []
finds_none terms old = record {
  many = refl;
  same = refl;
  below = λ server before after history was is there. cc;
  others = λ server past. refl;
}

pub untouched : {K : Type 0} (terms : Terms K) (keeper : K) → IsSettled terms → FindsNoRoom terms keeper keeper
untouched terms keeper settled = record {
  read = record { sound_before = λ sound. sound; stop = λ sound kept keeps. settled keeper kept sound keeps; counts = omega arith };
  keeps_on = λ sound kept keeps. keeps;
}

pub kept_on : {K : Type 0} (terms : Terms K) (before after : K) (history : History) → FindsHistory terms before after history → FindsNoRoom terms before after
kept_on terms before after history is = record {
  read = is.finds.read;
  keeps_on = λ sound kept keeps. subst (terms.keeps after) (sym (is.finds.all sound kept keeps)) (is.finds.kept sound);
}

-- what holds of each keeper that was read, and of each that wasn't touched, holds of all
pub each_now : {K : Type 0} (terms : Terms K) (holds : K → K → Type 0) (old now : List K) (number : ℕ) (histories : List History) →
    FindsBelow terms old now number histories →
    ((before after : K) (history : History) → FindsHistory terms before after history → holds before after) → ((keeper : K) → holds keeper keeper) →
    Each holds old now
each_now {K} terms holds old now number histories finds read same server before after was is =
    elim (cases_lt server number) [
      | inl below ↦
          let within : server < length histories = let many = finds.many in omega (arith, many, below) in
          read before after (get_or histories server []) (finds.below server before after (get_or histories server []) was is (slice_get-get_or histories server [] within))
      | inr past ↦
          let alike : before ≡ after = let at = sym was ∙ sym (finds.others server past) ∙ is in cc in
          subst (λ (k : K). holds before k) alike (same before)
    ]

-- .. and of all but the one that is put
pub elsewhere : {K : Type 0} (terms : Terms K) (holds : K → K → Type 0) (old now : List K) (number : ℕ) (histories : List History) (new : K) →
    FindsBelow terms old now number histories →
    ((before after : K) (history : History) → FindsHistory terms before after history → holds before after) → ((keeper : K) → holds keeper keeper) →
    (server : ℕ) (before after : K) → server ≢ number → slice_get old server ≡ Some before →
    slice_get (slice_set now number new) server ≡ Some after → holds before after
elsewhere terms holds old now number histories new finds read same server before after other was is =
    each_now terms holds old now number histories finds read same server before after was (sym (put_other now number server new other) ∙ is)

-- .. and of that too, where it holds of it
pub each_put : {K : Type 0} (terms : Terms K) (holds : K → K → Type 0) (old now : List K) (number : ℕ) (histories : List History) (current new : K) →
    FindsBelow terms old now number histories → slice_get now number ≡ Some current →
    ((before after : K) (history : History) → FindsHistory terms before after history → holds before after) → ((keeper : K) → holds keeper keeper) →
    holds current new → Each holds old (slice_set now number new)
each_put {K} terms holds old now number histories current new finds there read same put server before after was is =
    elim (eqb_tells server number) [
      | inl equal ↦
          let here = equal.1 in
          let put_is : slice_get (slice_set now number new) server ≡ Some new = ap (slice_get (slice_set now number new)) here ∙ put_same now number current new there in
          let after_is : new ≡ after = let at = sym put_is ∙ is in cc in
          let before_is : current ≡ before = let at = sym there ∙ finds.others number (omega arith) ∙ ap (slice_get old) (sym here) ∙ was in cc in
          subst (λ (k : K). holds before k) after_is (subst (λ (k : K). holds k new) before_is put)
      | inr unequal ↦ elsewhere terms holds old now number histories new finds read same server before after unequal.1 was is
    ]

-- the keeper that is put was read
pub finds_more : {K : Type 0} (terms : Terms K) (old now : List K) (number : ℕ) (histories : List History) (current new : K) (history : History) →
    FindsBelow terms old now number histories → slice_get now number ≡ Some current → FindsHistory terms current new history →
    FindsBelow terms old (slice_set now number new) (number + 1) (histories ++ history ∷ [])
finds_more {K} terms old now number histories current new history finds there found = record {
  many = let many = finds.many in let more = length-append histories (history ∷ []) in omega (arith, many, more);
  same = length-set now number new ∙ finds.same;
  below = λ server before after read was is at. elim (eqb_tells server number) [
    | inl equal ↦
        let here = equal.1 in
        let put_is : slice_get (slice_set now number new) server ≡ Some new = ap (slice_get (slice_set now number new)) here ∙ put_same now number current new there in
        let after_is : new ≡ after = let same = sym put_is ∙ is in cc in
        let before_is : current ≡ before = let same = sym there ∙ finds.others number (omega arith) ∙ ap (slice_get old) (sym here) ∙ was in cc in
        let last : server ≡ length histories = here ∙ sym finds.many in
        let read_is : history ≡ read = let same = sym (ap (slice_get (histories ++ history ∷ [])) last ∙ get_last histories history) ∙ at in cc in
        subst (λ (h : History). FindsHistory terms before after h) read_is
        (subst (λ (k : K). FindsHistory terms before k history) after_is (subst (λ (k : K). FindsHistory terms k new history) before_is found))
    | inr unequal ↦
        let other = unequal.1 in
        let bound = slice_get_within (histories ++ history ∷ []) server read at in
        let more = length-append histories (history ∷ []) in
        let within : server < length histories = let many = finds.many in omega (arith, bound, more, many, other) in
        finds.below server before after read was (sym (put_other now number server new other) ∙ is) (sym (get_before histories history server within) ∙ at)
  ];
  others = λ server past. put_other now number server new (λ same. let never = ap (λ (n : ℕ). n) same in omega (arith, never, past)) ∙ finds.others server (omega (arith, past));
}

-- all were read
pub finds_all : {K : Type 0} (terms : Terms K) (old now : List K) (number : ℕ) (histories : List History) →
    number ≡ length old → FindsBelow terms old now number histories → FindsAll terms old now histories
finds_all terms old now number histories all finds = record { many = finds.many ∙ all; each = finds.below }

-- the keeper that is put wasn't loaded
pub not_loaded : {K : Type 0} (terms : Terms K) (old now : List K) (number : ℕ) (histories : List History) (current new : K) (fault : KeepFault) →
    IsSettled terms → FindsBelow terms old now number histories → slice_get now number ≡ Some current → Loads terms current new (Err fault) →
    LoadsAll terms old (slice_set now number new) (Err (fault_of number fault))
not_loaded terms old now number histories current new keep.Failed settled finds there failed = record {
  before = current;
  after = new;
  before_is = sym (finds.others number (omega arith)) ∙ there;
  after_is = put_same now number current new there;
  fault = failed;
  others = elsewhere terms (FindsNoRoom terms) old now number histories new finds (kept_on terms) (λ keeper. untouched terms keeper settled);
}
not_loaded terms old now number histories current new keep.Memory settled finds there wanting =
    each_put terms (FindsNoRoom terms) old now number histories current new finds there (kept_on terms) (λ keeper. untouched terms keeper settled) wanting

-- whatever came of loading a keeper, it was read
pub loads_read : {K : Type 0} (terms : Terms K) (before after : K) (loaded : Result (Vec Entry) KeepFault) → Loads terms before after loaded → IsRead terms before after
loads_read terms before after (Ok entries) is = is.finds.read
loads_read terms before after (Err keep.Failed) is = is.read
loads_read terms before after (Err keep.Memory) is = is.read

-- so were all, where one is put after it was loaded
pub each_read : {K : Type 0} (terms : Terms K) (old now : List K) (number : ℕ) (histories : List History) (current new : K) (loaded : Result (Vec Entry) KeepFault) →
    IsSettled terms → FindsBelow terms old now number histories → slice_get now number ≡ Some current → Loads terms current new loaded →
    Each (IsRead terms) old (slice_set now number new)
each_read terms old now number histories current new loaded settled finds there loads =
    each_put terms (IsRead terms) old now number histories current new finds there (λ before after history is. is.finds.read)
    (λ keeper. (untouched terms keeper settled).read) (loads_read terms current new loaded loads)

-- a history had no room
pub no_room : {K : Type 0} (terms : Terms K) (old now : List K) (number : ℕ) (histories : List History) (current new : K) (history : History) →
    IsSettled terms → FindsBelow terms old now number histories → slice_get now number ≡ Some current → FindsHistory terms current new history →
    (result : Result (Vec (Vec Entry)) GatherFault) → IsErrAnd result (λ fault. fault ≡ Memory) → LoadsAll terms old (slice_set now number new) result
no_room terms old now number histories current new history settled finds there found (Ok all) is = absurd is
no_room terms old now number histories current new history settled finds there found (Err fault) is =
    subst (λ (f : GatherFault). LoadsAll terms old (slice_set now number new) (Err f)) (sym is)
    (each_put terms (FindsNoRoom terms) old now number histories current new finds there (kept_on terms) (λ keeper. untouched terms keeper settled)
    (kept_on terms current new history found))

-- what was kept by keepers that were all read is kept on
pub all_kept_on : {K : Type 0} (terms : Terms K) (old now : List K) (histories : List History) → FindsAll terms old now histories →
    Each (FindsNoRoom terms) old now
all_kept_on terms old now histories finds server before after was is =
    let many = finds.many in
    let within : server < length histories = omega (arith, many, slice_get_within old server before was) in
    let history = get_or histories server [] in
    kept_on terms before after history (finds.each server before after history was is (slice_get-get_or histories server [] within))
