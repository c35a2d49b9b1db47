-- Reading a list of fields one after the other, as a loop does.
use Rattle.std.proofs.Common.{◌≡◌, ℕ, suc, ◌-◌, ◌+◌, ◌≤◌, ◌<◌, List, [], ◌∷◌, ◌++◌, Ok, Err, refl, sym, ap, inl, inr, ◌∙◌, append_assoc, arith}
use Rattle.std.specs.Prelude.{nat_le, nat_lt, ◌&&◌}
use Rattle.std.proofs.lemmas.List.{append-nil}
use Rattle.lynx_names.specs.declared.limits.TheConstants.{MAX_SERVERS}
use Rattle.lynx_names.specs.declared.numbers.NumberAt.{NumberAt}
use Rattle.lynx_codec.specs.declared.fault.DecodeFault.{DecodeFault}
use Rattle.lynx_codec.specs.Reading.{Reading, ◌>>=◌, Fails, such_that, byte_at, word_at, repeated, rising_at}

-- what was read before, and what is still read
abbrev pub with_front : {A : Type 0} → List A → Reading (List A) → Reading (List A)
with_front front reading = reading >>= λ x. Ok (front ++ x.0, x.1)

regroup : {A : Type 0} (front : List A) (x : A) (reading : Reading (List A)) → with_front front (reading >>= λ y. Ok (x ∷ y.0, y.1)) ≡ with_front (front ++ x ∷ []) reading
regroup front x (Ok y) = ap (λ (xs : List _). Ok (xs, y.1)) (sym (append_assoc front (x ∷ []) y.0))
regroup front x (Err fault) = refl

-- one more field is read
pub goes_on : {A : Type 0} (r : List ℕ → Reading A) (front : List A) (count i : ℕ) (bytes : List ℕ) (x : A) (after : List ℕ) (total : Reading (List A)) → i < count → r bytes ≡ Ok (x, after)
    → with_front front (repeated r (count - i) bytes) ≡ total → with_front (front ++ x ∷ []) (repeated r (count - (i + 1)) after) ≡ total
unfolding repeated
goes_on r front count i bytes x after total lt h so_far =
    let k : count - i ≡ suc (count - (i + 1)) = omega arith in
    let one : with_front front (repeated r (count - i) bytes) ≡ with_front (front ++ x ∷ []) (repeated r (count - (i + 1)) after) = rw (k, h) (regroup front x (repeated r (count - (i + 1)) after)) in
    sym one ∙ so_far

-- a field can't be read
pub ends : {A : Type 0} (r : List ℕ → Reading A) (fault : DecodeFault) (front : List A) (count i : ℕ) (bytes : List ℕ) (total : Reading (List A)) → i < count → Fails fault (r bytes)
    → with_front front (repeated r (count - i) bytes) ≡ total → Fails fault total
unfolding repeated
ends r fault front count i bytes total lt h so_far =
    elim h [
      | inl memory ↦ inl memory
      | inr is_fault ↦
          let k : count - i ≡ suc (count - (i + 1)) = omega arith in
          let one : with_front front (repeated r (count - i) bytes) ≡ Err fault = rw (k, is_fault) refl in
          inr (sym so_far ∙ one)
    ]

-- no field is left
pub is_done : {A : Type 0} (r : List ℕ → Reading A) (front : List A) (count i : ℕ) (bytes : List ℕ) (total : Reading (List A)) → count ≤ i
    → with_front front (repeated r (count - i) bytes) ≡ total → total ≡ Ok (front, bytes)
unfolding repeated
is_done r front count i bytes total le so_far =
    let k : count - i ≡ 0 = omega arith in
    let one : with_front front (repeated r (count - i) bytes) ≡ Ok (front, bytes) = rw k (ap (λ (xs : List _). Ok (xs, bytes)) (append-nil front)) in
    sym so_far ∙ one

-- ---- numbers whose servers rise

abbrev pub server_at : ℕ → List ℕ → Reading ℕ
server_at least = such_that (λ b. nat_le least b && nat_lt b MAX_SERVERS) byte_at

pub rising-goes_on : (front : List NumberAt) (least count i : ℕ) (bytes : List ℕ) (server number : ℕ) (mid after : List ℕ) (total : Reading (List NumberAt)) → i < count → server_at least bytes ≡ Ok (server, mid) → word_at mid ≡ Ok (number, after)
    → with_front front (rising_at least (count - i) bytes) ≡ total → with_front (front ++ record { server = server; number = number } ∷ []) (rising_at (suc server) (count - (i + 1)) after) ≡ total
unfolding rising_at
rising-goes_on front least count i bytes server number mid after total lt h w so_far =
    let k : count - i ≡ suc (count - (i + 1)) = omega arith in
    let here : NumberAt = record { server = server; number = number } in
    let one : with_front front (rising_at least (count - i) bytes) ≡ with_front (front ++ here ∷ []) (rising_at (suc server) (count - (i + 1)) after) = rw (k, h, w) (regroup front here (rising_at (suc server) (count - (i + 1)) after)) in
    sym one ∙ so_far

-- there is no such server
pub rising-no_server : (fault : DecodeFault) (front : List NumberAt) (least count i : ℕ) (bytes : List ℕ) (total : Reading (List NumberAt)) → i < count → Fails fault (server_at least bytes)
    → with_front front (rising_at least (count - i) bytes) ≡ total → Fails fault total
unfolding rising_at
rising-no_server fault front least count i bytes total lt h so_far =
    elim h [
      | inl memory ↦ inl memory
      | inr is_fault ↦
          let k : count - i ≡ suc (count - (i + 1)) = omega arith in
          let one : with_front front (rising_at least (count - i) bytes) ≡ Err fault = rw (k, is_fault) refl in
          inr (sym so_far ∙ one)
    ]

-- there is a server and no number
pub rising-no_number : (fault : DecodeFault) (front : List NumberAt) (least count i : ℕ) (bytes : List ℕ) (server : ℕ) (mid : List ℕ) (total : Reading (List NumberAt)) → i < count → server_at least bytes ≡ Ok (server, mid) → Fails fault (word_at mid)
    → with_front front (rising_at least (count - i) bytes) ≡ total → Fails fault total
unfolding rising_at
rising-no_number fault front least count i bytes server mid total lt e h so_far =
    elim h [
      | inl memory ↦ inl memory
      | inr is_fault ↦
          let k : count - i ≡ suc (count - (i + 1)) = omega arith in
          let one : with_front front (rising_at least (count - i) bytes) ≡ Err fault = rw (k, e, is_fault) refl in
          inr (sym so_far ∙ one)
    ]

pub rising-is_done : (front : List NumberAt) (least count i : ℕ) (bytes : List ℕ) (total : Reading (List NumberAt)) → count ≤ i
    → with_front front (rising_at least (count - i) bytes) ≡ total → total ≡ Ok (front, bytes)
unfolding rising_at
rising-is_done front least count i bytes total le so_far =
    let k : count - i ≡ 0 = omega arith in
    let one : with_front front (rising_at least (count - i) bytes) ≡ Ok (front, bytes) = rw k (ap (λ (xs : List NumberAt). Ok (xs, bytes)) (append-nil front)) in
    sym so_far ∙ one
