-- Each kind of field is read as it was written.
use Rattle.std.proofs.Common.{◌≡◌, ℕ, zero, suc, ◌+◌, ◌*◌, ◌^◌, ◌<◌, ◌≤◌, Bool, true, false, cond, eqb, ltb, List, [], ◌∷◌, ◌++◌, length, take, drop, Ok, Err, refl, sym, ap, subst, ◌∙◌, arith, inl, inr}
use Rattle.std.specs.Prelude.{nat_lt}
use Rattle.std.specs.List.{flat_map, AllByRecursion}
use Rattle.std.specs.Int.{Width, w32, w64, byte_len, from_be_bytes, to_be_bytes}
use Rattle.std.proofs.lemmas.Bool.{cases_lt, ltb-false, le-ltb, ltb-true, lt-ltb}
use Rattle.std.proofs.lemmas.List.{take_at, drop_at, take-append-drop, length-append, length-take, get_or-drop, get_or-take, get_or_past}
use Rattle.std.proofs.lemmas.Nat.{be_bytes_4, be_bytes_8, from_be_bytes-to_be_bytes_4, from_be_bytes-to_be_bytes_8}
use Rattle.std.proofs.Math.Nat.{mul-le-mul_left}
use Rattle.lynx_names.specs.declared.limits.TheConstants.{MAX_SERVERS, MAX_HOPS, MAX_ACTIONS, STAMP_LIMIT}
use Rattle.lynx_codec.specs.declared.fault.DecodeFault.{DecodeFault}
use Rattle.lynx_codec.specs.declared.fault.DecodeFault.TheVariants as faults
use Rattle.lynx_codec.specs.Fields.{word, flag, values, chain, result_lists}
use Rattle.lynx_codec.specs.Ranges.{IsWord, IsStamp, IsChain, AreValues, AreResultLists}
use Rattle.lynx_codec.specs.Reading.{Reading, byte_at, byte_below, word_at, flag_at, stamp_at, chain_at, counted, repeated, values_at, result_lists_at}
use Rattle.lynx_codec.proofs.Codec.{IsBytes, IsBytes-rest, Takes, Takes-then, IsFieldFault, IsCodec, bind_ok, bind_err, ok_is, err_is, ok_is_no_err, then_codec, made_takes, made_again, made_faulty, made_codec, such_that_codec, repeated_takes, repeated_again, repeated_faulty, repeated_short}

pub IsBytes-drop : (n : ℕ) (bytes : List ℕ) → IsBytes bytes → IsBytes (drop n bytes)
IsBytes-drop n bytes h i = rw get_or-drop (h (n + i))

pub IsBytes-take : (n : ℕ) (bytes : List ℕ) → IsBytes bytes → IsBytes (take n bytes)
IsBytes-take n bytes h i =
    elim (cases_lt i n) [
      | inl lt ↦ rw (get_or-take n bytes i 0 lt) (h i)
      | inr le ↦ rw (get_or_past (take n bytes) i 0 (omega (arith, length-take n bytes))) (omega arith)
    ]

abbrev pub byte : ℕ → List ℕ
byte b = b ∷ []

byte_takes : (bytes : List ℕ) (b : ℕ) (rest : List ℕ) → IsBytes bytes → byte_at bytes ≡ Ok (b, rest) → Takes bytes (byte b) rest × (b < 256)
byte_takes [] b rest fits e = absurd cc
byte_takes (x ∷ xs) b rest fits e =
    subst (λ (y : ℕ × List ℕ). Takes (x ∷ xs) (byte y.0) y.1 × (y.0 < 256)) (ok_is (x, xs) (b, rest) e) (record { parts = refl; rest_fits = IsBytes-rest x xs fits }, fits 0)

byte_faulty : (bytes : List ℕ) (fault : DecodeFault) → byte_at bytes ≡ Err fault → IsFieldFault fault
byte_faulty [] fault e = inl (sym (err_is {A = ℕ × List ℕ} faults.BadLength fault e))
byte_faulty (x ∷ xs) fault e = absurd (ok_is_no_err (x, xs) fault e)

pub byte_codec : IsCodec byte (λ b. b < 256) 1 byte_at
byte_codec = record {
  takes = byte_takes;
  again = λ b rest fits. refl;
  faulty = byte_faulty;
  short = λ b fits. omega arith;
}

-- ---- words

guard_ok : {A : Type 0} (b : Bool) (d : DecodeFault) (x y : A) → cond b (Err d) (Ok x) ≡ Ok y → (b ≡ false) × (x ≡ y)
guard_ok true d x y e = absurd cc
guard_ok false d x y e = (refl, cc)

guard_err : {A : Type 0} (b : Bool) (c d : DecodeFault) (x : A) → cond b (Err c) (Ok x) ≡ Err d → c ≡ d
guard_err true c d x e = cc
guard_err false c d x e = absurd cc

word-length : (n : ℕ) → length (word n) ≡ 8
unfolding word
word-length n = refl

-- a number of some width: how it is written, and read
pub record IsWide (w : Width) (limit : ℕ) : Type 0 where
  pub len : (n : ℕ) → length (to_be_bytes w n) ≡ byte_len w
  pub back : (bytes : List ℕ) → length bytes ≡ byte_len w → IsBytes bytes → to_be_bytes w (from_be_bytes w bytes) ≡ bytes
  pub again : (n : ℕ) → n < limit → from_be_bytes w (to_be_bytes w n) ≡ n
  pub below : (bytes : List ℕ) → IsBytes bytes → from_be_bytes w bytes < limit

pub wide32 : IsWide w32 (2 ^ 32)
wide32 = record {
  len = λ n. refl;
  back = λ bytes len fits. be_bytes_4 bytes _ len fits refl;
  again = λ n lt. from_be_bytes-to_be_bytes_4 n lt;
  below = λ bytes fits. omega (arith, fits 0, fits 1, fits 2, fits 3);
}

wide64 : IsWide w64 (2 ^ 64)
wide64 = record {
  len = λ n. refl;
  back = λ bytes len fits. be_bytes_8 bytes _ len fits refl;
  again = λ n lt. from_be_bytes-to_be_bytes_8 n lt;
  below = λ bytes fits. omega (arith, fits 0, fits 1, fits 2, fits 3, fits 4, fits 5, fits 6, fits 7);
}

abbrev wide_at : Width → List ℕ → Reading ℕ
wide_at w bytes = cond (ltb (length bytes) (byte_len w)) (Err faults.BadLength) (Ok (from_be_bytes w (take (byte_len w) bytes), drop (byte_len w) bytes))

number_takes : (w : Width) (limit : ℕ) (wide : IsWide w limit) (bytes : List ℕ) (n : ℕ) (rest : List ℕ) → IsBytes bytes → wide_at w bytes ≡ Ok (n, rest) → Takes bytes (to_be_bytes w n) rest × (n < limit)
number_takes w limit wide bytes n rest fits e =
    let g = guard_ok (ltb (length bytes) (byte_len w)) faults.BadLength (from_be_bytes w (take (byte_len w) bytes), drop (byte_len w) bytes) (n, rest) e in
    let long : byte_len w ≤ length bytes = ltb-false _ _ g.0 in
    let n-is : from_be_bytes w (take (byte_len w) bytes) ≡ n = ap (λ (p : ℕ × List ℕ). p.0) g.1 in
    let rest-is : drop (byte_len w) bytes ≡ rest = ap (λ (p : ℕ × List ℕ). p.1) g.1 in
    let front : to_be_bytes w n ≡ take (byte_len w) bytes = rw (← n-is) (wide.back (take (byte_len w) bytes) (omega (arith, length-take (byte_len w) bytes)) (IsBytes-take (byte_len w) bytes fits)) in
    (record { parts = rw (front, ← rest-is) (sym (take-append-drop (byte_len w) bytes)); rest_fits = rw (← rest-is) (IsBytes-drop (byte_len w) bytes fits) }, rw (← n-is) (wide.below (take (byte_len w) bytes) (IsBytes-take (byte_len w) bytes fits)))

number_again : (w : Width) (limit : ℕ) (wide : IsWide w limit) (n : ℕ) (rest : List ℕ) → n < limit → wide_at w (to_be_bytes w n ++ rest) ≡ Ok (n, rest)
number_again w limit wide n rest lt =
    let len = wide.len n in
    let long : ltb (length (to_be_bytes w n ++ rest)) (byte_len w) ≡ false = le-ltb _ _ (omega (arith, length-append (to_be_bytes w n) rest)) in
    rw (long, take_at (to_be_bytes w n) rest (byte_len w) len, drop_at (to_be_bytes w n) rest (byte_len w) len, wide.again n lt) refl

word_takes : (bytes : List ℕ) (n : ℕ) (rest : List ℕ) → IsBytes bytes → word_at bytes ≡ Ok (n, rest) → Takes bytes (word n) rest × IsWord n
unfolding word_at word
word_takes bytes n rest fits e = number_takes w64 (2 ^ 64) wide64 bytes n rest fits e

word_again : (n : ℕ) (rest : List ℕ) → IsWord n → word_at (word n ++ rest) ≡ Ok (n, rest)
unfolding word_at word
word_again n rest lt = number_again w64 (2 ^ 64) wide64 n rest lt

word_faulty : (bytes : List ℕ) (fault : DecodeFault) → word_at bytes ≡ Err fault → IsFieldFault fault
unfolding word_at
word_faulty bytes fault e = inl (sym (guard_err (ltb (length bytes) 8) faults.BadLength fault (from_be_bytes w64 (take 8 bytes), drop 8 bytes) e))

pub word_codec : IsCodec word IsWord 8 word_at
word_codec = record {
  takes = word_takes;
  again = word_again;
  faulty = word_faulty;
  short = λ n fits. omega (arith, word-length n);
}

-- ---- bytes and words in ranges

pub byte_below_codec : (limit : ℕ) → limit ≤ 256 → IsCodec byte (λ b. b < limit) 1 (byte_below limit)
unfolding byte_below
byte_below_codec limit le = such_that_codec byte_codec (λ b. nat_lt b limit) (λ b. b < limit) (λ b fits passed. ltb-true b limit passed) (λ b lt. lt-ltb b limit lt) (λ b lt. omega arith)

pub stamp_codec : IsCodec word IsStamp 8 stamp_at
unfolding stamp_at
stamp_codec = such_that_codec word_codec (λ n. nat_lt n STAMP_LIMIT) IsStamp (λ n fits passed. ltb-true n STAMP_LIMIT passed) (λ n lt. lt-ltb n STAMP_LIMIT lt) (λ n lt. omega arith)

flag-of : (b : ℕ) → b < 2 → flag (eqb b 1) ≡ byte b
flag-of zero lt = refl
flag-of (suc zero) lt = refl
flag-of (suc (suc b)) lt = absurd (omega arith)

flag_again : (b : Bool) (rest : List ℕ) → Unit {0} → flag_at (flag b ++ rest) ≡ Ok (b, rest)
unfolding flag_at
flag_again true rest fits = made_again (byte_below_codec 2 (omega arith)) (λ n. eqb n 1) 1 rest (omega arith)
flag_again false rest fits = made_again (byte_below_codec 2 (omega arith)) (λ n. eqb n 1) 0 rest (omega arith)

flag_short : (b : Bool) → Unit {0} → length (flag b) ≤ 1
flag_short true fits = omega arith
flag_short false fits = omega arith

pub flag_codec : IsCodec flag (λ b. Unit {0}) 1 flag_at
unfolding flag_at
flag_codec = record {
  takes = λ bytes b rest fits e.
      let t = made_takes (byte_below_codec 2 (omega arith)) (λ n. eqb n 1) bytes b rest fits e in
      let text : byte t.0 ≡ flag b = sym (flag-of t.0 t.3) ∙ ap flag t.1 in
      (subst (λ (z : List ℕ). Takes bytes z rest) text t.2, tt);
  again = flag_again;
  faulty = made_faulty (byte_below_codec 2 (omega arith)) (λ n. eqb n 1);
  short = flag_short;
}

pub chain_codec : IsCodec chain IsChain 9 chain_at
unfolding chain_at
chain_codec =
    let pair = then_codec (byte_below_codec MAX_SERVERS (omega arith)) word_codec in
    made_codec pair (λ f. record { origin = f.0; index = f.1 }) (λ id. (id.origin, id.index)) (λ f. refl) (λ id. refl)

-- ---- counted lists

module _ {A : Type 0} {w : A → List ℕ} {F : A → Type 0} {m : ℕ} {r : List ℕ → Reading A} where
  pub counted_codec : IsCodec w F m r → (most : ℕ) → most < 256 → IsCodec (λ xs. length xs ∷ flat_map w xs) (λ xs. (length xs ≤ most) × AllByRecursion F xs) (1 + m * most) (counted most r)
  counted_codec c most le = record {
    takes = λ bytes xs rest fits e.
        let a = bind_ok (byte_below (suc most) bytes) (λ count. repeated r count.0 count.1) (xs, rest) e in
        let count = (byte_below_codec (suc most) (omega arith)).takes bytes a.0.0 a.0.1 fits a.1 in
        let members = repeated_takes c a.0.0 a.0.1 xs rest count.0.rest_fits a.2 in
        let both = Takes-then bytes (byte a.0.0) a.0.1 (flat_map w xs) rest count.0 members.0 in
        (subst (λ (n : ℕ). Takes bytes (n ∷ flat_map w xs) rest) (sym members.1) both, (omega (arith, members.1, count.1), members.2));
    again = λ xs rest fits.
        let counted_first = (byte_below_codec (suc most) (omega arith)).again (length xs) (flat_map w xs ++ rest) (omega (arith, fits.0)) in
        rw (counted_first, repeated_again c xs rest fits.1) refl;
    faulty = λ bytes fault e.
        elim (bind_err (byte_below (suc most) bytes) (λ count. repeated r count.0 count.1) fault e) [
          | inl h ↦ (byte_below_codec (suc most) (omega arith)).faulty bytes fault h
          | inr a ↦ repeated_faulty c a.0.0 a.0.1 fault a.2
        ];
    short = λ xs fits. let times : m * length xs ≤ m * most = mul-le-mul_left m fits.0 in omega (arith, repeated_short c xs fits.1, times);
  }

pub values_codec : (most : ℕ) → most < 256 → IsCodec values (AreValues most) (1 + 8 * most) (values_at most)
unfolding values_at
values_codec most lt = counted_codec word_codec most lt

pub result_lists_codec : IsCodec result_lists AreResultLists 1033 result_lists_at
unfolding result_lists_at
result_lists_codec = counted_codec (values_codec MAX_ACTIONS (omega arith)) MAX_HOPS (omega arith)
