-- What is read is what was written, what was written is read again, and how long it is: for one field, for one after
-- another, and for what they make.
use Rattle.std.proofs.Common.{◌≡◌, ℕ, zero, suc, ◌+◌, ◌*◌, ◌<◌, ◌≤◌, ◌⊎◌, Bool, true, false, cond, eqb, List, [], ◌∷◌, ◌++◌, length, get_or, Result, Ok, Err, refl, sym, ap, subst, ◌∙◌, append_assoc, arith, inl, inr}
use Rattle.std.specs.List.{flat_map, AllByRecursion}
use Rattle.std.proofs.lemmas.List.{length-append}
use Rattle.std.proofs.lemmas.Bool.{eqb-true}
use Rattle.lynx_codec.specs.declared.fault.DecodeFault.{DecodeFault}
use Rattle.lynx_codec.specs.declared.fault.DecodeFault.TheVariants as faults
use Rattle.lynx_codec.specs.Reading.{Reading, ◌>>=◌, ◌then◌, made, nothing, such_that, choose, one_of, byte_at, repeated}

abbrev pub IsBytes : List ℕ → Type 0
IsBytes bytes = (i : ℕ) → get_or bytes i 0 < 256

pub IsBytes-rest : (b : ℕ) (bytes : List ℕ) → IsBytes (b ∷ bytes) → IsBytes bytes
IsBytes-rest b bytes h i = h (suc i)

-- what a reader took from the front
pub record Takes (bytes text rest : List ℕ) : Type 0 where
  pub parts : bytes ≡ text ++ rest
  pub rest_fits : IsBytes rest

pub Takes-then : (a x b y c : List ℕ) → Takes a x b → Takes b y c → Takes a (x ++ y) c
Takes-then a x b y c p q = record { parts = p.parts ∙ ap (λ (t : List ℕ). x ++ t) q.parts ∙ sym (append_assoc x y c); rest_fits = q.rest_fits }

-- the faults of fields
abbrev pub IsFieldFault : DecodeFault → Type 0
IsFieldFault fault = (fault ≡ faults.BadLength) ⊎ (fault ≡ faults.OutOfRange)

pub record IsCodec {A : Type 0} (write : A → List ℕ) (Fits : A → Type 0) (most : ℕ) (read : List ℕ → Reading A) : Type 0 where
  pub takes : (bytes : List ℕ) (x : A) (rest : List ℕ) → IsBytes bytes → read bytes ≡ Ok (x, rest) → Takes bytes (write x) rest × Fits x
  pub again : (x : A) (rest : List ℕ) → Fits x → read (write x ++ rest) ≡ Ok (x, rest)
  pub faulty : (bytes : List ℕ) (fault : DecodeFault) → read bytes ≡ Err fault → IsFieldFault fault
  pub short : (x : A) → Fits x → length (write x) ≤ most

-- ---- steps that did not fail, and steps that did

pub bind_ok : {A B : Type 0} (r : Result A DecodeFault) (f : A → Result B DecodeFault) (y : B) → (r >>= f) ≡ Ok y → (x : A) × (r ≡ Ok x) × (f x ≡ Ok y)
bind_ok (Ok x) f y e = (x, refl, e)
bind_ok (Err d) f y e = absurd cc

pub bind_err : {A B : Type 0} (r : Result A DecodeFault) (f : A → Result B DecodeFault) (d : DecodeFault) → (r >>= f) ≡ Err d → (r ≡ Err d) ⊎ ((x : A) × (r ≡ Ok x) × (f x ≡ Err d))
bind_err (Ok x) f d e = inr (x, refl, e)
bind_err (Err c) f d e = inl cc

abbrev done : {A : Type 0} → A → Result A DecodeFault
done x = Ok x

pub ok_is : {A : Type 0} (x y : A) → done x ≡ done y → x ≡ y
ok_is x y e = cc

abbrev fails : {A : Type 0} → DecodeFault → Result A DecodeFault
fails d = Err d

pub err_is : {A : Type 0} (c d : DecodeFault) → fails {A = A} c ≡ fails d → c ≡ d
err_is c d e = cc

pub ok_is_no_err : {A : Type 0} (x : A) (d : DecodeFault) → done x ≡ Err d → ⊥
ok_is_no_err x d e = absurd cc

pub if_ok : {A : Type 0} (b : Bool) (d : DecodeFault) (x y : A) → cond b (Ok x) (Err d) ≡ Ok y → (b ≡ true) × (x ≡ y)
if_ok true d x y e = (refl, cc)
if_ok false d x y e = absurd cc

pub if_err : {A : Type 0} (b : Bool) (c d : DecodeFault) (x : A) → cond b (Ok x) (Err c) ≡ Err d → c ≡ d
if_err true c d x e = absurd cc
if_err false c d x e = cc

-- ---- one after another

module _ {A B : Type 0} {w : A → List ℕ} {F : A → Type 0} {m : ℕ} {r : List ℕ → Reading A} {v : B → List ℕ} {G : B → Type 0} {n : ℕ} {s : List ℕ → Reading B} where
  pub then_takes : IsCodec w F m r → IsCodec v G n s → (bytes : List ℕ) (x : A × B) (rest : List ℕ) → IsBytes bytes → (r then s) bytes ≡ Ok (x, rest) → Takes bytes (w x.0 ++ v x.1) rest × (F x.0 × G x.1)
  then_takes c d bytes x rest fits e =
      let a = bind_ok (r bytes) (λ first. s first.1 >>= λ second. Ok ((first.0, second.0), second.1)) (x, rest) e in
      let b = bind_ok (s a.0.1) (λ second. Ok ((a.0.0, second.0), second.1)) (x, rest) a.2 in
      let first = c.takes bytes a.0.0 a.0.1 fits a.1 in
      let second = d.takes a.0.1 b.0.0 b.0.1 first.0.rest_fits b.1 in
      let made_of : (A × B) × List ℕ = ((a.0.0, b.0.0), b.0.1) in
      subst (λ (y : (A × B) × List ℕ). Takes bytes (w y.0.0 ++ v y.0.1) y.1 × (F y.0.0 × G y.0.1)) (ok_is made_of (x, rest) b.2) (Takes-then bytes (w a.0.0) a.0.1 (v b.0.0) b.0.1 first.0 second.0, (first.1, second.1))

  pub then_again : IsCodec w F m r → IsCodec v G n s → (x : A × B) (rest : List ℕ) → F x.0 × G x.1 → (r then s) ((w x.0 ++ v x.1) ++ rest) ≡ Ok (x, rest)
  then_again c d x rest fits = ap (r then s) (append_assoc (w x.0) (v x.1) rest) ∙ rw (c.again x.0 (v x.1 ++ rest) fits.0, d.again x.1 rest fits.1) refl

  pub then_faulty : IsCodec w F m r → IsCodec v G n s → (bytes : List ℕ) (fault : DecodeFault) → (r then s) bytes ≡ Err fault → IsFieldFault fault
  then_faulty c d bytes fault e =
      elim (bind_err (r bytes) (λ first. s first.1 >>= λ second. Ok ((first.0, second.0), second.1)) fault e) [
        | inl h ↦ c.faulty bytes fault h
        | inr a ↦ elim (bind_err (s a.0.1) (λ second. Ok ((a.0.0, second.0), second.1)) fault a.2) [
          | inl h ↦ d.faulty a.0.1 fault h
          | inr b ↦ absurd (ok_is_no_err ((a.0.0, b.0.0), b.0.1) fault b.2)
        ]
      ]

  pub then_codec : IsCodec w F m r → IsCodec v G n s → IsCodec (λ p. w p.0 ++ v p.1) (λ p. F p.0 × G p.1) (m + n) (r then s)
  then_codec c d = record {
    takes = then_takes c d;
    again = then_again c d;
    faulty = then_faulty c d;
    short = λ x fits. omega (arith, length-append (w x.0) (v x.1), c.short x.0 fits.0, d.short x.1 fits.1);
  }

-- ---- what the fields make

module _ {A B : Type 0} {w : A → List ℕ} {F : A → Type 0} {m : ℕ} {r : List ℕ → Reading A} where
  pub made_takes : IsCodec w F m r → (make : A → B) (bytes : List ℕ) (y : B) (rest : List ℕ) → IsBytes bytes → made make r bytes ≡ Ok (y, rest) → (x : A) × (make x ≡ y) × Takes bytes (w x) rest × F x
  made_takes c make bytes y rest fits e =
      let a = bind_ok (r bytes) (λ fields. Ok (make fields.0, fields.1)) (y, rest) e in
      let t = c.takes bytes a.0.0 a.0.1 fits a.1 in
      let both = ok_is (make a.0.0, a.0.1) (y, rest) a.2 in
      (a.0.0, ap (λ (p : B × List ℕ). p.0) both, subst (λ (z : List ℕ). Takes bytes (w a.0.0) z) (ap (λ (p : B × List ℕ). p.1) both) t.0, t.1)

  pub made_again : IsCodec w F m r → (make : A → B) (x : A) (rest : List ℕ) → F x → made make r (w x ++ rest) ≡ Ok (make x, rest)
  made_again c make x rest fits = rw (c.again x rest fits) refl

  pub made_faulty : IsCodec w F m r → (make : A → B) (bytes : List ℕ) (fault : DecodeFault) → made make r bytes ≡ Err fault → IsFieldFault fault
  made_faulty c make bytes fault e =
      elim (bind_err (r bytes) (λ fields. Ok (make fields.0, fields.1)) fault e) [
        | inl h ↦ c.faulty bytes fault h
        | inr a ↦ absurd (ok_is_no_err (make a.0.0, a.0.1) fault a.2)
      ]

  pub made_codec : IsCodec w F m r → (make : A → B) (parts : B → A) → ((x : A) → parts (make x) ≡ x) → ((y : B) → make (parts y) ≡ y) → IsCodec (λ y. w (parts y)) (λ y. F (parts y)) m (made make r)
  made_codec c make parts there back = record {
    takes = λ bytes y rest fits e.
        let t = made_takes c make bytes y rest fits e in
        let same : t.0 ≡ parts y = sym (there t.0) ∙ ap parts t.1 in
        subst (λ (x : A). Takes bytes (w x) rest × F x) same (t.2, t.3);
    again = λ y rest fits. made_again c make (parts y) rest fits ∙ ap (λ (z : B). Ok (z, rest)) (back y);
    faulty = made_faulty c make;
    short = λ y fits. c.short (parts y) fits;
  }

-- ---- a field in a range

module _ {w : ℕ → List ℕ} {F : ℕ → Type 0} {m : ℕ} {r : List ℕ → Reading ℕ} where
  pub such_that_codec : IsCodec w F m r → (test : ℕ → Bool) (P : ℕ → Type 0) → ((x : ℕ) → F x → test x ≡ true → P x) → ((x : ℕ) → P x → test x ≡ true) → ((x : ℕ) → P x → F x) → IsCodec w P m (such_that test r)
  such_that_codec c test P holds passes fits_too = record {
    takes = λ bytes x rest fits e.
        let a = bind_ok (r bytes) (λ field. cond (test field.0) (Ok field) (Err faults.OutOfRange)) (x, rest) e in
        let g = if_ok (test a.0.0) faults.OutOfRange a.0 (x, rest) a.2 in
        let t = c.takes bytes a.0.0 a.0.1 fits a.1 in
        subst (λ (y : ℕ × List ℕ). Takes bytes (w y.0) y.1 × P y.0) g.1 (t.0, holds a.0.0 t.1 g.0);
    again = λ x rest h. rw (c.again x rest (fits_too x h), passes x h) refl;
    faulty = λ bytes fault e.
        elim (bind_err (r bytes) (λ field. cond (test field.0) (Ok field) (Err faults.OutOfRange)) fault e) [
          | inl h ↦ c.faulty bytes fault h
          | inr a ↦ inr (sym (if_err (test a.0.0) faults.OutOfRange fault a.0 a.2))
        ];
    short = λ x h. c.short x (fits_too x h);
  }

-- ---- so many of one kind

module _ {A : Type 0} {w : A → List ℕ} {F : A → Type 0} {m : ℕ} {r : List ℕ → Reading A} where
  pub repeated_takes : IsCodec w F m r → (n : ℕ) (bytes : List ℕ) (xs : List A) (rest : List ℕ) → IsBytes bytes → repeated r n bytes ≡ Ok (xs, rest) → Takes bytes (flat_map w xs) rest × (length xs ≡ n) × AllByRecursion F xs
  unfolding repeated
  repeated_takes c zero bytes xs rest fits e =
      subst (λ (y : List A × List ℕ). Takes bytes (flat_map w y.0) y.1 × (length y.0 ≡ 0) × AllByRecursion F y.0) (ok_is ([], bytes) (xs, rest) e) (record { parts = refl; rest_fits = fits }, refl, tt)
  repeated_takes c (suc n) bytes xs rest fits e =
      let a = bind_ok (r bytes) (λ first. repeated r n first.1 >>= λ others. Ok (first.0 ∷ others.0, others.1)) (xs, rest) e in
      let b = bind_ok (repeated r n a.0.1) (λ others. Ok (a.0.0 ∷ others.0, others.1)) (xs, rest) a.2 in
      let first = c.takes bytes a.0.0 a.0.1 fits a.1 in
      let others = repeated_takes c n a.0.1 b.0.0 b.0.1 first.0.rest_fits b.1 in
      let both = Takes-then bytes (w a.0.0) a.0.1 (flat_map w b.0.0) b.0.1 first.0 others.0 in
      let made_of : List A × List ℕ = (a.0.0 ∷ b.0.0, b.0.1) in
      subst (λ (y : List A × List ℕ). Takes bytes (flat_map w y.0) y.1 × (length y.0 ≡ suc n) × AllByRecursion F y.0) (ok_is made_of (xs, rest) b.2) (both, ap suc others.1, (first.1, others.2))

  pub repeated_again : IsCodec w F m r → (xs : List A) (rest : List ℕ) → AllByRecursion F xs → repeated r (length xs) (flat_map w xs ++ rest) ≡ Ok (xs, rest)
  unfolding repeated
  repeated_again c [] rest fits = refl
  repeated_again c (x ∷ xs) rest fits =
      ap (repeated r (suc (length xs))) (append_assoc (w x) (flat_map w xs) rest) ∙ rw (c.again x (flat_map w xs ++ rest) fits.0, repeated_again c xs rest fits.1) refl

  pub repeated_faulty : IsCodec w F m r → (n : ℕ) (bytes : List ℕ) (fault : DecodeFault) → repeated r n bytes ≡ Err fault → IsFieldFault fault
  unfolding repeated
  repeated_faulty c zero bytes fault e = absurd (ok_is_no_err ([], bytes) fault e)
  repeated_faulty c (suc n) bytes fault e =
      elim (bind_err (r bytes) (λ first. repeated r n first.1 >>= λ others. Ok (first.0 ∷ others.0, others.1)) fault e) [
        | inl h ↦ c.faulty bytes fault h
        | inr a ↦ elim (bind_err (repeated r n a.0.1) (λ others. Ok (a.0.0 ∷ others.0, others.1)) fault a.2) [
          | inl h ↦ repeated_faulty c n a.0.1 fault h
          | inr b ↦ absurd (ok_is_no_err (a.0.0 ∷ b.0.0, b.0.1) fault b.2)
        ]
      ]

  pub repeated_short : IsCodec w F m r → (xs : List A) → AllByRecursion F xs → length (flat_map w xs) ≤ m * length xs
  repeated_short c [] fits = omega arith
  repeated_short c (x ∷ xs) fits = omega (arith, length-append (w x) (flat_map w xs), c.short x fits.0, repeated_short c xs fits.1)

-- ---- what a first byte chooses

abbrev pub IsChoice : {B : Type 0} → (B → List ℕ) → (B → Type 0) → ℕ × (List ℕ → Reading B) → Type 0
IsChoice v G choice =
    ((bytes : List ℕ) (y : _) (rest : List ℕ) → IsBytes bytes → choice.1 bytes ≡ Ok (y, rest) → Takes (choice.0 ∷ bytes) (v y) rest × G y)
    × ((bytes : List ℕ) (fault : DecodeFault) → choice.1 bytes ≡ Err fault → IsFieldFault fault)

module _ {A B : Type 0} {w : A → List ℕ} {F : A → Type 0} {m : ℕ} {r : List ℕ → Reading A} (v : B → List ℕ) (G : B → Type 0) where
  pub made_choice : IsCodec w F m r → (byte : ℕ) (make : A → B) → ((x : A) → v (make x) ≡ byte ∷ w x) → ((x : A) → F x → G (make x)) → IsChoice v G (byte, made make r)
  made_choice c byte make text is_so = (
    λ bytes y rest fits e.
        let t = made_takes c make bytes y rest fits e in
        let taken : Takes (byte ∷ bytes) (v (make t.0)) rest = record { parts = ap (λ (z : List ℕ). byte ∷ z) t.2.parts ∙ ap (λ (z : List ℕ). z ++ rest) (sym (text t.0)); rest_fits = t.2.rest_fits } in
        subst (λ (z : B). Takes (byte ∷ bytes) (v z) rest × G z) t.1 (taken, is_so t.0 t.3),
    made_faulty c make,
  )

module _ {B : Type 0} (v : B → List ℕ) (G : B → Type 0) where
  pub plain_choice : (byte : ℕ) (y : B) → v y ≡ byte ∷ [] → G y → IsChoice v G (byte, nothing y)
  plain_choice byte y text is_so = (
    λ bytes z rest fits e.
        let both = ok_is (y, bytes) (z, rest) e in
        let taken : Takes (byte ∷ bytes) (v y) bytes = record { parts = ap (λ (t : List ℕ). t ++ bytes) (sym text); rest_fits = fits } in
        subst (λ (p : B × List ℕ). Takes (byte ∷ bytes) (v p.0) p.1 × G p.0) both (taken, is_so),
    λ bytes fault e. absurd (ok_is_no_err (y, bytes) fault e),
  )

  choose_takes : (choices : List (ℕ × (List ℕ → Reading B))) → AllByRecursion (IsChoice v G) choices → (byte : ℕ) (bytes : List ℕ) (y : B) (rest : List ℕ) → IsBytes bytes → choose choices byte bytes ≡ Ok (y, rest) → Takes (byte ∷ bytes) (v y) rest × G y
  choose_takes [] h byte bytes y rest fits e = absurd cc
  choose_takes (choice ∷ others) h byte bytes y rest fits e =
      let P : Bool → Type 0 = λ b. eqb byte choice.0 ≡ b → cond b (choice.1 bytes) (choose others byte bytes) ≡ Ok (y, rest) → Takes (byte ∷ bytes) (v y) rest × G y in
      elim (eqb byte choice.0) as P [
        | true ↦ λ same found. subst (λ (b : ℕ). Takes (b ∷ bytes) (v y) rest × G y) (sym (eqb-true byte choice.0 same)) (h.0.0 bytes y rest fits found)
        | false ↦ λ other found. choose_takes others h.1 byte bytes y rest fits found
      ] refl e

  choose_faulty : (choices : List (ℕ × (List ℕ → Reading B))) → AllByRecursion (IsChoice v G) choices → (byte : ℕ) (bytes : List ℕ) (fault : DecodeFault) → choose choices byte bytes ≡ Err fault → IsFieldFault fault
  choose_faulty [] h byte bytes fault e = inr (sym (err_is {A = B × List ℕ} faults.OutOfRange fault e))
  choose_faulty (choice ∷ others) h byte bytes fault e =
      let P : Bool → Type 0 = λ b. cond b (choice.1 bytes) (choose others byte bytes) ≡ Err fault → IsFieldFault fault in
      elim (eqb byte choice.0) as P [
        | true ↦ λ found. h.0.1 bytes fault found
        | false ↦ λ found. choose_faulty others h.1 byte bytes fault found
      ] e

  byte_begins : (bytes : List ℕ) (b : ℕ) (after : List ℕ) → byte_at bytes ≡ Ok (b, after) → bytes ≡ b ∷ after
  byte_begins [] b after e = absurd cc
  byte_begins (x ∷ xs) b after e = ap (λ (p : ℕ × List ℕ). p.0 ∷ p.1) (ok_is (x, xs) (b, after) e)

  byte_faulty : (bytes : List ℕ) (fault : DecodeFault) → byte_at bytes ≡ Err fault → IsFieldFault fault
  byte_faulty [] fault e = inl (sym (err_is {A = ℕ × List ℕ} faults.BadLength fault e))
  byte_faulty (x ∷ xs) fault e = absurd (ok_is_no_err (x, xs) fault e)

  pub one_of_takes : (choices : List (ℕ × (List ℕ → Reading B))) → AllByRecursion (IsChoice v G) choices → (bytes : List ℕ) (y : B) (rest : List ℕ) → IsBytes bytes → one_of choices bytes ≡ Ok (y, rest) → Takes bytes (v y) rest × G y
  one_of_takes choices h bytes y rest fits e =
      let a = bind_ok (byte_at bytes) (λ first. choose choices first.0 first.1) (y, rest) e in
      let begins = byte_begins bytes a.0.0 a.0.1 a.1 in
      let rest_fits = IsBytes-rest a.0.0 a.0.1 (subst IsBytes begins fits) in
      subst (λ (z : List ℕ). Takes z (v y) rest × G y) (sym begins) (choose_takes choices h a.0.0 a.0.1 y rest rest_fits a.2)

  pub one_of_faulty : (choices : List (ℕ × (List ℕ → Reading B))) → AllByRecursion (IsChoice v G) choices → (bytes : List ℕ) (fault : DecodeFault) → one_of choices bytes ≡ Err fault → IsFieldFault fault
  one_of_faulty choices h bytes fault e =
      elim (bind_err (byte_at bytes) (λ first. choose choices first.0 first.1) fault e) [
        | inl f ↦ byte_faulty bytes fault f
        | inr a ↦ choose_faulty choices h a.0.0 a.0.1 fault a.2
      ]
