-- A chain's numbers are read as they were written.
use Rattle.std.proofs.Common.{◌≡◌, ℕ, zero, suc, ◌*◌, ◌<◌, ◌≤◌, List, [], ◌∷◌, ◌++◌, length, Ok, Err, refl, sym, ap, subst, ◌∙◌, append_assoc, arith, inl, inr}
use Rattle.std.specs.Prelude.{nat_lt, nat_le, ◌&&◌}
use Rattle.std.specs.List.{flat_map, AllByRecursion}
use Rattle.std.proofs.lemmas.Bool.{ltb-true, lt-ltb, leb-true, le-leb, and_parts, and_from}
use Rattle.std.proofs.lemmas.List.{length-append}
use Rattle.lynx_names.specs.declared.limits.TheConstants.{MAX_SERVERS, MAX_HOPS}
use Rattle.lynx_names.specs.declared.numbers.NumberAt.{NumberAt}
use Rattle.lynx_codec.specs.declared.fault.DecodeFault.{DecodeFault}
use Rattle.lynx_codec.specs.Fields.{word, number_at, numbers}
use Rattle.lynx_codec.specs.Ranges.{Rise, IsNumber, AreNumbers}
use Rattle.lynx_codec.specs.Reading.{◌>>=◌, such_that, byte_at, word_at, rising_at, numbers_at}
use Rattle.lynx_codec.proofs.Codec.{IsBytes, Takes, Takes-then, IsFieldFault, IsCodec, bind_ok, bind_err, ok_is, ok_is_no_err, such_that_codec}
use Rattle.lynx_codec.proofs.FieldCodecs.{byte, byte_codec, word_codec}
use Rattle.lynx_codec.proofs.Loops.{server_at}

-- a byte from low to below limit
byte_from_codec : (low limit : ℕ) → limit ≤ 256 → IsCodec byte (λ b. (low ≤ b) × (b < limit)) 1 (such_that (λ b. nat_le low b && nat_lt b limit) byte_at)
byte_from_codec low limit le =
    such_that_codec byte_codec (λ b. nat_le low b && nat_lt b limit) (λ b. (low ≤ b) × (b < limit))
    (λ b fits passed. let parts = and_parts (nat_le low b) (nat_lt b limit) passed in (leb-true low b parts.0, ltb-true b limit parts.1))
    (λ b range. and_from (nat_le low b) (nat_lt b limit) (le-leb low b range.0) (lt-ltb b limit range.1))
    (λ b range. omega (arith, range.1))

-- the count of a chain's numbers
count_codec : IsCodec byte (λ n. (1 ≤ n) × (n ≤ MAX_HOPS)) 1 (such_that (λ n. nat_le 1 n && nat_le n MAX_HOPS) byte_at)
count_codec =
    such_that_codec byte_codec (λ n. nat_le 1 n && nat_le n MAX_HOPS) (λ n. (1 ≤ n) × (n ≤ MAX_HOPS))
    (λ n fits passed. let parts = and_parts (nat_le 1 n) (nat_le n MAX_HOPS) passed in (leb-true 1 n parts.0, leb-true n MAX_HOPS parts.1))
    (λ n range. and_from (nat_le 1 n) (nat_le n MAX_HOPS) (le-leb 1 n range.0) (le-leb n MAX_HOPS range.1))
    (λ n range. omega (arith, range.1))

rising_takes : (least n : ℕ) (bytes : List ℕ) (ns : List NumberAt) (rest : List ℕ) → IsBytes bytes → rising_at least n bytes ≡ Ok (ns, rest) → Takes bytes (flat_map number_at ns) rest × (length ns ≡ n) × (Rise least ns × AllByRecursion IsNumber ns)
unfolding rising_at
rising_takes least zero bytes ns rest fits e =
    subst (λ (y : List NumberAt × List ℕ). Takes bytes (flat_map number_at y.0) y.1 × (length y.0 ≡ 0) × (Rise least y.0 × AllByRecursion IsNumber y.0)) (ok_is ([], bytes) (ns, rest) e) (record { parts = refl; rest_fits = fits }, refl, (tt, tt))
rising_takes least (suc n) bytes ns rest fits e =
    let a = bind_ok (server_at least bytes) (λ server. word_at server.1 >>= λ number. rising_at (suc server.0) n number.1 >>= λ others. Ok (record { server = server.0; number = number.0 } ∷ others.0, others.1)) (ns, rest) e in
    let b = bind_ok (word_at a.0.1) (λ number. rising_at (suc a.0.0) n number.1 >>= λ others. Ok (record { server = a.0.0; number = number.0 } ∷ others.0, others.1)) (ns, rest) a.2 in
    let c = bind_ok (rising_at (suc a.0.0) n b.0.1) (λ others. Ok (record { server = a.0.0; number = b.0.0 } ∷ others.0, others.1)) (ns, rest) b.2 in
    let server = (byte_from_codec least MAX_SERVERS (omega arith)).takes bytes a.0.0 a.0.1 fits a.1 in
    let number = word_codec.takes a.0.1 b.0.0 b.0.1 server.0.rest_fits b.1 in
    let others = rising_takes (suc a.0.0) n b.0.1 c.0.0 c.0.1 number.0.rest_fits c.1 in
    let first = Takes-then bytes (byte a.0.0) a.0.1 (word b.0.0) b.0.1 server.0 number.0 in
    let whole = Takes-then bytes (a.0.0 ∷ word b.0.0) b.0.1 (flat_map number_at c.0.0) c.0.1 first others.0 in
    let here : NumberAt = record { server = a.0.0; number = b.0.0 } in
    let made_of : List NumberAt × List ℕ = (here ∷ c.0.0, c.0.1) in
    subst (λ (y : List NumberAt × List ℕ). Takes bytes (flat_map number_at y.0) y.1 × (length y.0 ≡ suc n) × (Rise least y.0 × AllByRecursion IsNumber y.0)) (ok_is made_of (ns, rest) c.2)
    (whole, ap suc others.1, ((server.1.0, others.2.0), ((server.1.1, number.1), others.2.1)))

rising_again : (least : ℕ) (ns : List NumberAt) (rest : List ℕ) → Rise least ns → AllByRecursion IsNumber ns → rising_at least (length ns) (flat_map number_at ns ++ rest) ≡ Ok (ns, rest)
unfolding rising_at
rising_again least [] rest rise fits = refl
rising_again least (n ∷ ns) rest rise fits =
    let others : List ℕ = flat_map number_at ns ++ rest in
    let regrouped : flat_map number_at (n ∷ ns) ++ rest ≡ byte n.server ++ (word n.number ++ others) = ap (λ (z : List ℕ). n.server ∷ z) (append_assoc (word n.number) (flat_map number_at ns) rest) in
    let server : server_at least (byte n.server ++ (word n.number ++ others)) ≡ Ok (n.server, word n.number ++ others) = (byte_from_codec least MAX_SERVERS (omega arith)).again n.server (word n.number ++ others) (rise.0, fits.0.0) in
    ap (rising_at least (suc (length ns))) regrouped ∙ rw (server, word_codec.again n.number others fits.0.1, rising_again (suc n.server) ns rest rise.1 fits.1) refl

rising_faulty : (least n : ℕ) (bytes : List ℕ) (fault : DecodeFault) → rising_at least n bytes ≡ Err fault → IsFieldFault fault
unfolding rising_at
rising_faulty least zero bytes fault e = absurd (ok_is_no_err ([], bytes) fault e)
rising_faulty least (suc n) bytes fault e =
    elim (bind_err (server_at least bytes) (λ server. word_at server.1 >>= λ number. rising_at (suc server.0) n number.1 >>= λ others. Ok (record { server = server.0; number = number.0 } ∷ others.0, others.1)) fault e) [
      | inl h ↦ (byte_from_codec least MAX_SERVERS (omega arith)).faulty bytes fault h
      | inr a ↦ elim (bind_err (word_at a.0.1) (λ number. rising_at (suc a.0.0) n number.1 >>= λ others. Ok (record { server = a.0.0; number = number.0 } ∷ others.0, others.1)) fault a.2) [
        | inl h ↦ word_codec.faulty a.0.1 fault h
        | inr b ↦ elim (bind_err (rising_at (suc a.0.0) n b.0.1) (λ others. Ok (record { server = a.0.0; number = b.0.0 } ∷ others.0, others.1)) fault b.2) [
          | inl h ↦ rising_faulty (suc a.0.0) n b.0.1 fault h
          | inr c ↦ let here : NumberAt = record { server = a.0.0; number = b.0.0 } in absurd (ok_is_no_err (here ∷ c.0.0, c.0.1) fault c.2)
        ]
      ]
    ]

rising_short : (ns : List NumberAt) → AllByRecursion IsNumber ns → length (flat_map number_at ns) ≤ 9 * length ns
rising_short [] fits = omega arith
rising_short (n ∷ ns) fits = omega (arith, length-append (word n.number) (flat_map number_at ns), word_codec.short n.number fits.0.1, rising_short ns fits.1)

pub numbers_codec : IsCodec numbers AreNumbers 73 numbers_at
unfolding numbers_at
numbers_codec = record {
  takes = λ bytes ns rest fits e.
      let a = bind_ok (such_that (λ n. nat_le 1 n && nat_le n MAX_HOPS) byte_at bytes) (λ count. rising_at 0 count.0 count.1) (ns, rest) e in
      let count = count_codec.takes bytes a.0.0 a.0.1 fits a.1 in
      let members = rising_takes 0 a.0.0 a.0.1 ns rest count.0.rest_fits a.2 in
      let both = Takes-then bytes (byte a.0.0) a.0.1 (flat_map number_at ns) rest count.0 members.0 in (
        subst (λ (n : ℕ). Takes bytes (n ∷ flat_map number_at ns) rest) (sym members.1) both,
        ((omega (arith, members.1, count.1.0), omega (arith, members.1, count.1.1), members.2.0), members.2.1),
      );
  again = λ ns rest fits.
      let count : such_that (λ n. nat_le 1 n && nat_le n MAX_HOPS) byte_at (byte (length ns) ++ (flat_map number_at ns ++ rest)) ≡ Ok (length ns, flat_map number_at ns ++ rest) = count_codec.again (length ns) (flat_map number_at ns ++ rest) (fits.0.0, fits.0.1) in
      rw (count, rising_again 0 ns rest fits.0.2 fits.1) refl;
  faulty = λ bytes fault e.
      elim (bind_err (such_that (λ n. nat_le 1 n && nat_le n MAX_HOPS) byte_at bytes) (λ count. rising_at 0 count.0 count.1) fault e) [
        | inl h ↦ count_codec.faulty bytes fault h
        | inr a ↦ rising_faulty 0 a.0.0 a.0.1 fault a.2
      ];
  short = λ ns fits. omega (arith, rising_short ns fits.1, fits.0.1);
}
