-- Reading the fields of a body from left to right, with the first fault that is met.
use Rattle.std.specs.Prelude.{◌≡◌, ◌⊎◌, ℕ, zero, suc, Bool, List, [], ◌∷◌, length, take, drop, Result, Ok, Err, nat_lt, nat_le, ◌==◌, ◌&&◌, if◌then◌else◌}
use Rattle.std.specs.Int.{w64, from_be_bytes}
use Rattle.lynx_names.specs.declared.chain.ChainId.{ChainId}
use Rattle.lynx_names.specs.declared.numbers.NumberAt.{NumberAt}
use Rattle.lynx_names.specs.declared.limits.TheConstants.{MAX_SERVERS, MAX_HOPS, MAX_ACTIONS, STAMP_LIMIT}
use Rattle.lynx_codec.specs.declared.fault.DecodeFault.{DecodeFault}
use Rattle.lynx_codec.specs.declared.fault.DecodeFault.TheVariants as faults

-- What reading at the front of some bytes gives: a value and the bytes after it, or a fault.
abbrev pub Reading : Type 0 → Type 0
Reading A = Result (A × List ℕ) DecodeFault

-- what reads at the front of any bytes
abbrev pub Reader : Type 0 → Type 0
Reader A = List ℕ → Reading A

infixl 10 ◌>>=◌
abbrev pub ◌>>=◌ : {A B : Type 0} →
    Result A DecodeFault → (A → Result B DecodeFault) → Result B DecodeFault
(Ok x) >>= f = f x
(Err fault) >>= f = Err fault

-- one field, and then another
infixr 20 ◌then◌
abbrev pub ◌then◌ : {A B : Type 0} → Reader A → Reader B → Reader (A × B)
◌then◌ r s bytes = do
  first ← r bytes
  second ← s first.1
  Ok ((first.0, second.0), second.1)

-- no field
abbrev pub nothing : {A : Type 0} → A → Reader A
nothing x bytes = Ok (x, bytes)

-- what the fields make
abbrev pub made : {A B : Type 0} → (A → B) → Reader A → Reader B
made make r bytes = do
  fields ← r bytes
  Ok (make fields.0, fields.1)

-- a field in a range
abbrev pub such_that : (ℕ → Bool) → Reader ℕ → Reader ℕ
such_that is_in_range r bytes = do
  field ← r bytes
  if is_in_range field.0 then Ok field else Err faults.OutOfRange

abbrev pub byte_at : Reader ℕ
byte_at [] = Err faults.BadLength
byte_at (b ∷ rest) = Ok (b, rest)

unfoldable pub word_at : Reader ℕ
word_at bytes =
    if nat_lt (length bytes) 8 then Err faults.BadLength
    else Ok (from_be_bytes w64 (take 8 bytes), drop 8 bytes)

-- a byte below the limit
unfoldable pub byte_below : ℕ → Reader ℕ
byte_below limit = such_that (λ b. nat_lt b limit) byte_at

unfoldable pub flag_at : Reader Bool
flag_at = made (λ b. b == 1) (byte_below 2)

unfoldable pub stamp_at : Reader ℕ
stamp_at = such_that (λ n. nat_lt n STAMP_LIMIT) word_at

unfoldable pub chain_at : Reader ChainId
chain_at = made (λ f. record { origin = f.0; index = f.1 }) (byte_below MAX_SERVERS then word_at)

-- so many of one kind of field
unfoldable pub repeated : {A : Type 0} → Reader A → ℕ → Reader (List A)
repeated r zero bytes = Ok ([], bytes)
repeated r (suc n) bytes = do
  first ← r bytes
  others ← repeated r n first.1
  Ok (first.0 ∷ others.0, others.1)

-- a count, at most that, and so many of one kind of field
abbrev pub counted : {A : Type 0} → ℕ → Reader A → Reader (List A)
counted most r bytes = do
  count ← byte_below (suc most) bytes
  repeated r count.0 count.1

unfoldable pub values_at : ℕ → Reader (List ℕ)
values_at most = counted most word_at

unfoldable pub result_lists_at : Reader (List (List ℕ))
result_lists_at = counted MAX_HOPS (values_at MAX_ACTIONS)

-- so many numbers, whose servers rise and are at least the least
unfoldable pub rising_at : ℕ → ℕ → Reader (List NumberAt)
rising_at least zero bytes = Ok ([], bytes)
rising_at least (suc n) bytes = do
  server ← such_that (λ b. nat_le least b && nat_lt b MAX_SERVERS) byte_at bytes
  number ← word_at server.1
  others ← rising_at (suc server.0) n number.1
  Ok (record { server = server.0; number = number.0 } ∷ others.0, others.1)

unfoldable pub numbers_at : Reader (List NumberAt)
numbers_at bytes = do
  count ← such_that (λ n. nat_le 1 n && nat_le n MAX_HOPS) byte_at bytes
  rising_at 0 count.0 count.1

-- what a first byte chooses, among bytes with what follows each
abbrev pub choose : {A : Type 0} → List (ℕ × Reader A) → ℕ → Reader A
choose [] byte bytes = Err faults.OutOfRange
choose (choice ∷ others) byte bytes =
    if byte == choice.0 then choice.1 bytes else choose others byte bytes

abbrev pub one_of : {A : Type 0} → List (ℕ × Reader A) → Reader A
one_of choices bytes = do
  first ← byte_at bytes
  choose choices first.0 first.1

-- A call answers that fault only for want of memory, or because reading gives it.
abbrev pub Fails : {A : Type 0} → DecodeFault → Result A DecodeFault → Type 0
Fails fault reading = (fault ≡ faults.Memory) ⊎ (reading ≡ Err fault)

-- A call answers what reading gives, and leaves the bytes that reading leaves.
abbrev pub Reads : {A : Type 0} → Result A DecodeFault → List ℕ → Reading A → Type 0
Reads (Ok x) rest reading = reading ≡ Ok (x, rest)
Reads (Err fault) rest reading = Fails fault reading

-- A call answers what reading all of some bytes gives.
abbrev pub Answers : {A : Type 0} → Result A DecodeFault → Result A DecodeFault → Type 0
Answers (Ok x) reading = reading ≡ Ok x
Answers (Err fault) reading = Fails fault reading
