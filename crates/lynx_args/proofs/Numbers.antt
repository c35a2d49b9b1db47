-- Numbers that were found under names.
use Rattle.std.proofs.Common.{◌≡◌, ◌∙◌, ℕ, List, Option, Some, None, Result, Ok, Err, ap}
use Rattle.std.specs.Prelude.{unwrap_or}
use Rattle.std.specs.Str.Parse.{ParsesUnsigned}
use Rattle.clap.specs.declared.parser.matches.Found.{Found}
use Rattle.clap.specs.Words.{ReadsOne, one_of, one_text, rows_of}
use Rattle.clap.proofs.WalkLemmas.{one_text-rows}
use Rattle.lynx_args.specs.Jobs.{IsChoice, IsNumber, IsPort, IsReadFrom}

-- what is given of a text says that it is read as a number of so many bits
module _ {E : Type 0} (Gives : List ℕ → Result ℕ E → Type 0) (bits : ℕ)
    (parses : (text : List ℕ) (read : Result ℕ E) → Gives text read → ParsesUnsigned bits 10 text read) where
  read_from : (text : List ℕ) (found : Option ℕ) → ReadsOne Gives text found → IsReadFrom bits text found
  read_from text (Some number) reads = parses text (Ok number) reads
  read_from text None reads = parses text (Err reads.0) reads.1

  pub found_number : (words : Found) (name : List ℕ) (usual : ℕ) (found : Option ℕ) (number : ℕ) → (one_text words name ≡ None → found ≡ None)
      → ((text : List ℕ) → one_text words name ≡ Some text → ReadsOne Gives text found) → number ≡ unwrap_or found usual
      → IsNumber bits usual name (rows_of words) number
  found_number words name usual found number none value is = record {
    none = λ gone. is ∙ ap (λ (o : Option ℕ). unwrap_or o usual) (none (one_text-rows words name ∙ gone));
    some = λ text there. (found, read_from text found (value text (one_text-rows words name ∙ there)), is);
  }

pub found_port : {E : Type 0} (Gives : List ℕ → Result ℕ E → Type 0) → ((text : List ℕ) (read : Result ℕ E) → Gives text read → ParsesUnsigned 16 10 text read)
    → (words : Found) (name : List ℕ) (found : Option ℕ) → (one_text words name ≡ None → found ≡ None)
    → ((text : List ℕ) → one_text words name ≡ Some text → ReadsOne Gives text found) → IsPort name (rows_of words) found
found_port Gives parses words name found none value = record {
  none = λ gone. none (one_text-rows words name ∙ gone);
  some = λ text there. read_from Gives 16 parses text found (value text (one_text-rows words name ∙ there));
}

pub found_choice : {E : Type 0} (Gives : List ℕ → Result ℕ E → Type 0) → ((text : List ℕ) (read : Result ℕ E) → Gives text read → ParsesUnsigned 8 10 text read)
    → (words : Found) (name : List ℕ) (found : Option ℕ) → (one_text words name ≡ None → found ≡ None)
    → ((text : List ℕ) → one_text words name ≡ Some text → ReadsOne Gives text found) → IsChoice name (rows_of words) found
found_choice Gives parses words name found none value = record {
  none = λ gone. none (one_text-rows words name ∙ gone);
  some = λ text there. read_from Gives 8 parses text found (value text (one_text-rows words name ∙ there));
}
