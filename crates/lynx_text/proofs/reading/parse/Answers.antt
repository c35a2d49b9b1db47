use Rattle.std.proofs.Common.{◌≡◌, ◌≢◌, ◌⊎◌, inl, inr, List, ℕ, Some, None, Result, Ok, Err, sym, ap, ◌∙◌}
use Rattle.std.specs.Prelude.{IfOk, IfErr}
use Rattle.lynx_lex.specs.declared.fault.FaultKind.TheVariants.{Memory}
use Rattle.lynx_lex.specs.declared.fault.TextFault.{TextFault}
use Rattle.lynx_text.specs.Parts.{read_text}
use Rattle.lynx_set.specs.Home.{AreLiteralsHome}
use Rattle.lynx_set.proofs.Literals.{literals_home}
use Rattle.lynx_set.specs.Plain.{plain_set}
use Rattle.lynx_set.specs.Rules.{IsSet}
use Rattle.lynx_set.specs.Set.{Set}
use Rattle.lynx_set.specs.Text.{text_of}
use Rattle.lynx_text.proofs.Found.{found}
use Rattle.lynx_text.proofs.SetAgain.{again}
use Rattle.lynx_text.proofs.reading.parse.Goals as goal
use Rattle.lynx_lex.proofs.Equal.{none_some}

found_in : (bytes : List ℕ) (r : Result Set TextFault) → IfOk r (λ set. read_text bytes ≡ Some (plain_set set)) → IfOk r (λ set. IsSet set × (bytes ≡ text_of set))
found_in bytes (Ok set) read = found bytes set read
found_in bytes (Err fault) read = tt

pub returns-clause-found : goal.returns-clause-found
returns-clause-found c = found_in c.args.text.now c.read_text.result c.read_text.ensures.read

home_in : (bytes : List ℕ) (r : Result Set TextFault) → IfOk r (λ set. IsSet set × (bytes ≡ text_of set)) → IfOk r AreLiteralsHome
home_in bytes (Ok set) read = literals_home set read.0
home_in bytes (Err fault) read = tt

pub returns-clause-home : goal.returns-clause-home
returns-clause-home c =
    home_in c.args.text.now c.read_text.result (found_in c.args.text.now c.read_text.result c.read_text.ensures.read)

no_other : (bytes : List ℕ) → read_text bytes ≡ None → (set : Set) → IsSet set → bytes ≢ text_of set
no_other bytes none set is e = none_some (sym none ∙ ap read_text e ∙ again set is.0 is.1)

only_in : (bytes : List ℕ) (r : Result Set TextFault) → IfErr r (λ fault. (fault.kind ≡ Memory) ⊎ (read_text bytes ≡ None))
    → IfErr r (λ fault. (fault.kind ≡ Memory) ⊎ ((set : Set) → IsSet set → bytes ≢ text_of set))
only_in bytes (Ok set) none = tt
only_in bytes (Err fault) (inl memory) = inl memory
only_in bytes (Err fault) (inr none) = inr (no_other bytes none)

pub returns-clause-only : goal.returns-clause-only
returns-clause-only c = only_in c.args.text.now c.read_text.result c.read_text.ensures.none
