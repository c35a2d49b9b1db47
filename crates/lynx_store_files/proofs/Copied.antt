-- What is read of a file, and what is found in a copy of it.
use Rattle.std.specs.Prelude.{◌≡◌, ◌<◌, ◌≤◌, ℕ, List, length, take, Option, Some, None, option_map, IfSome}
use Rattle.std.proofs.Common.{ap, subst, arith}
use Rattle.sqlite.specs.Start.{FindsIn}
use Rattle.sqlite.specs.State.{State}
use Rattle.lynx_store_files.specs.Copies.{image_in}

taken_of : (bytes : Option (List ℕ)) (limit : ℕ) (items : List ℕ)
    → IfSome (option_map (take limit) bytes) (λ xs. items ≡ xs) → IfSome bytes (λ xs. items ≡ take limit xs)
taken_of None limit items given = tt
taken_of (Some xs) limit items given = given

-- what was read of a source that was cut to a length
pub taken : (cut source : Option (List ℕ)) (length limit : ℕ) (items : List ℕ) → cut ≡ source → length ≡ limit
    → IfSome (option_map (take length) cut) (λ xs. items ≡ xs) → IfSome source (λ xs. items ≡ take limit xs)
taken cut source length limit items same long given =
    subst (λ bytes. IfSome bytes (λ xs. items ≡ take limit xs)) same
    (subst (λ n. IfSome cut (λ xs. items ≡ take n xs)) long (taken_of cut length items given))

-- what is found in files of some bytes is found in files of the same bytes
pub found_in : (log file own_log own_file : List ℕ) (s : State) → log ≡ own_log → file ≡ own_file
    → FindsIn (image_in file log) s → FindsIn (image_in own_file own_log) s
found_in log file own_log own_file s same_log same_file found =
    subst (λ image. FindsIn image s) (λ i. image_in (same_file i) (same_log i)) found
