-- A set with one more table or program.
use Rattle.std.proofs.Common.{◌≡◌, ℕ, List, [], ◌∷◌, ◌++◌, ap, ◌∙◌}
use Rattle.std.proofs.lemmas.List.{map_push}
use Rattle.lynx_set.specs.Plain.{PlainSet, PlainProgram, plain_named, plain_set, plain_program}
use Rattle.lynx_shards.specs.declared.shard.Shard.{Shard}
use Rattle.lynx_set.specs.declared.program.Program.{Program}
use Rattle.lynx_set.specs.declared.version.Version.{Version}
use Rattle.lynx_set.specs.Set.{Set}

pub one_more_table : (old : Set) (version : Version) (servers : ℕ) (tables : List (List ℕ)) (shards : List (List Shard)) (programs : List (List ℕ × Program)) (new_tables : List (List ℕ)) (new_shards : List (List Shard)) (name : List ℕ) (added : List Shard)
    → record { version = version; servers = servers; tables = tables; shards = shards; programs = programs } ≡ old → new_tables ≡ tables ++ name ∷ [] → new_shards ≡ shards ++ added ∷ []
    → record { version = version; servers = servers; tables = new_tables; shards = new_shards; programs = programs } ≡ record old { tables = old.tables ++ name ∷ []; shards = old.shards ++ added ∷ [] }
one_more_table old version servers tables shards programs new_tables new_shards name added is tables_are shards_are =
    ap (λ (t : List (List ℕ)). let s : Set = record { version = version; servers = servers; tables = t; shards = new_shards; programs = programs } in s) tables_are
    ∙ ap (λ (t : List (List Shard)). let s : Set = record { version = version; servers = servers; tables = tables ++ name ∷ []; shards = t; programs = programs } in s) shards_are
    ∙ ap (λ (s : Set). let n : Set = record { version = s.version; servers = s.servers; tables = s.tables ++ name ∷ []; shards = s.shards ++ added ∷ []; programs = s.programs } in n) is

pub one_more_program : (old : Set) (version : Version) (servers : ℕ) (tables : List (List ℕ)) (shards : List (List Shard)) (programs new_programs : List (List ℕ × Program)) (added : List ℕ × Program)
    → record { version = version; servers = servers; tables = tables; shards = shards; programs = programs } ≡ old → new_programs ≡ programs ++ added ∷ []
    → record { version = version; servers = servers; tables = tables; shards = shards; programs = new_programs } ≡ record old { programs = old.programs ++ added ∷ [] }
one_more_program old version servers tables shards programs new_programs added is programs_are =
    ap (λ (p : List (List ℕ × Program)). let s : Set = record { version = version; servers = servers; tables = tables; shards = shards; programs = p } in s) programs_are
    ∙ ap (λ (s : Set). let n : Set = record { version = s.version; servers = s.servers; tables = s.tables; shards = s.shards; programs = s.programs ++ added ∷ [] } in n) is

-- the plain set with one more program
pub plain_more : (old new : Set) (name : List ℕ) (program : Program) → new ≡ record old { programs = old.programs ++ (name, program) ∷ [] }
    → plain_set new ≡ record (plain_set old) { programs = (plain_set old).programs ++ (name, plain_program program) ∷ [] }
plain_more old new name program is =
    ap plain_set is
    ∙ ap (λ (p : List (List ℕ × PlainProgram)). let s : PlainSet = record { version = old.version; servers = old.servers; tables = old.tables; shards = old.shards; programs = p } in s) (map_push plain_named old.programs (name, program))
