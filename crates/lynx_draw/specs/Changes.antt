-- The hops of a changed set that are changed.
use Rattle.std.specs.Prelude.{Bool, false, not, ◌&&◌, ◌==◌, ℕ, ◌+◌, List, [], ◌∷◌, Option, Some, None, bytes_eq, filter, length, option_and_then, slice_get}
use Rattle.std.specs.List.{range_with_len}
use Rattle.lynx_set.specs.Set.{Set}
use Rattle.lynx_set.specs.Lookups.{program_at, program_name, program_names}
use Rattle.lynx_set.specs.Names.{place_of}
use Rattle.lynx_set.specs.Text.{bound_in}
use Rattle.lynx_set.specs.declared.program.Hop.{Hop}
use Rattle.lynx_set.specs.declared.program.Program.{Program}
use Rattle.lynx_draw.specs.declared.changes.Face.{Face}
use Rattle.lynx_draw.specs.Nodes.{actions_text}

-- the program of that name
abbrev pub program_named : Set → List ℕ → Option Program
program_named set name = option_and_then (program_at set) (place_of (program_names set) name)

-- what a hop's node shows of it: its server and the lines of its actions
abbrev pub face_of : List (List ℕ) → List (List ℕ) → ℕ → Hop → Face
face_of tables names place hop =
    record { server = hop.server; lines = actions_text tables names place hop.actions }

-- the faces of hops, the first of which binds the name at that place if it binds one
abbrev pub faces_from : List (List ℕ) → List (List ℕ) → ℕ → List Hop → List Face
faces_from tables names place [] = []
faces_from tables names place (hop ∷ hops) =
    face_of tables names place hop ∷ faces_from tables names (place + bound_in hop.actions) hops

-- the faces of a program's hops, none where there is no program
abbrev pub faces_of : Set → Option Program → List Face
faces_of set None = []
faces_of set (Some program) =
    faces_from set.tables program.names program.parameters program.hops

-- whether two hops are at one server, with the same lines of actions
abbrev pub is_alike : Face → Face → Bool
is_alike left right = left.server == right.server && bytes_eq left.lines right.lines

-- whether there are two hops, and they are alike
abbrev pub are_alike : Option Face → Option Face → Bool
are_alike (Some left) (Some right) = is_alike left right
are_alike left right = false

-- whether the hop of that number isn't like the one of the same number before
abbrev pub is_unlike : List Face → List Face → ℕ → Bool
is_unlike before faces hop = not (are_alike (slice_get before hop) (slice_get faces hop))

-- the numbers of such hops
abbrev pub unlike_hops : List Face → List Face → List ℕ
unlike_hops before faces = filter (is_unlike before faces) (range_with_len 0 (length faces))

-- the changed hops of a program: a hop is changed unless the program of the same name in the set
-- before has one like it at the same number
abbrev pub changed_hops : Set → Set → ℕ → List ℕ
changed_hops before set program =
    unlike_hops (faces_of before (program_named before (program_name set program)))
    (faces_of set (program_at set program))
