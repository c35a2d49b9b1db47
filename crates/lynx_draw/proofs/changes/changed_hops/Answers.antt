use Rattle.std.proofs.Common.{◌≡◌, Option, Some, List, [], ℕ, ap, ◌∙◌}
use Rattle.std.specs.Prelude.{option_map, slice_get, unwrap_or}
use Rattle.lynx_set.specs.declared.program.Program.{Program}
use Rattle.lynx_set.specs.Lookups.{program_at, program_name}
use Rattle.lynx_draw.specs.Changes.{faces_of, program_named, unlike_hops}
use Rattle.lynx_draw.specs.declared.changes.Face.{Face}
use Rattle.lynx_draw.proofs.changes.changed_hops.Goals as goal

pub returns : goal.returns
returns c =
    let before = c.args.before.now in
    let set = c.args.set.now in
    let program = c.args.program in
    let entry : Some (c.in-Some.name.now, c.in-Some.found.now) ≡ slice_get set.programs program =
    c.in-Some.ensures.entry
    ∙ ap (λ (entries : List (List ℕ × Program)). slice_get entries c.index.result) c.programs.ensures.value
    ∙ ap (λ place. slice_get set.programs place) c.index.ensures.value in
    let name : c.in-Some.name.now ≡ program_name set program =
    ap (λ (found : Option (List ℕ × Program)). unwrap_or (option_map (λ named. named.0) found) []) entry in
    let found : Some c.in-Some.found.now ≡ program_at set program =
    ap (option_map (λ (named : List ℕ × Program). named.1)) entry in
    let earlier : c.as_slice.result.now ≡ faces_of before (program_named before (program_name set program)) =
    c.as_slice.ensures ∙ c.in_ok-earlier.ensures
    ∙ ap (faces_of before) (c.program_named.ensures ∙ ap (program_named before) name) in
    let faces : c.as_slice-2.result.now ≡ faces_of set (program_at set program) =
    c.as_slice-2.ensures ∙ c.in_ok-faces.ensures ∙ ap (faces_of set) found in
    c.in_ok-hops.ensures
    ∙ ap (λ (all : List Face). unlike_hops all c.as_slice-2.result.now) earlier
    ∙ ap (λ (all : List Face). unlike_hops (faces_of before (program_named before (program_name set program))) all) faces
