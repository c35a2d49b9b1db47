use Rattle.std.proofs.Common.{◌≡◌, ◌∙◌, ◌++◌, ◌∷◌, ◌<◌, ℕ, [], List, Some, true, false, take, length, sym, ap, arith}
use Rattle.std.specs.Prelude.{slice_get}
use Rattle.std.proofs.lemmas.List.{append-nil}
use Rattle.std.proofs.lemmas.Option.{none-some}
use Rattle.lynx_set.specs.Set.{Set}
use Rattle.lynx_set.specs.declared.program.Program.{Program}
use Rattle.lynx_graph.proofs.Lists.{slice_get-within}
use Rattle.lynx_reasons.specs.Culprits.{is_of, left_of}
use Rattle.lynx_reasons.proofs.LeftOnes.{few_left, left_of-next, next_is_new}
use Rattle.lynx_reasons.proofs.without.programs_without.Goals as goal
use Rattle.lynx_reasons.proofs.without.programs_without.Goals.{in-Some+then-not-has+in_ok-add_left, in-Some+else-not-has, in_default}

-- a set without tables, of the version and the servers of another
abbrev of_programs : Set → List (List ℕ × Program) → Set
of_programs set programs = record { version = set.version; servers = set.servers; tables = []; shards = []; programs = programs }

pub add_left-requires-clause-new : goal.add_left-requires-clause-new
add_left-requires-clause-new c =
    next_is_new c.args.culprit.now c.programs-programs.result.now.entries c.loop-number.left.programs c.loop-number.number (c.in-Some.name.now, c.in-Some.program.now)
    c.len-number-end.ensures.unique (sym c.in-Some.ensures.entry)
    (ap (λ (set : Set). set.programs) c.loop-number.invariant ∙ ap (λ programs. left_of c.args.culprit.now 0 (take c.loop-number.number programs)) (sym c.programs-programs.ensures.value))

pub add_left-requires-clause-few : goal.add_left-requires-clause-few
add_left-requires-clause-few c =
    let within : c.loop-number.number < length c.programs-programs.result.now.entries = omega (arith, c.loop-number-test.true, c.len-number-end.ensures.len) in
    let few = few_left c.args.culprit.now c.programs-programs.result.now.entries c.loop-number.left.programs c.loop-number.number within
    (ap (λ (set : Set). set.programs) c.loop-number.invariant ∙ ap (λ programs. left_of c.args.culprit.now 0 (take c.loop-number.number programs)) (sym c.programs-programs.ensures.value)) in
    omega (arith, few, within, c.programs-programs.ensures.few)

pub loop-number-preserved : goal.loop-number-preserved
loop-number-preserved c =
    let set = c.args.set.now in
    let culprit = c.args.culprit.now in
    let n = c.loop-number.number in
    elim c.match-get_index.branch [
      | in-Some+then-not-has+in_ok-add_left w ↦
          let there : slice_get set.programs n ≡ Some (w.in-Some.name.now, w.in-Some.program.now) = ap (λ programs. slice_get programs n) (sym c.programs-programs.ensures.value) ∙ sym w.in-Some.ensures.entry in
          let next = left_of-next culprit set.programs c.loop-number.left.programs n (w.in-Some.name.now, w.in-Some.program.now) false there
          (ap (is_of culprit) (sym w.program_of.ensures) ∙ sym w.has.ensures ∙ w.if-not-has.true) in
          w.left-is ∙ w.in_ok-add_left.ensures
          ∙ ap (λ (left : Set). let more : Set = record left { programs = left.programs ++ (w.in-Some.name.now, w.in-Some.program.now) ∷ [] } in more) c.loop-number.invariant
          ∙ ap (of_programs set) (sym next)
      | in-Some+else-not-has w ↦
          let there : slice_get set.programs n ≡ Some (w.in-Some.name.now, w.in-Some.program.now) = ap (λ programs. slice_get programs n) (sym c.programs-programs.ensures.value) ∙ sym w.in-Some.ensures.entry in
          let next = left_of-next culprit set.programs c.loop-number.left.programs n (w.in-Some.name.now, w.in-Some.program.now) true there
          (ap (is_of culprit) (sym w.program_of.ensures) ∙ sym w.has.ensures ∙ w.if-not-has.false) in
          w.left-is ∙ c.loop-number.invariant ∙ ap (of_programs set) (sym (append-nil (left_of culprit 0 (take n set.programs)))) ∙ ap (of_programs set) (sym next)
      | in_default w ↦
          let within : n < length c.programs-programs.result.now.entries = omega (arith, c.loop-number-test.true, c.len-number-end.ensures.len) in
          let named = slice_get-within c.programs-programs.result.now.entries n within in
          absurd (none-some named.0 (w.in_default.ensures.entry ∙ named.1))
    ]
