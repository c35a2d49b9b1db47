use Rattle.std.proofs.Common.{sym, ap, ◌∙◌, refl, arith}
use Rattle.std.proofs.lemmas.List.{length-map}
use Rattle.lynx_lines.proofs.SpelledLemmas.{name_found, name_not_found}
use Rattle.lynx_set.specs.Names.{place_below}
use Rattle.lynx_lex.specs.Word.{is_name}
use Rattle.lynx_lines.proofs.script.read_program.Goals as goal
use Rattle.lynx_set.specs.Lookups.{program_names}

pub returns-in-Some-find_program : goal.returns-in-Some-find_program
returns-in-Some-find_program c =
    let found = name_found (program_names c.args.set.now) c.args.word.now c.in-Some-find_program.program
    (ap (place_below 64 (program_names c.args.set.now)) (sym c.in-Some.ensures.value) ∙ sym c.in-Some-find_program.ensures) in
    (record { declared = omega (arith, found.0, length-map c.args.set.now.programs (λ named. named.0)); named = ap is_name (sym found.2) ∙ c.in-Some.ensures.valid.0 refl; numbered = found.1 }, found.2)

pub returns-in-None : goal.returns-in-None
returns-in-None c = λ program fits is.
    name_not_found (program_names c.args.set.now) c.args.word.now program (omega (arith, fits.declared, length-map c.args.set.now.programs (λ named. named.0))) fits.numbered is
    (ap (place_below 64 (program_names c.args.set.now)) (sym c.in-Some.ensures.value) ∙ sym c.in-None.ensures)
