use Rattle.std.proofs.Common.{◌++◌, ap, ◌∙◌}
use Rattle.std.specs.Prelude.{codes}
use Rattle.lynx_set.specs.Lookups.{program_name, ranges_of}
use Rattle.lynx_draw.specs.Clusters.{late_words, parameters_of, parameters_text}
use Rattle.lynx_draw.proofs.Written.{five_written}
use Rattle.lynx_draw.proofs.clusters.put_first_label.Goals as goal

pub returns : goal.returns
returns c =
    five_written c.args.out.now.items c.extend_from_slice.new.self.items c.put_program_name.new.out.items c.put_parameters.new.out.items c.put_late_words.new.out.items c.extend_from_slice-2.new.self.items
    (codes "    label=\"") (program_name c.args.set.now c.args.program) (parameters_text (ranges_of c.args.set.now c.args.program) 0 (parameters_of c.args.set.now c.args.program)) (late_words c.args.late) (codes "\";\n")
    (c.in_ok-extend_from_slice.ensures.items ∙ ap (λ t. c.args.out.now.items ++ t) c.as_slice.ensures)
    c.in_ok-put_program_name.ensures
    c.in_ok-put_parameters.ensures
    c.in_ok-put_late_words.ensures
    (c.in_ok-extend_from_slice-2.ensures.items ∙ ap (λ t. c.put_late_words.new.out.items ++ t) c.as_slice-2.ensures)
