use Rattle.std.proofs.Common.{◌++◌, ap, ◌∙◌}
use Rattle.std.specs.Prelude.{codes}
use Rattle.lynx_set.specs.Lookups.{program_name}
use Rattle.lynx_draw.proofs.Written.{three_written}
use Rattle.lynx_draw.proofs.clusters.put_second_label.Goals as goal

pub returns : goal.returns
returns c =
    three_written c.args.out.now.items c.extend_from_slice.new.self.items c.put_program_name.new.out.items c.extend_from_slice-2.new.self.items
    (codes "    style=\"dashed,rounded\"; label=\"") (program_name c.args.set.now c.args.program) (codes " (again)\";\n")
    (c.in_ok-extend_from_slice.ensures.items ∙ ap (λ t. c.args.out.now.items ++ t) c.as_slice.ensures)
    c.in_ok-put_program_name.ensures
    (c.in_ok-extend_from_slice-2.ensures.items ∙ ap (λ t. c.put_program_name.new.out.items ++ t) c.as_slice-2.ensures)
