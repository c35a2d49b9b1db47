use Rattle.std.proofs.Common.{[], ◌∷◌, ◌++◌, ap, map, sym, ◌∙◌}
use Rattle.std.specs.Prelude.{codes}
use Rattle.std.proofs.lemmas.List.{append-nil}
use Rattle.lynx_lex.specs.Lines.{line}
use Rattle.lynx_set.specs.Text.{text, program_words, range_words, hops_lines}
use Rattle.lynx_text.proofs.Texts.{four_written}
use Rattle.lynx_text.proofs.printing.put_program.Goals as goal

pub returns : goal.returns
returns c =
    let program = c.args.program.now in
    let head = c.put_program_head.new.out.items in
    four_written head c.put_ranges.new.out.items c.put_hops.new.out.items c.extend_from_slice.new.self.items c.args.out.now.items
    (program_words c.args.name.now program ∷ []) (map (range_words program.names) program.ranges) (hops_lines c.args.tables.now program.names program.parameters program.hops) ((codes "end" ∷ []) ∷ [])
    (c.in_ok-put_program_head.ensures ∙ ap (λ t. c.args.out.now.items ++ t) (sym (append-nil (line (program_words c.args.name.now program)))))
    (c.in_ok-put_ranges.ensures ∙ ap (λ names. head ++ text (map (range_words names) c.as_slice-2.result.now)) c.as_slice.ensures ∙ ap (λ ranges. head ++ text (map (range_words program.names) ranges)) c.as_slice-2.ensures)
    c.in_ok-put_hops.ensures (c.in_ok-extend_from_slice.ensures.items ∙ ap (λ t. c.put_hops.new.out.items ++ t) c.as_slice-3.ensures)
