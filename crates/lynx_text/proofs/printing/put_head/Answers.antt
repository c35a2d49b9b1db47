use Rattle.lynx_text.proofs.Texts.{front_written, head_written}
use Rattle.lynx_text.proofs.printing.put_head.Goals as goal

pub returns : goal.returns
returns c =
    head_written c.extend_from_slice-3.new.self.items c.put_number.new.out.items c.end_line.new.out.items c.args.out.now.items c.args.version c.args.servers c.from.result
    (front_written c.extend_from_slice.new.self.items c.extend_from_slice-2.new.self.items c.extend_from_slice-3.new.self.items c.args.out.now.items c.as_slice.result.now c.version_word.result.now c.as_slice-2.result.now c.args.version
    c.in_ok-extend_from_slice.ensures.items c.as_slice.ensures c.in_ok-extend_from_slice-2.ensures.items c.version_word.ensures c.in_ok-extend_from_slice-3.ensures.items c.as_slice-2.ensures)
    c.in_ok-put_number.ensures c.from.ensures c.in_ok-end_line.ensures
