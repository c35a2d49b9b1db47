use Rattle.std.proofs.Common.{◌≡◌, ◌∷◌, [], rules, subst}
use Rattle.std.specs.Prelude.{codes}
use Rattle.std.specs.Fmt.{decimal}
use Rattle.std.specs.Io.KnownBytes.{Appends}
use Rattle.lynx_lines.specs.Written.{AppendsPart}
use Rattle.lynx_lines.proofs.Parts.{on_err, part_of_more, part_on}
use Rattle.lynx_lex.specs.Lines.{with_feed}
use Rattle.lynx_show.proofs.upgrade.write_upgraded.Goals as goal

pub returns-in_err-write_bytes-clause-part : goal.returns-in_err-write_bytes-clause-part
returns-in_err-write_bytes-clause-part g c =
    let first = g.W.Write.contents c.args.writer.now in
    let second = g.W.Write.contents c.write_bytes.new.writer in
    on_err c.from_residual.result
    (part_of_more first second (codes "upgraded ") (with_feed (decimal c.args.count)) c.in_err-write_bytes.ensures.part)

pub returns-in_err-write_bytes-2-clause-part : goal.returns-in_err-write_bytes-2-clause-part
returns-in_err-write_bytes-2-clause-part g c =
    let first = g.W.Write.contents c.args.writer.now in
    let second = g.W.Write.contents c.write_bytes.new.writer in
    let third = g.W.Write.contents c.write_bytes-2.new.writer in
    let digits : c.as_bytes.result.now ≡ decimal c.args.count = search rules in
    on_err c.from_residual-in_err-write_bytes-2.result
    (part_on first second third (codes "upgraded ") (with_feed (decimal c.args.count)) c.in_ok-write_bytes.ensures.all
    (part_of_more second third (decimal c.args.count) (10 ∷ []) (subst (AppendsPart second third) digits c.in_err-write_bytes-2.ensures.part)))

pub returns-in_err-write_bytes-3-clause-part : goal.returns-in_err-write_bytes-3-clause-part
returns-in_err-write_bytes-3-clause-part g c =
    let first = g.W.Write.contents c.args.writer.now in
    let second = g.W.Write.contents c.write_bytes.new.writer in
    let third = g.W.Write.contents c.write_bytes-2.new.writer in
    let fourth = g.W.Write.contents c.write_bytes-3.new.writer in
    let digits : c.as_bytes.result.now ≡ decimal c.args.count = search rules in
    on_err c.from_residual-in_err-write_bytes-3.result
    (part_on first second fourth (codes "upgraded ") (with_feed (decimal c.args.count)) c.in_ok-write_bytes.ensures.all
    (part_on second third fourth (decimal c.args.count) (10 ∷ [])
    (subst (Appends second third) digits c.in_ok-write_bytes-2.ensures.all) c.in_err-write_bytes-3.ensures.part))
