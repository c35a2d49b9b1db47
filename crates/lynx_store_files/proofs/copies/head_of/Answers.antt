use Rattle.std.proofs.Common.{◌≡◌, ◌++◌, ap, subst}
use Rattle.std.specs.Prelude.{IfSome}
use Rattle.std.specs.Io.Take.{take_remaining}
use Rattle.lynx_store_files.proofs.Copied.{taken}
use Rattle.lynx_store_files.proofs.copies.head_of.Goals as goal

pub returns : goal.returns
returns g c =
    let items = c.read_to_end.new.buf.items in
    let rest = take_remaining (λ source. g.R.Read.remaining source.now) c.take.result in
    taken (g.R.Read.remaining c.take.result.inner.now) (g.R.Read.remaining c.args.source.now) c.take.result.limit c.args.limit items
    (ap (λ source. g.R.Read.remaining source.now) c.take.ensures.inner) c.take.ensures.limit
    (subst (λ before. IfSome rest (λ xs. items ≡ before ++ xs)) c.new-head.ensures.items c.in_ok-read_to_end.ensures.bytes)
