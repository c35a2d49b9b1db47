use Rattle.std.proofs.Common.{◌≡◌, ap, false, Some, List, ℕ}
use Rattle.std.specs.Fmt.{digits, styled_digits_output}
use Rattle.lynx_status.specs.Metrics.{hash_text}
use Rattle.lynx_status.proofs.Shown.{sixteen_shown}
use Rattle.lynx_status.proofs.metrics.put_hash.Goals as goal

pub returns : goal.returns
unfolding hash_text
returns c =
    let shown : styled_digits_output c.in_radix.result c.laid_out.result ≡ Some (hash_text c.args.hash) =
    rw (c.laid_out.ensures, c.in_radix.ensures) (ap (λ (text : List ℕ). Some text) (sixteen_shown (digits 16 false c.args.hash))) in
    rw shown at c.write.ensures.bytes
