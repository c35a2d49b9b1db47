use Rattle.std.proofs.Common.{◌≡◌, ◌∙◌, ◌&&◌, sym, rules}
use Rattle.lynx_set.specs.Lookups.{ranges_of}
use Rattle.lynx_reasons.specs.Begins.{is_argument}
use Rattle.lynx_reasons.specs.inner.Lefts.{are_home_before, are_home_in}
use Rattle.lynx_reasons.proofs.Numbers.{is_left-by_hops}
use Rattle.lynx_reasons.proofs.never.left.is_left.Goals as goal

pub returns-then-are_home_before : goal.returns-then-are_home_before
returns-then-are_home_before c =
    let set = c.args.set.now in
    let program = c.args.program in
    let at = c.args.at in
    let parameter = c.args.parameter in
    let number = c.args.number in
    let by_hops : c.are_home_in.result ≡ (is_argument (ranges_of set program) parameter number && are_home_before set program at.hop parameter number && are_home_in set program at parameter number) = search rules in
    by_hops ∙ sym (is_left-by_hops set program at parameter number)

pub returns-else-are_home_before : goal.returns-else-are_home_before
returns-else-are_home_before c =
    let set = c.args.set.now in
    let program = c.args.program in
    let at = c.args.at in
    let parameter = c.args.parameter in
    let number = c.args.number in
    let by_hops : c.if-is_argument.value ≡ (is_argument (ranges_of set program) parameter number && are_home_before set program at.hop parameter number && are_home_in set program at parameter number) = search rules in
    by_hops ∙ sym (is_left-by_hops set program at parameter number)
