use Rattle.std.proofs.Common.{◌≡◌, List, ℕ, ap, sym, ◌∙◌, refl, true, false, not, Bool}
use Rattle.std.specs.Prelude.{bytes_eq, codes}
use Rattle.std.specs.Option.{option_copied}
use Rattle.lynx_status.proofs.AskedLaws.{by_method}
use Rattle.lynx_status.proofs.asking.refused_by.Goals as goal

same_get : (method word : List ℕ) (told : Bool) → word ≡ codes "GET" → told ≡ not (bytes_eq method word) → bytes_eq method (codes "GET") ≡ not told
same_get method word told is so = ap (bytes_eq method) (sym is) ∙ sym (not-not (bytes_eq method word)) ∙ ap not (sym so)
  where
    not-not : (b : Bool) → not (not b) ≡ b
    not-not true = refl
    not-not false = refl

pub returns-then-ne : goal.returns-then-ne
returns-then-ne c =
    sym (by_method c.args.method.now (option_copied c.args.host) c.in-Some.host.now false (ap option_copied c.in-Some.is) (sym c.if-not-is_local.ensures)
    (same_get c.args.method.now c.as_slice.result.now c.ne.result c.as_slice.ensures c.ne.ensures ∙ ap not c.if-ne.true))

pub returns : goal.returns
returns c =
    sym (by_method c.args.method.now (option_copied c.args.host) c.in-Some.host.now true (ap option_copied c.in-Some.is) (sym c.if-not-is_local.ensures)
    (same_get c.args.method.now c.as_slice.result.now c.ne.result c.as_slice.ensures c.ne.ensures ∙ ap not c.if-ne.false))
