use Rattle.std.proofs.Common.{◌≡◌, Some, ap, sym, ◌∙◌, rules}
use Rattle.lynx_keep.specs.Stored.{encoding_of}
use Rattle.lynx_store.proofs.Told.{whole_encoding}
use Rattle.lynx_store.proofs.body.entry_of.Goals as goal

pub returns-in_default-clause-none : goal.returns-in_default-clause-none
returns-in_default-clause-none c entry formed is =
    c.in_default.not-Some entry (whole_encoding c.in_ok-entry.field-0 c.args.body.now c.in_ok-entry.ensures.only entry formed is)

pub returns-else-eq-clause-none : goal.returns-else-eq-clause-none
returns-else-eq-clause-none c entry formed is =
    let found : Some c.in-Some.entry ≡ Some entry = sym c.in-Some.is ∙ whole_encoding c.in_ok-entry.field-0 c.args.body.now c.in_ok-entry.ensures.only entry formed is in
    let own : c.in-Some.entry ≡ entry = cc in
    let equal : c.as_slice.result.now ≡ c.args.body.now = c.as_slice.ensures.value ∙ c.in_ok-body_of.ensures.encoding ∙ ap encoding_of own ∙ sym is in
    search rules
