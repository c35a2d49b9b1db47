use Rattle.std.proofs.Common.{◌≡◌, ◌<◌, ◌^◌, length, sym, ap, subst, ◌∙◌, arith, IsTrue, rules}
use Rattle.lynx_sql.specs.Acts.{ShowActed}
use Rattle.lynx_store.specs.Acts.{acted_of}
use Rattle.lynx_store.proofs.RowsRead.{same_shown}
use Rattle.lynx_store.proofs.keeper.loaded_of.Goals as goal

pub returns-then-not-branch-clause-failed : goal.returns-then-not-branch-clause-failed
returns-then-not-branch-clause-failed c is kept few tells =
    let entries = c.in-Some.entries.items in
    let told = rw c.in-Some.is at c.in_ok-entries.ensures.some in
    let low = rw c.in-Some.is at c.in_ok-entries.ensures.few in
    let same : entries ≡ kept.entries = same_shown c.args.rows.now.entries.items entries kept.entries told.1 tells.formed (sym c.as_slice-2.ensures.value ∙ told.0) tells.shown.entries in
    let own : c.as_slice-4.result.now ≡ entries = c.as_slice-4.ensures.value in
    let acted : ShowActed c.args.rows.now.acted (acted_of c.args.heading.now.version c.as_slice-4.result.now) =
    subst (λ es. ShowActed c.args.rows.now.acted (acted_of c.args.heading.now.version es)) (sym (own ∙ same)) tells.shown.acted in
    let many : length c.as_slice-4.result.now < 2 ^ 32 = omega (arith, ap length own, low) in
    let shown : IsTrue c.in_ok-are_acts_shown.field-0 = c.in_ok-are_acts_shown.ensures.only many acted in
    search rules
