use Rattle.std.proofs.Common.{◌≡◌, inl, inr, Some, Err, length, sym, ap, subst, ◌∙◌, arith}
use Rattle.sqlite.specs.Held.{state}
use Rattle.lynx_keep.specs.Kept.{KeptState, kept_in}
use Rattle.lynx_store.specs.Heading.{owner_in}
use Rattle.lynx_store.specs.Stored.{IsKept, Tells, contents_of, title_for}
use Rattle.lynx_store.proofs.Kept.{placed}
use Rattle.lynx_store.proofs.RowsRead.{one_shown, one_state, shows_no_other}
use Rattle.lynx_store.proofs.opening.count_kept.Goals as goal

pub returns-in-Ok-loaded_of-clause-kept : goal.returns-in-Ok-loaded_of-clause-kept
returns-in-Ok-loaded_of-clause-kept g c clean =
    let owner = owner_in c.args.heading.now in
    let kept : KeptState = kept_in c.in-Ok-loaded_of.loaded in
    let tells = c.in-Ok-loaded_of.ensures.told in
    let counted : c.in-Ok-try_from.count ≡ length c.in-Ok-loaded_of.loaded.entries.items = omega (arith, c.in-Ok-try_from.ensures, c.len.ensures) in (
      kept,
      record {
        tables = c.in-Ok.ensures.back clean (contents_of owner kept) tells.cells (placed c.args.heading.now.version c.in-Ok-loaded_of.loaded.entries.items tells.formed) tells.shown;
        counted = counted;
        formed = tells.formed;
      },
    )

pub returns-in-Ok-loaded_of-clause-same : goal.returns-in-Ok-loaded_of-clause-same
returns-in-Ok-loaded_of-clause-same g c clean before kept was =
    let owner = owner_in c.args.heading.now in
    let told : KeptState = kept_in c.in-Ok-loaded_of.loaded in
    let tells = c.in-Ok-loaded_of.ensures.told in
    let counted : c.in-Ok-try_from.count ≡ length c.in-Ok-loaded_of.loaded.entries.items = omega (arith, c.in-Ok-try_from.ensures, c.len.ensures) in
    let is : kept ≡ told = one_state c.in-Ok.rows owner kept told was.formed (c.in-Ok.ensures.ok clean (contents_of owner kept) was.tables) tells in
    let now : IsKept (state g.S.Store c.read_rows.new.conn) owner c.in-Ok-try_from.count told = record {
      tables = c.in-Ok.ensures.back clean (contents_of owner told) tells.cells (placed c.args.heading.now.version c.in-Ok-loaded_of.loaded.entries.items tells.formed) tells.shown;
      counted = counted;
      formed = tells.formed;
    } in
    subst (IsKept (state g.S.Store c.read_rows.new.conn) owner c.in-Ok-try_from.count) (sym is) now

pub returns-in-Some-clause-other : goal.returns-in-Some-clause-other
returns-in-Some-clause-other g c clean other before kept was =
    let owner = owner_in c.args.heading.now in
    let shown = c.as_slice.ensures.value ∙ (c.in-Ok.ensures.ok clean (contents_of owner kept) was.tables).title in
    shows_no_other c.as_slice.result.now owner shown (elim other [
      | inl is ↦ inr (c.heading_fault.ensures.other_set (c.in-Some.is ∙ ap Some is))
      | inr is ↦ inl (c.heading_fault.ensures.other_version (c.in-Some.is ∙ ap Some is))
    ])

pub returns-in-Some-clause-damaged : goal.returns-in-Some-clause-damaged
returns-in-Some-clause-damaged g c clean is count kept few was =
    let owner = owner_in c.args.heading.now in
    let shown = c.as_slice.ensures.value ∙ (c.in-Ok.ensures.ok clean (contents_of owner kept) was.tables).title in
    c.heading_fault.ensures.damaged (c.in-Some.is ∙ ap Some is) (title_for owner) shown

pub returns-in-Some-clause-other_version : goal.returns-in-Some-clause-other_version
returns-in-Some-clause-other_version g c clean is =
    let told = c.heading_fault.ensures.other_version (c.in-Some.is ∙ ap Some is) in
    (told.0, c.in-Ok.ensures.titled clean told.0 (sym c.as_slice.ensures.value ∙ told.1), told.2)

pub returns-in-Some-clause-other_set : goal.returns-in-Some-clause-other_set
returns-in-Some-clause-other_set g c clean is =
    let told = c.heading_fault.ensures.other_set (c.in-Some.is ∙ ap Some is) in
    (told.0, c.in-Ok.ensures.titled clean told.0 (sym c.as_slice.ensures.value ∙ told.1), told.2, told.3)

pub returns-clause-damaged : goal.returns-clause-damaged
returns-clause-damaged g c clean is count kept few was =
    let owner = owner_in c.args.heading.now in
    let tells : Tells c.in-Ok.rows owner kept = record {
      cells = c.in-Ok.ensures.formed clean (contents_of owner kept) was.tables;
      shown = c.in-Ok.ensures.ok clean (contents_of owner kept) was.tables;
      formed = was.formed;
    } in
    c.in-Err-Failed.ensures.failed (ap Err c.in-Err-Failed.field-0-is) kept (omega (arith, few, was.counted)) tells

pub returns-in-Some-clause-ordered : goal.returns-in-Some-clause-ordered
returns-in-Some-clause-ordered g c clean is schema title holds =
    absurd (c.heading_fault.ensures.damaged (c.in-Some.is ∙ ap Some is) title (c.as_slice.ensures.value ∙ c.in-Ok.ensures.shown clean title holds))

pub returns-clause-ordered : goal.returns-clause-ordered
returns-clause-ordered g c clean is schema title holds =
    let shown = c.as_slice.ensures.value ∙ c.in-Ok.ensures.shown clean title holds in
    let none = rw c.in_default-heading_fault.is at c.heading_fault.ensures.none in
    one_shown title (title_for (owner_in c.args.heading.now)) (sym shown ∙ none)
