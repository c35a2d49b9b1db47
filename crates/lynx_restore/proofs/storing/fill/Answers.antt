use Rattle.std.proofs.Common.{◌≡◌, sym, ap, ◌∙◌, subst}
use Rattle.std.proofs.lemmas.Bool.{eqb-true}
use Rattle.std.proofs.lemmas.List.{nil_from_length}
use Rattle.lynx_keep.specs.HeldBack.{Holding}
use Rattle.lynx_server.specs.Keeping.{kept_of}
use Rattle.lynx_restore.proofs.Storings.{held_back}
use Rattle.lynx_restore.proofs.storing.fill.Goals as goal

pub returns-in-Ok-refill : goal.returns-in-Ok-refill
returns-in-Ok-refill g c =
    let terms = g.L.Keeper.terms in
    let set = c.args.set.now in
    let opened = c.in-Ok.ensures in
    let filled = c.in-Ok-refill.filled in
    let refilled = c.in-Ok-refill.ensures.filled in
    let nothing = sym c.history.ensures.value ∙ nil_from_length c.history.result.now (eqb-true _ _ (sym c.is_empty.ensures ∙ c.if-not-is_empty.false)) in
    let same = held_back c.in-Ok.opened c.hold_back.result c.hold_back.ensures in
    let set_is : filled.set ≡ set = refilled.goes_on.set_is ∙ same.0 ∙ opened.set_is in
    let keeper_is : c.into_inner.result ≡ filled.keeper.inner =
    c.into_inner.ensures ∙ ap (λ (k : Holding g.row.L.Denot). k.inner) c.into_keeper.ensures.keeper in
    record {
      empty = λ sound kept keeps.
          let before = refilled.goes_on.sound_before (subst terms.sound keeper_is sound) in
          opened.finds.all (subst terms.sound same.1 before) kept keeps ∙ ap (kept_of set) nothing;
      keeps = λ sound.
          subst (λ k. terms.keeps k (kept_of set c.args.front.now)) (sym keeper_is)
          (subst (λ h. terms.keeps filled.keeper.inner (kept_of set h)) refilled.history_is
          (subst (λ s. terms.keeps filled.keeper.inner (kept_of s filled.history)) set_is (refilled.settled.kept (subst terms.sound keeper_is sound))));
    }
