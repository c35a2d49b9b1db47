use Rattle.std.proofs.Common.{◌≡◌, ◌∙◌, ◌⊎◌, ℕ, true, Some, sym, ap, subst, arith}
use Rattle.std.proofs.lemmas.Option.{slice_get-get_or}
use Rattle.lynx_cluster.specs.inner.Absent.{is_marked}
use Rattle.lynx_cluster.proofs.Absences.{marked_all, marked_more, marked_none}
use Rattle.lynx_cluster.proofs.absent.mark_all.Goals as goal

pub loop-session-init : goal.loop-session-init
loop-session-init c = marked_none c.args.sessions.now c.args.is_here.now.items

pub loop-session-preserved : goal.loop-session-preserved
loop-session-preserved c =
    let here = c.session-item.result in
    let number_is = c.number.ensures in
    marked_more c.args.sessions.now c.loop-session.session-index here c.args.is_here.now.items c.loop-session.is_here.items c.mark.new.is_here.items
    (slice_get-get_or c.args.sessions.now c.loop-session.session-index here (omega arith) ∙ ap Some (sym c.session-item.is))
    (ap (is_marked c.mark.new.is_here.items) (sym number_is) ∙ c.mark.ensures.marked) c.mark.ensures.others
    (λ other is. subst (λ (n : ℕ). (is_marked c.loop-session.is_here.items other ≡ true) ⊎ (other ≡ n)) number_is (c.mark.ensures.only other is))
    c.mark.ensures.as_long c.loop-session.invariant

pub returns : goal.returns
returns c =
    let past = c.loop-session-test.false in
    let upto = c.loop-session.auto.session-index-end in
    marked_all c.args.sessions.now c.loop-session.session-index c.args.is_here.now.items c.loop-session.is_here.items (omega (arith, past, upto)) c.loop-session.invariant
