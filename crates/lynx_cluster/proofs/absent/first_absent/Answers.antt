use Rattle.std.proofs.Common.{◌∙◌, Bool, false, List, length, ap, subst}
use Rattle.std.proofs.lemmas.List.{length-replicate}
use Rattle.lynx_cluster.specs.inner.Absent.{IsFirstUnmarked}
use Rattle.lynx_cluster.proofs.Absences.{unmarked_absent}
use Rattle.lynx_cluster.proofs.absent.first_absent.Goals as goal

pub returns : goal.returns
returns c =
    let made = c.in_ok-is_here.ensures in
    let off = made.items_if_clones_equal (λ y same. same) in
    unmarked_absent c.args.sessions.now c.args.made c.in_ok-is_here.is_here.items c.mark_all.new.is_here.items c.first_unmarked.result
    off (ap length off ∙ length-replicate c.args.made false) c.mark_all.ensures
    (subst (λ (marks : List Bool). IsFirstUnmarked marks c.first_unmarked.result) c.as_slice.ensures.value c.first_unmarked.ensures)
