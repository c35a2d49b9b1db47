use Rattle.std.proofs.Common.{◌≡◌, ◌∙◌, [], ℕ, Global, Option, ap, subst, sym, take}
use Rattle.std.specs.Arc.{arc_value}
use Rattle.std.specs.declared.sync.Arc.{Arc}
use Rattle.lynx_entry.specs.Entry.{History}
use Rattle.lynx_server.specs.History.{IsLawfulHistory}
use Rattle.lynx_set.specs.Set.{Set}
use Rattle.lynx_resting.specs.Mirrors.{IsMirrorOf, MirrorState}
use Rattle.lynx_resting.specs.Resting.{Mirrors}
use Rattle.lynx_resting.proofs.Finding.{lawful_front}
use Rattle.lynx_resting.proofs.resting.Resting.follow_mirror.Goals as goal

-- the front of a lawful history is lawful
pub follow-requires-clause-lawful : goal.follow-requires-clause-lawful
follow-requires-clause-lawful g c =
    let here = c.self.inside.server in
    let settled = c.self.inside.settled in
    let mirror = c.in-Ok.mirror in
    let is : IsMirrorOf here.set here.server (take settled here.history) (arc_value c.in-Some.shared) =
    subst (λ (m : Option (Arc MirrorState Global)). Mirrors here settled m) (sym c.take.ensures.value ∙ c.in-Some.is) c.self.invariant.mirrors in
    let set_is : mirror.set ≡ here.set = ap (λ (m : MirrorState). m.set) c.in-Ok.ensures.ok ∙ is.set_is in
    let server_is : mirror.server ≡ here.server = ap (λ (m : MirrorState). m.server) c.in-Ok.ensures.ok ∙ is.server_is in
    subst (λ (h : History). IsLawfulHistory mirror.set mirror.server (take settled h)) (sym c.history-2.ensures.value)
    (subst (λ (n : ℕ). IsLawfulHistory mirror.set n (take settled here.history)) (sym server_is)
    (subst (λ (s : Set). IsLawfulHistory s here.server (take settled here.history)) (sym set_is)
    (lawful_front here.set here.server [] here.history settled c.history.ensures.lawful)))
