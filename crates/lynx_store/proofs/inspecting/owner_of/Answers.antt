use Rattle.std.proofs.Common.{◌≡◌, ◌<◌, Some, ap, sym, subst, ◌∙◌, arith, IsTrue}
use Rattle.std.specs.Fmt.{decimal}
use Rattle.lynx_names.specs.declared.limits.TheConstants.{MAX_SERVERS}
use Rattle.lynx_set.specs.Set.{Set}
use Rattle.lynx_text.proofs.OneSet.{one_set}
use Rattle.lynx_store.proofs.inspecting.owner_of.Goals as goal
use Rattle.lynx_store.proofs.inspecting.owner_of.Goals.{in_default-via-in-Some+else-has_server, in_default-via-in_default}

pub returns-in_default-clause-damaged : goal.returns-in_default-clause-damaged
returns-in_default-clause-damaged c is server chains of same =
    let told = c.in_ok-set.ensures.ok in
    let one : c.in_ok-set.set ≡ chains = one_set c.in_ok-set.set chains told.0 of.set (sym told.1 ∙ c.as_slice.ensures.value ∙ ap (λ owner. owner.set) same) in
    let text : c.as_slice-2.result.now ≡ decimal server = c.as_slice-2.ensures.value ∙ ap (λ owner. owner.server) same in
    let low : server < MAX_SERVERS = omega (arith, of.server_is, of.set.0.1) in
    let found = c.server_in.ensures.only server low text in
    elim c.in_default.branch [
      | in_default-via-in-Some+else-has_server w ↦
          let own : w.in-Some.server ≡ server = let both : Some w.in-Some.server ≡ Some server = sym w.in-Some.is ∙ found in cc in
          let here : server < c.in_ok-set.set.servers = subst (λ (set : Set). server < set.servers) (sym one) of.server_is in
          let has : IsTrue w.has_server.result = w.has_server.ensures.1 (omega (arith, own, here)) in
          absurd (let no = sym has ∙ w.if-has_server.false in cc)
      | in_default-via-in_default w ↦ w.in_default.not-Some server found
    ]
