use Rattle.std.proofs.Common.{◌≡◌, ◌∙◌, Option, Some, None, ap, sym, refl, subst}
use Rattle.lynx_entry.specs.declared.message.Message.{Message}
use Rattle.lynx_server.specs.Serving.{Lasts, told_stopped, woken_entry, woken_of}
use Rattle.lynx_server.proofs.server.Server.wake.Goals as goal

pub returns-in_default-clause-stopped : goal.returns-in_default-clause-stopped
returns-in_default-clause-stopped g c = λ stops.
    let none : Option Message = None in
    let is : none ≡ woken_of c.args.self.now = rw (← c.self.view_is) (rw c.as_slice.ensures.messages at c.in_default.ensures) in
    (ap told_stopped is, refl)

pub returns-in_default-clause-wakes : goal.returns-in_default-clause-wakes
returns-in_default-clause-wakes g c = λ runs.
    let none : Option Message = None in
    let is : none ≡ woken_of c.args.self.now = rw (← c.self.view_is) (rw c.as_slice.ensures.messages at c.in_default.ensures) in
    (sym is, record { set_is = refl; server_is = refl; history_is = refl; held_is = refl; stopped_is = refl; opened_is = refl; acknowledged_is = refl })

pub returns-then-self-clause-stopped : goal.returns-then-self-clause-stopped
returns-then-self-clause-stopped g c = λ stops.
    let is : Some c.in-Some.message.now ≡ woken_of c.args.self.now = rw (← c.self.view_is) (rw c.as_slice.ensures.messages at c.in-Some.ensures) in
    (ap told_stopped is, refl)

pub returns-in_default-copy-clause-wakes : goal.returns-in_default-copy-clause-wakes
returns-in_default-copy-clause-wakes g c = λ runs.
    let is : Some c.in-Some.message.now ≡ woken_of c.args.self.now = rw (← c.self.view_is) (rw c.as_slice.ensures.messages at c.in-Some.ensures) in
    record {
      message = c.in-Some.message.now;
      message_is = sym is;
      chain_is = refl;
      hop_is = refl;
      wakes = record { set_is = refl; server_is = refl; history_is = refl; held_is = refl; stopped_is = refl; opened_is = refl; acknowledged_is = refl };
    }

pub returns-clause-wakes : goal.returns-clause-wakes
returns-clause-wakes g c = λ runs.
    let is : Some c.in-Some.message.now ≡ woken_of c.args.self.now = rw (← c.self.view_is) (rw c.as_slice.ensures.messages at c.in-Some.ensures) in
    let same : c.in-Ok.copied ≡ c.in-Some.message.now = c.in-Ok.ensures in
    record {
      message = c.in-Ok.copied;
      message_is = sym is ∙ ap Some (sym same);
      chain_is = ap (λ (m : Message). m.chain) (sym same);
      hop_is = ap (λ (m : Message). m.hop) (sym same);
      wakes = c.deliver_woken-delivered.ensures.wakes;
    }

pub returns-clause-lasts : goal.returns-clause-lasts
returns-clause-lasts g c = λ runs.
    let is : Some c.in-Some.message.now ≡ woken_of c.args.self.now = rw (← c.self.view_is) (rw c.as_slice.ensures.messages at c.in-Some.ensures) in
    let same : Some c.in-Ok.copied ≡ woken_of c.args.self.now = ap Some c.in-Ok.ensures ∙ is in
    subst (λ (woken : Option Message). Lasts g.K.Keeper.terms c.args.self.now (woken_entry c.args.self.now woken) c.deliver_woken-delivered.new.self) same
    c.deliver_woken-delivered.ensures.lasts
