use Rattle.std.proofs.Common.{◌≡◌, ◌∙◌, ◌+◌, Option, Some, None, IfOk, sym, ap, subst, arith}
use Rattle.std.specs.Option.{option_and_then}
use Rattle.lynx_entry.specs.declared.entry.Entry.{Entry}
use Rattle.lynx_entry.specs.declared.message.Message.{Message}
use Rattle.lynx_rules.specs.Messages.{next_message}
use Rattle.lynx_world.specs.Servers.{list_of}
use Rattle.lynx_world.specs.inner.Senders.{act_in}
use Rattle.lynx_world.specs.Steps.{sent_message}
use Rattle.lynx_world.specs.Worlds.{WorldState}
use Rattle.lynx_world.proofs.Finding.{none_for_first, sent_by_act}
use Rattle.lynx_world.proofs.world.World.sent_message.Goals as goal

pub returns-in_default : goal.returns-in_default
returns-in_default c =
    let first : 0 ≡ c.args.hop = grind (arith, c.in_default.ensures) in
    sym (none_for_first c.args.self.now.set c.args.self.now.list c.args.chain.now)
    ∙ ap (λ n. sent_message c.args.self.now.set c.args.chain.now n c.args.self.now.list) first

pub returns-in-Some-act_of : goal.returns-in-Some-act_of
returns-in-Some-act_of c =
    let set = c.self.inside.set in
    let list = list_of c.self.inside.servers.items c.self.inside.order.items in
    let chain = c.args.chain.now in
    let hop : c.in-Some.before + 1 ≡ c.args.hop = omega (arith, c.in-Some.ensures.0, c.in-Some.ensures.1) in
    let entry : Some c.in-Some-act_of.entry.now ≡ act_in chain c.in-Some.before list =
    c.in-Some-act_of.ensures ∙ ap (λ (w : WorldState). act_in chain c.in-Some.before w.list) (sym c.self.view_is) in
    let is : next_message set c.in-Some-act_of.entry.now ≡ sent_message c.args.self.now.set chain c.args.hop c.args.self.now.list =
    ap (option_and_then (next_message set)) entry ∙ sym (sent_by_act set list chain c.in-Some.before c.self.invariant.is_legal)
    ∙ ap (λ n. sent_message set chain n list) hop ∙ ap (λ (w : WorldState). sent_message w.set chain c.args.hop w.list) c.self.view_is in
    subst (λ (m : Option Message). IfOk c.next_of.result (λ found. found ≡ m)) is c.next_of.ensures

pub returns-in-None : goal.returns-in-None
returns-in-None c =
    let set = c.self.inside.set in
    let list = list_of c.self.inside.servers.items c.self.inside.order.items in
    let chain = c.args.chain.now in
    let hop : c.in-Some.before + 1 ≡ c.args.hop = omega (arith, c.in-Some.ensures.0, c.in-Some.ensures.1) in
    let none : Option Entry = None in
    let nothing : none ≡ act_in chain c.in-Some.before list =
    c.in-None.ensures ∙ ap (λ (w : WorldState). act_in chain c.in-Some.before w.list) (sym c.self.view_is) in
    ap (option_and_then (next_message set)) nothing ∙ sym (sent_by_act set list chain c.in-Some.before c.self.invariant.is_legal)
    ∙ ap (λ n. sent_message set chain n list) hop ∙ ap (λ (w : WorldState). sent_message w.set chain c.args.hop w.list) c.self.view_is
