use Rattle.lynx_entry.specs.declared.event.Event.TheVariants.{Begin, Wake}
use Rattle.lynx_rerun.specs.Events.{IsBegun, IsWoken}
use Rattle.lynx_rerun.proofs.Calling.{comes_of}
use Rattle.lynx_rerun.proofs.events.apply.Goals as goal

pub returns-in_ok-begin-in-Begin : goal.returns-in_ok-begin-in-Begin
returns-in_ok-begin-in-Begin g c =
    let outcome = c.in_ok-begin-in-Begin.field-0 in
    comes_of g.K.Keeper.terms c.args.set.now c.args.event (Begin c.in-Begin.server c.in-Begin.request c.in-Begin.seen) c.in-Begin.server outcome
    (IsBegun g.K.Keeper.terms c.in-Begin.request c.in-Begin.seen outcome) c.args.servers.now.items c.as_mut_slice.result.now c.begin.new.servers c.args.servers.now.len
    c.in-Begin.is c.as_mut_slice.ensures.value c.as_mut_slice.ensures.len (λ servers calls. calls) c.in_ok-begin-in-Begin.ensures

pub returns-in_ok-wake-in-Wake : goal.returns-in_ok-wake-in-Wake
returns-in_ok-wake-in-Wake g c =
    let outcome = c.in_ok-wake-in-Wake.field-0 in
    comes_of g.K.Keeper.terms c.args.set.now c.args.event (Wake c.in-Wake.server) c.in-Wake.server outcome
    (IsWoken g.K.Keeper.terms c.in-Wake.server outcome) c.args.servers.now.items c.as_mut_slice-in-Wake.result.now c.wake.new.servers c.args.servers.now.len
    c.in-Wake.is c.as_mut_slice-in-Wake.ensures.value c.as_mut_slice-in-Wake.ensures.len (λ servers calls. calls) c.in_ok-wake-in-Wake.ensures
