use Rattle.std.proofs.Common.{List, Option, subst}
use Rattle.std.specs.Global.{Vec}
use Rattle.std.specs.Prelude.{IfSome}
use Rattle.lynx_carry.specs.Carried.{IsCarriedWorld}
use Rattle.lynx_carry.specs.Histories.{histories_of}
use Rattle.lynx_carry.specs.declared.naming.NamedCell.{NamedCell}
use Rattle.lynx_restore.specs.Restored.{AreStored}
use Rattle.lynx_set.specs.Set.{Set}
use Rattle.lynx_cli.specs.Carrying.{AreToCarry}
use Rattle.lynx_cli.proofs.carrying.carry_kept.Goals as goal

pub returns : goal.returns
returns g c = λ _.
    let world = c.in_ok-world.world in
    let carried : IsCarriedWorld c.args.set c.in-Some.cells.items world =
    subst (λ (cells : List NamedCell). IsCarriedWorld c.args.set cells world) c.as_slice.ensures.value c.in_ok-world.ensures in
    record {
      cells = c.in-Some.cells.items;
      to_carry =
          subst (λ (found : Option (Vec NamedCell)). IfSome found (λ cells. AreToCarry g.K.Keeper.terms c.args.copied.set c.args.copied.keepers.items c.args.dropped.now cells.items))
          c.in-Some.is c.in_ok-cells.ensures;
      world = world;
      carried = carried;
      stored =
          subst (λ (set : Set). AreStored g.L.Keeper.terms g.S.Stores.store_terms c.args.folder.now set (histories_of world)) carried.set_is c.in_ok-store_world.ensures;
    }
