use Rattle.std.proofs.Common.{◌≡◌, ◌∙◌, ◌∷◌, ◌++◌, ◌+◌, ◌<◌, ℕ, [], length, slice_set, get_or, Result, Err, List, sym, ap, subst, arith}
use Rattle.std.specs.Global.{Vec}
use Rattle.std.proofs.lemmas.List.{map-append}
use Rattle.std.proofs.lemmas.Option.{slice_get-get_or}
use Rattle.lynx_entry.specs.declared.entry.Entry.{Entry}
use Rattle.lynx_entry.specs.Entry.{History}
use Rattle.lynx_keep.specs.declared.fault.KeepFault.{KeepFault}
use Rattle.lynx_server.specs.Opening.{IsRead}
use Rattle.lynx_weave.specs.Rebuilt.{histories_in}
use Rattle.lynx_weave.specs.declared.gather_fault.GatherFault.{GatherFault}
use Rattle.lynx_weave.specs.inner.Loading.{Loads, LoadsAll, fault_of}
use Rattle.lynx_weave.proofs.Loadings.{FindsBelow, each_now, each_read, finds_more, no_room, not_loaded, untouched}
use Rattle.lynx_weave.proofs.gathering.load_all.Goals as goal

pub returns-clause-read : goal.returns-clause-read
returns-clause-read g c =
    each_now g.K.Keeper.terms (IsRead g.K.Keeper.terms) c.args.keepers.now c.loop-number.keepers c.loop-number.number (histories_in c.loop-number.histories.items)
    c.loop-number.invariant (λ before after history is. is.finds.read) (λ keeper. (untouched g.K.Keeper.terms keeper g.met.K.Keeper.settled).read)

pub returns-in_err-add-in-Ok-clause-read : goal.returns-in_err-add-in-Ok-clause-read
returns-in_err-add-in-Ok-clause-read g c =
    let finds = subst (λ (n : ℕ). FindsBelow g.K.Keeper.terms c.args.keepers.now c.loop-number.keepers n (histories_in c.loop-number.histories.items)) (sym c.from.ensures) c.loop-number.invariant in
    let within : c.from.result < length c.loop-number.keepers = omega (arith, c.from.ensures, c.loop-number.auto.keepers, c.servers-number-end.ensures.value, c.requires, c.loop-number-test.true) in
    each_read g.K.Keeper.terms c.args.keepers.now c.loop-number.keepers c.from.result (histories_in c.loop-number.histories.items)
    (get_or c.loop-number.keepers c.from.result c.index-keepers-from.result) c.load.new.keeper c.load.result g.met.K.Keeper.settled finds
    (slice_get-get_or c.loop-number.keepers c.from.result c.index-keepers-from.result within) c.load.ensures

pub returns-in_err-add-in-Ok-clause-all : goal.returns-in_err-add-in-Ok-clause-all
returns-in_err-add-in-Ok-clause-all g c =
    let finds = subst (λ (n : ℕ). FindsBelow g.K.Keeper.terms c.args.keepers.now c.loop-number.keepers n (histories_in c.loop-number.histories.items)) (sym c.from.ensures) c.loop-number.invariant in
    let within : c.from.result < length c.loop-number.keepers = omega (arith, c.from.ensures, c.loop-number.auto.keepers, c.servers-number-end.ensures.value, c.requires, c.loop-number-test.true) in
    let current = get_or c.loop-number.keepers c.from.result c.index-keepers-from.result in
    no_room g.K.Keeper.terms c.args.keepers.now c.loop-number.keepers c.from.result (histories_in c.loop-number.histories.items)
    current c.load.new.keeper c.in-Ok.entries.items g.met.K.Keeper.settled finds
    (slice_get-get_or c.loop-number.keepers c.from.result c.index-keepers-from.result within)
    (subst (λ (r : Result (Vec Entry) KeepFault). Loads g.K.Keeper.terms current c.load.new.keeper r) c.in-Ok.is c.load.ensures)
    c.from_residual.result c.from_residual.ensures.1

pub returns-in-Err-clause-read : goal.returns-in-Err-clause-read
returns-in-Err-clause-read g c =
    let finds = subst (λ (n : ℕ). FindsBelow g.K.Keeper.terms c.args.keepers.now c.loop-number.keepers n (histories_in c.loop-number.histories.items)) (sym c.from.ensures) c.loop-number.invariant in
    let within : c.from.result < length c.loop-number.keepers = omega (arith, c.from.ensures, c.loop-number.auto.keepers, c.servers-number-end.ensures.value, c.requires, c.loop-number-test.true) in
    each_read g.K.Keeper.terms c.args.keepers.now c.loop-number.keepers c.from.result (histories_in c.loop-number.histories.items)
    (get_or c.loop-number.keepers c.from.result c.index-keepers-from.result) c.load.new.keeper c.load.result g.met.K.Keeper.settled finds
    (slice_get-get_or c.loop-number.keepers c.from.result c.index-keepers-from.result within) c.load.ensures

pub returns-in-Err-clause-all : goal.returns-in-Err-clause-all
returns-in-Err-clause-all g c =
    let finds = subst (λ (n : ℕ). FindsBelow g.K.Keeper.terms c.args.keepers.now c.loop-number.keepers n (histories_in c.loop-number.histories.items)) (sym c.from.ensures) c.loop-number.invariant in
    let within : c.from.result < length c.loop-number.keepers = omega (arith, c.from.ensures, c.loop-number.auto.keepers, c.servers-number-end.ensures.value, c.requires, c.loop-number-test.true) in
    let current = get_or c.loop-number.keepers c.from.result c.index-keepers-from.result in
    subst (λ (f : GatherFault). LoadsAll g.K.Keeper.terms c.args.keepers.now (slice_set c.loop-number.keepers c.from.result c.load.new.keeper) (Err f))
    (sym (c.load_fault.ensures ∙ ap (λ n. fault_of n c.in-Err.fault) (c.at.ensures ∙ sym c.from.ensures)))
    (not_loaded g.K.Keeper.terms c.args.keepers.now c.loop-number.keepers c.from.result (histories_in c.loop-number.histories.items)
    current c.load.new.keeper c.in-Err.fault g.met.K.Keeper.settled finds
    (slice_get-get_or c.loop-number.keepers c.from.result c.index-keepers-from.result within)
    (subst (λ (r : Result (Vec Entry) KeepFault). Loads g.K.Keeper.terms current c.load.new.keeper r) c.in-Err.is c.load.ensures))

pub loop-number-preserved : goal.loop-number-preserved
loop-number-preserved g c =
    let finds = subst (λ (n : ℕ). FindsBelow g.K.Keeper.terms c.args.keepers.now c.loop-number.keepers n (histories_in c.loop-number.histories.items)) (sym c.from.ensures) c.loop-number.invariant in
    let within : c.from.result < length c.loop-number.keepers = omega (arith, c.from.ensures, c.loop-number.auto.keepers, c.servers-number-end.ensures.value, c.requires, c.loop-number-test.true) in
    let current = get_or c.loop-number.keepers c.from.result c.index-keepers-from.result in
    let more = finds_more g.K.Keeper.terms c.args.keepers.now c.loop-number.keepers c.from.result (histories_in c.loop-number.histories.items)
    current c.load.new.keeper c.in-Ok.entries.items finds
    (slice_get-get_or c.loop-number.keepers c.from.result c.index-keepers-from.result within)
    (subst (λ (r : Result (Vec Entry) KeepFault). Loads g.K.Keeper.terms current c.load.new.keeper r) c.in-Ok.is c.load.ensures) in
    let items : histories_in c.add.new.histories.items ≡ histories_in c.loop-number.histories.items ++ c.in-Ok.entries.items ∷ [] =
    ap histories_in c.in_ok-add-in-Ok.ensures ∙ map-append (λ (entries : Vec Entry). entries.items) c.loop-number.histories.items (c.in-Ok.entries ∷ []) in
    subst (λ (hs : List History). FindsBelow g.K.Keeper.terms c.args.keepers.now (slice_set c.loop-number.keepers c.from.result c.load.new.keeper) (c.loop-number.number + 1) hs) (sym items)
    (subst (λ (n : ℕ). FindsBelow g.K.Keeper.terms c.args.keepers.now (slice_set c.loop-number.keepers c.from.result c.load.new.keeper) (n + 1) (histories_in c.loop-number.histories.items ++ c.in-Ok.entries.items ∷ [])) c.from.ensures more)
