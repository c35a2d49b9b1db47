use Rattle.std.proofs.Common.{ap, inl, inr, length, List, refl, subst}
use Rattle.lynx_entry.specs.declared.entry.Entry.{Entry}
use Rattle.lynx_keep.specs.Kept.{kept_in}
use Rattle.lynx_server.specs.History.{IsFirstUnlawful}
use Rattle.lynx_server.specs.inner.Repeating.{IsReplay, IsReplayed}
use Rattle.lynx_server.specs.declared.replay.Replayed.{Replayed}
use Rattle.lynx_server.proofs.Opened.{other_cells}
use Rattle.lynx_server.proofs.opening.read_back.Goals as goal

pub returns-in-Differs : goal.returns-in-Differs
returns-in-Differs g c = record {
  found = kept_in c.in_ok-loaded.loaded;
  finds = record {
    read = record { sound_before = c.load.ensures.sound; stop = c.load.ensures.stop; counts = c.load.ensures.counts };
    kept = c.in_ok-loaded.ensures.ok;
    all = c.in_ok-loaded.ensures.all;
  };
  damaged =
      let first : IsFirstUnlawful c.args.set.now c.args.server c.as_slice-entries.result.now c.in-Differs.place =
      subst (λ (r : Replayed). IsReplay c.args.set.now c.args.server c.as_slice-entries.result.now r) c.in-Differs.is c.in_ok-replayed.ensures in
      inl (subst (λ (e : List Entry). IsFirstUnlawful c.args.set.now c.args.server e c.in-Differs.place) c.as_slice-entries.ensures.value first);
}

pub returns-then-not-branch : goal.returns-then-not-branch
returns-then-not-branch g c = record {
  found = kept_in c.in_ok-loaded.loaded;
  finds = record {
    read = record { sound_before = c.load.ensures.sound; stop = c.load.ensures.stop; counts = c.load.ensures.counts };
    kept = c.in_ok-loaded.ensures.ok;
    all = c.in_ok-loaded.ensures.all;
  };
  damaged =
      let replayed : IsReplayed c.args.set.now c.args.server c.in_ok-loaded.loaded.entries.items c.in-Done.replayed =
      subst (λ (e : List Entry). IsReplayed c.args.set.now c.args.server e c.in-Done.replayed) c.as_slice-entries.ensures.value
      (subst (λ (r : Replayed). IsReplay c.args.set.now c.args.server c.as_slice-entries.result.now r) c.in-Done.is c.in_ok-replayed.ensures) in
      inr (other_cells c.args.set.now c.args.server c.in_ok-loaded.loaded.entries.items c.in_ok-loaded.loaded.cells.database (kept_in c.in_ok-loaded.loaded)
      c.in-Done.replayed c.cells.result.now.database c.in_ok-same_cells.field-0 (length c.as_slice-entries.result.now) replayed refl refl c.cells.ensures
      c.in_ok-same_cells.ensures c.if-not-branch.true (ap length c.as_slice-entries.ensures.value));
}
