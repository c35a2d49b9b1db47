use Rattle.std.proofs.Common.{◌≡◌, ◌∙◌, IsTrue, ap, length, sym}
use Rattle.lynx_keep.specs.Kept.{kept_in}
use Rattle.lynx_rules.specs.Tables.{tables_of}
use Rattle.lynx_follow.proofs.following.read_back.Goals as goal

-- the cells aren't those that the entries leave
pub returns-then-not-branch : goal.returns-then-not-branch
returns-then-not-branch g c = record {
  found = kept_in c.in_ok-loaded.loaded;
  finds = record {
    read = record { sound_before = c.load.ensures.sound; stop = c.load.ensures.stop; counts = c.load.ensures.counts };
    kept = c.in_ok-loaded.ensures.ok;
    all = c.in_ok-loaded.ensures.all;
  };
  place_is = ap length c.as_slice-entries.ensures.value;
  cells_differ = λ theirs.
      let leaves : c.in_ok-cells.cells.database ≡ tables_of c.args.set.now c.in_ok-loaded.loaded.entries.items =
      c.in_ok-cells.ensures ∙ ap (tables_of c.args.set.now) c.as_slice-entries.ensures.value in
      never (c.in_ok-same_cells.ensures.1 (leaves ∙ sym theirs));
}
  where
    never : IsTrue c.in_ok-same_cells.field-0 → ⊥
    never same_is = let no = sym c.if-not-branch.true ∙ same_is in cc
