use Rattle.std.proofs.Common.{length, sym, ap, ◌∙◌, arith}
use Rattle.sqlite.specs.Effect.{Database as Found}
use Rattle.sqlite.specs.State.{HasCleanDisk}
use Rattle.sqlite.specs.Held.{state}
use Rattle.lynx_sql.specs.Contents.{Contents}
use Rattle.lynx_sql.specs.Steps.{Keeps}
use Rattle.lynx_sql.specs.Tables.{meta_tree}
use Rattle.lynx_sql.specs.Texts.{titles_text, entries_text, cells_text}
use Rattle.lynx_sql.proofs.Understood.{titles_plain, entries_plain, cells_plain}
use Rattle.lynx_sql.proofs.ReadLemmas.{title_read, titles_answer, entries_shown, entries_answer, cells_shown, cells_answer}
use Rattle.lynx_sql.proofs.AfterQuery.{unchanged, title_kept, entries_kept, cells_kept}
use Rattle.lynx_sql.proofs.CellsBack.{cells_formed}
use Rattle.lynx_sql.proofs.FoundCells.{cells_back}
use Rattle.lynx_sql.proofs.KeptBack.{keeps_over, kept_back}
use Rattle.lynx_sql.proofs.reading.read_rows.Goals as goal

pub read_store-requires : goal.read_store-requires
read_store-requires g c version has = titles_plain version

pub read_store-requires-2 : goal.read_store-requires-2
read_store-requires-2 g c version has = entries_plain version

pub read_store-requires-3 : goal.read_store-requires-3
read_store-requires-3 g c version has = cells_plain version

-- the disk was clean after each reading before the last
clean_in : (g : _) (c : goal.In_ok-cells g) → HasCleanDisk (state g.S.Store c.read_store-3.new.conn)
    → HasCleanDisk (state g.S.Store c.read_acted.new.conn) × HasCleanDisk (state g.S.Store c.read_store.new.conn) × HasCleanDisk (state g.S.Store c.read_store-2.new.conn)
clean_in g c clean =
    let d_clean : HasCleanDisk (state g.S.Store c.read_store-2.new.conn) = omega (arith, c.read_store-3.ensures.clean) in
    let b_clean : HasCleanDisk (state g.S.Store c.read_store.new.conn) = omega (arith, c.read_store-2.ensures.clean) in
    (omega (arith, c.read_store.ensures.clean), b_clean, d_clean)

-- and what was kept before the first is kept after each
kept_in : (g : _) (c : goal.In_ok-cells g) → HasCleanDisk (state g.S.Store c.read_store-3.new.conn) → (contents : Contents) → Keeps (state g.S.Store c.args.conn.now) contents
    → Keeps (state g.S.Store c.read_acted.new.conn) contents × Keeps (state g.S.Store c.read_store.new.conn) contents × Keeps (state g.S.Store c.read_store-2.new.conn) contents
kept_in g c clean contents keeps =
    let cleans = clean_in g c clean in
    let at_a = c.in_ok-acted.ensures.kept cleans.0 contents keeps in
    let at_b = keeps_over _ _ contents (c.in_ok-title.ensures.store cleans.1).is_open (c.in_ok-title.ensures.same cleans.1) at_a in
    (at_a, at_b, keeps_over _ _ contents (c.in_ok-entries.ensures.store cleans.2).is_open (c.in_ok-entries.ensures.same cleans.2) at_b)

pub returns-clause-ok : goal.returns-clause-ok
returns-clause-ok g c clean contents keeps =
    let cleans = clean_in g c clean in
    let at = kept_in g c clean contents keeps in
    record {
      title = title_read _ _ _ (c.in_ok-title.ensures.shown cleans.1) contents.title at.0.is_open at.0.tables.meta;
      entries = entries_shown _ _ _ (c.in_ok-entries.ensures.shown cleans.2) contents at.1;
      cells = cells_back _ contents.cells (cells_shown _ _ _ (c.in_ok-cells.ensures.shown clean) contents at.2);
      acted = c.in_ok-acted.ensures.ok cleans.0 contents keeps;
    }

pub returns-clause-formed : goal.returns-clause-formed
returns-clause-formed g c clean contents keeps = cells_formed _ contents.cells (cells_shown _ _ _ (c.in_ok-cells.ensures.shown clean) contents (kept_in g c clean contents keeps).2)

pub returns-clause-titled : goal.returns-clause-titled
returns-clause-titled g c clean title shown =
    let cleans = clean_in g c clean in
    let it = c.in_ok-title.ensures.shown cleans.1 in
    let same = (c.in_ok-title.ensures.same cleans.1).1 ∙ (c.in_ok-acted.ensures.same cleans.0).1 in
    ap (λ (db : Found). db.trees meta_tree) (sym same)
    ∙ title_kept g.S.Store c.read_acted.new.conn c.read_store.new.conn titles_text _ (λ version has. titles_plain version) it (g.met.S.Rising.rises c.read_acted.new.conn.store) (titles_answer _ _ _ it) title shown

pub returns-clause-shown : goal.returns-clause-shown
returns-clause-shown g c clean title holds =
    let cleans = clean_in g c clean in
    let it = c.in_ok-title.ensures.shown cleans.1 in
    let same = unchanged g.S.Store c.read_acted.new.conn c.read_store.new.conn titles_text _ (λ version has. titles_plain version) it in
    title_read _ _ _ it title same.0.was_open (ap (λ (db : Found). db.trees meta_tree) (c.in_ok-acted.ensures.same cleans.0).1 ∙ holds)

pub returns-clause-back : goal.returns-clause-back
returns-clause-back g c clean contents are placed shown =
    let a = c.read_acted.new.conn in
    let b = c.read_store.new.conn in
    let d = c.read_store-2.new.conn in
    let new = c.read_store-3.new.conn in
    let cleans = clean_in g c clean in
    let acted = c.in_ok-acted.ensures.back cleans.0 contents.acted (length contents.bodies) placed shown.acted in
    let title = c.in_ok-title.ensures.shown cleans.1 in
    let entries = c.in_ok-entries.ensures.shown cleans.2 in
    let cells = c.in_ok-cells.ensures.shown clean in
    kept_back (state g.S.Store a) (state g.S.Store b) (state g.S.Store d) (state g.S.Store new) contents (c.in_ok-cells.ensures.store clean) acted.1 acted.0
    (title_kept g.S.Store a b titles_text _ (λ version has. titles_plain version) title (g.met.S.Rising.rises a.store) (titles_answer _ _ _ title) contents.title shown.title)
    (entries_kept g.S.Store b d entries_text _ (λ version has. entries_plain version) entries (g.met.S.Rising.rises b.store) (entries_answer _ _ _ entries) contents.bodies shown.entries)
    (rw shown.cells at (cells_kept g.S.Store d new cells_text _ (λ version has. cells_plain version) cells (g.met.S.Rising.rises d.store) (cells_answer _ _ _ cells) are)) placed
    (c.in_ok-title.ensures.same cleans.1) (c.in_ok-entries.ensures.same cleans.2) (c.in_ok-cells.ensures.same clean)

pub returns-clause-kept : goal.returns-clause-kept
returns-clause-kept g c clean contents keeps =
    keeps_over _ _ contents (c.in_ok-cells.ensures.store clean).is_open (c.in_ok-cells.ensures.same clean) (kept_in g c clean contents keeps).2
