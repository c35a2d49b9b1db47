-- What a keeper in memory keeps after a commit.
use Rattle.std.proofs.Common.{◌≡◌, ap, ◌∙◌}
use Rattle.lynx_cells.specs.Database.{Database}
use Rattle.lynx_entry.specs.Entry.{History}
use Rattle.lynx_keep.specs.Kept.{KeptState}

-- the same entries with the same cells
pub same_kept : (entries others : History) (cells more : Database) → entries ≡ others → cells ≡ more →
    ◌≡◌ {A = KeptState} (record { entries = entries; cells = cells }) (record { entries = others; cells = more })
same_kept entries others cells more same same_cells =
    ap (λ (es : History). record { entries = es; cells = cells }) same
    ∙ ap (λ (db : Database). record { entries = others; cells = db }) same_cells
