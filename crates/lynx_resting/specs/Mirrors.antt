-- Copies of a server's cells for readers, who don't wait for its lock.
use Rattle.std.specs.Prelude.{◌≡◌, ◌≤◌, ℕ, length, take, refl}
use Rattle.std.specs.Coded.{Coded, code_by, coded×, coded_ℕ}
use Rattle.std.specs.FinMap as map
use Rattle.lynx_cells.specs.Database.{Database}
use Rattle.lynx_entry.specs.Entry.{History}
use Rattle.lynx_rules.specs.Tables.{clock_of, tables_of}
use Rattle.lynx_server.specs.History.{IsLawfulHistory}
use Rattle.lynx_set.specs.Set.{Set}
use Rattle.lynx_set.specs.contracts.set.ChainSet as set

-- the cells of a server as its first entries left them, how many these are, and the stamp of the
-- last of them
pub record MirrorState : Type 0 where
  pub set : Set
  pub server : ℕ
  pub count : ℕ
  pub stamp : ℕ
  pub cells : Database

-- it is stored as the tuple of its fields
abbrev pub mirror_code : Coded MirrorState
mirror_code =
    code_by (Set × (ℕ × (ℕ × (ℕ × Database))))
    (coded× set.the_row.coded
    (coded× coded_ℕ
    (coded× coded_ℕ (coded× coded_ℕ (map.code (coded× coded_ℕ coded_ℕ) coded_ℕ)))))
    (λ m. (m.set, (m.server, (m.count, (m.stamp, m.cells)))))
    (λ p. record {
      set = p.0;
      server = p.1.0;
      count = p.1.1.0;
      stamp = p.1.1.1.0;
      cells = p.1.1.1.1;
    })
    (λ _. refl)

-- some history of that server left these cells, and this is the stamp of its last entry
pub record IsOfHistory (set : Set) (server stamp : ℕ) (cells : Database) : Type 0 where
  pub history : History
  pub lawful : IsLawfulHistory set server history
  pub stamp_is : stamp ≡ clock_of history
  pub cells_are : cells ≡ tables_of set history

-- it is of the first entries of this history
pub record IsMirrorOf (set : Set) (server : ℕ) (history : History) (mirror : MirrorState) : Type 0
  where
    pub set_is : mirror.set ≡ set
    pub server_is : mirror.server ≡ server
    pub within : mirror.count ≤ length history
    pub cells_are : mirror.cells ≡ tables_of set (take mirror.count history)
