-- What the tables of a store hold.
use Rattle.std.specs.Prelude.{ℕ, ◌==◌, if◌then◌else◌, List, [], ◌∷◌, ◌++◌, map, Option, Some}
use Rattle.std.specs.Global.{Vec}
use Rattle.lynx_cells.specs.Database.{Database, ChangeSet, applied, empty_database}
use Rattle.lynx_sql.specs.declared.acts.Acted.{Acted}
use Rattle.lynx_sql.specs.declared.version.StoreVersion.{StoreVersion}
use Rattle.lynx_sql.specs.Acts.{no_acts, with_acted, with_acts}

-- the three texts of `meta`: the version of the tables, the server's number and the set
pub record Title : Type 0 where
  pub version : List ℕ
  pub server : List ℕ
  pub set : List ℕ

abbrev pub title_of : List ℕ → List ℕ → List ℕ → Title
title_of version server set = record { version = version; server = server; set = set }

-- the title with another text under a number
abbrev pub with_text : Title → ℕ → List ℕ → Title
with_text title id text = record {
  version = if id == 1 then text else title.version;
  server = if id == 2 then text else title.server;
  set = if id == 3 then text else title.set;
}

-- the title, the bodies of the entries by place, the cells that are not 0, and in a store of
-- version 2 the hops that ran
pub record Contents : Type 0 where
  pub title : Title
  pub bodies : List (List ℕ)
  pub cells : Database
  pub acted : Option (List Acted)

-- one more entry at the next place, with the changes of its cells, and with its hop where one ran
abbrev pub with_body : Contents → List ℕ → ChangeSet → Option Acted → Contents
with_body contents body changes acted =
    record contents {
      bodies = contents.bodies ++ body ∷ [];
      cells = applied changes contents.cells;
      acted = with_acted contents.acted acted;
    }

-- the bodies that vectors hold
abbrev pub bodies_in : List (Vec ℕ) → List (List ℕ)
bodies_in bodies = map (λ (body : Vec ℕ). body.items) bodies

-- more entries at the next places, with the changes of their cells, and with their hops where the
-- store keeps hops
abbrev pub with_bodies : Contents → List (List ℕ) → ChangeSet → List Acted → Contents
with_bodies contents bodies changes acts =
    record contents {
      bodies = contents.bodies ++ bodies;
      cells = applied changes contents.cells;
      acted = with_acts contents.acted acts;
    }

-- a new store of a version
abbrev pub titled : StoreVersion → Title → Contents
titled version title =
    record { title = title; bodies = []; cells = empty_database; acted = no_acts version }

-- a store of version 2 of the same entries, with two other texts and these hops
abbrev pub upgraded : Contents → List ℕ → List ℕ → List Acted → Contents
upgraded contents version set acts =
    record contents { title = title_of version contents.title.server set; acted = Some acts }

-- the same store with another text of its set
abbrev pub retitled : Contents → List ℕ → Contents
retitled contents set =
    record contents { title = title_of contents.title.version contents.title.server set }
