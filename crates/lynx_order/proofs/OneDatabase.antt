-- All hops of a legal list, run in its order over one database, give the results that are kept of them, and leave in each
-- cell what the tables of its server hold.
use Rattle.std.proofs.Common.{◌≡◌, ◌≢◌, ℕ, Bool, true, false, cond, List, [], ◌∷◌, ◌++◌, Option, Some, None, Ok, Err, nat_eq, inl, inr, refl, sym, ap, ◌∙◌, subst}
use Rattle.std.specs.Prelude.{All, fold}
use Rattle.std.specs.List.{cons_option}
use Rattle.std.proofs.lemmas.Bool.Decides.{eqb_tells}
use Rattle.std.proofs.lemmas.List.{append-nil}
use Rattle.std.proofs.lemmas.List.Elements.{All-weaker, filter_map-append}
use Rattle.std.proofs.lemmas.List.Sums.{fold-append}
use Rattle.lynx_cells.specs.Database.{Database, empty_database, value_at}
use Rattle.lynx_shards.specs.Shards.{server_of}
use Rattle.lynx_set.specs.Home.{AreLiteralsHome}
use Rattle.lynx_set.specs.Set.{Set}
use Rattle.lynx_hops.specs.Meaning.{HopOutcome}
use Rattle.lynx_foot.specs.declared.touch.Touch.{Touch}
use Rattle.lynx_foot.specs.Conflicts.{Conflicts}
use Rattle.lynx_commute.specs.Acts.{IsUntouched, after, answer, cell_of, database_in, outcome, touched}
use Rattle.lynx_commute.proofs.Commuting.{ChangePlaces-from_no_conflict}
use Rattle.lynx_commute.proofs.Framing.{Agree-after, answer-agree, value_at-after}
use Rattle.lynx_entry.specs.declared.entry.Entry.{Entry}
use Rattle.lynx_entry.specs.declared.entry.Entry.TheVariants.{Begun, Refused, Hop as HopRan}
use Rattle.lynx_rules.specs.Tables.{after_entry, database_after, tables_of}
use Rattle.lynx_world.specs.Placed.{Placed}
use Rattle.lynx_world.specs.Worlds.{history_of}
use Rattle.lynx_world.specs.Legal.{MayFollow, IsLegal}
use Rattle.lynx_world.proofs.Histories.{history_of-push}
use Rattle.lynx_world.proofs.Standing.{legal_induction}
use Rattle.lynx_order.proofs.Keys.{LiesAt}
use Rattle.lynx_order.proofs.Dones.{Done, IsDone, begun_as, ran_as, done_in, dones, is_done}
use Rattle.lynx_order.proofs.Reorder.{Runs, MaySwap}

-- ---- running hops

-- the hop gives the results that are kept of it
abbrev pub Replays : Set → Done → Database → Type 0
Replays set done db = answer set done.act db ≡ Ok done.results

-- the database after it
abbrev pub replayed : Set → Done → Database → Database
replayed set done db = after set done.act db

-- the hops give the results that are kept of them, one after another from the one database to the other
abbrev pub ReplayAll : Set → Database → List Done → Database → Type 0
ReplayAll set last list db = Runs (Replays set) (replayed set) last list db

pub replay-append : (set : Set) (list more : List Done) (last final db : Database) → ReplayAll set last list db → ReplayAll set final more last →
    ReplayAll set final (list ++ more) db
replay-append set [] more last final db runs next = subst (ReplayAll set final more) (sym runs) next
replay-append set (done ∷ list) more last final db runs next = (runs.0, replay-append set list more last final (replayed set done db) runs.1 next)

-- ---- one more entry

same_after : (o : HopOutcome) (db : Database) → database_after o db ≡ database_in db o
same_after (Ok ran) db = refl
same_after (Err need) db = refl

-- an entry leaves what its hop leaves
after_entry-is : (set : Set) (db : Database) (entry : Entry) (done : Done) → done_in entry ≡ Some done → after_entry set db entry ≡ after set done.act db
after_entry-is set db (Begun begun) done is =
    let same : begun_as begun ≡ done = cc in
    same_after (outcome set (begun_as begun).act db) db ∙ ap (λ (d : Done). after set d.act db) same
after_entry-is set db (Refused refused) done is = cc
after_entry-is set db (HopRan ran) done is =
    let same : ran_as ran ≡ done = cc in
    same_after (outcome set (ran_as ran).act db) db ∙ ap (λ (d : Done). after set d.act db) same

nothing_after : (set : Set) (db : Database) (entry : Entry) → done_in entry ≡ None → after_entry set db entry ≡ db
nothing_after set db (Begun begun) is = cc
nothing_after set db (Refused refused) is = refl
nothing_after set db (HopRan ran) is = cc

-- the tables of a server after one more entry
tables-push : (set : Set) (list : List Placed) (placed : Placed) (server : ℕ) (b : Bool) → nat_eq placed.server server ≡ b →
    tables_of set (history_of server (list ++ placed ∷ [])) ≡ cond b (after_entry set (tables_of set (history_of server list)) placed.entry) (tables_of set (history_of server list))
tables-push set list placed server b is =
    ap (tables_of set) (history_of-push server list placed)
    ∙ fold-append (after_entry set) empty_database (history_of server list) (cond (nat_eq placed.server server) (placed.entry ∷ []) [])
    ∙ by b is
  where
    by : (c : Bool) → nat_eq placed.server server ≡ c →
        fold (after_entry set) (tables_of set (history_of server list)) (cond (nat_eq placed.server server) (placed.entry ∷ []) [])
        ≡ cond c (after_entry set (tables_of set (history_of server list)) placed.entry) (tables_of set (history_of server list))
    by true e = ap (λ c. fold (after_entry set) (tables_of set (history_of server list)) (cond c (placed.entry ∷ []) [])) e
    by false e = ap (λ c. fold (after_entry set) (tables_of set (history_of server list)) (cond c (placed.entry ∷ []) [])) e

-- ---- one database

-- in each cell the database holds what the tables of the cell's server hold
abbrev pub HoldsTables : Set → List Placed → Database → Type 0
HoldsTables set list db =
    (table key : ℕ) → value_at db table key ≡ value_at (tables_of set (history_of (server_of set.shards table key) list)) table key

-- all hops of the list run over one database
pub record OneDatabase (set : Set) (list : List Placed) : Type 0 where
  pub last : Database
  pub runs : ReplayAll set last (dones list) empty_database
  pub tables : HoldsTables set list last

-- cells of another server aren't touched
untouched : (set : Set) (server table key : ℕ) (touches : List Touch) → All (LiesAt set server) touches → server_of set.shards table key ≢ server →
    IsUntouched touches (table, key)
untouched set server table key touches lies differ =
    All-weaker (LiesAt set server) (λ touch. cell_of touch ≢ (table, key))
    (λ touch at same. differ (ap (λ (cell : ℕ × ℕ). server_of set.shards cell.0 cell.1) (sym same) ∙ at)) touches lies

-- the tables hold what one database holds, after one more hop
tables_after : (set : Set) (list : List Placed) (placed : Placed) (done : Done) (db : Database) → done_in placed.entry ≡ Some done →
    IsDone set (history_of placed.server list) placed.server placed.entry done → HoldsTables set list db →
    HoldsTables set (list ++ placed ∷ []) (replayed set done db)
tables_after set list placed done db same is holds table key = elim (eqb_tells placed.server (server_of set.shards table key)) [
  | inl here ↦
      let at : server_of set.shards table key ≡ placed.server = sym here.1 in
      Agree-after (λ t k. server_of set.shards t k ≡ placed.server) set done.act db (tables_of set (history_of placed.server list)) is.lies
      (λ t k there. holds t k ∙ ap (λ s. value_at (tables_of set (history_of s list)) t k) there) table key at
      ∙ ap (λ d. value_at d table key) (sym (after_entry-is set (tables_of set (history_of placed.server list)) placed.entry done same))
      ∙ ap (λ s. value_at (after_entry set (tables_of set (history_of s list)) placed.entry) table key) here.1
      ∙ ap (λ d. value_at d table key) (sym (tables-push set list placed (server_of set.shards table key) true here.0))
  | inr other ↦
      value_at-after set done.act db table key
      (untouched set placed.server table key (touched set done.act) is.lies (λ e. other.1 (sym e)))
      ∙ holds table key
      ∙ ap (λ d. value_at d table key) (sym (tables-push set list placed (server_of set.shards table key) false other.0))
]

-- an entry that did no hop changes no table
tables_kept : (set : Set) (list : List Placed) (placed : Placed) (db : Database) → done_in placed.entry ≡ None → HoldsTables set list db →
    HoldsTables set (list ++ placed ∷ []) db
tables_kept set list placed db none holds table key =
    let server = server_of set.shards table key in
    holds table key ∙ ap (λ d. value_at d table key) (sym (tables-push set list placed server (nat_eq placed.server server) refl
    ∙ by (nat_eq placed.server server)))
  where
    by : (b : Bool) → cond b (after_entry set (tables_of set (history_of (server_of set.shards table key) list)) placed.entry) (tables_of set (history_of (server_of set.shards table key) list))
        ≡ tables_of set (history_of (server_of set.shards table key) list)
    by true = nothing_after set (tables_of set (history_of (server_of set.shards table key) list)) placed.entry none
    by false = refl

-- the hops that were done, after one more entry
pub dones-push : (list : List Placed) (placed : Placed) (o : Option Done) → done_in placed.entry ≡ o → dones (list ++ placed ∷ []) ≡ dones list ++ cons_option o []
dones-push list placed o is =
    filter_map-append (λ (p : Placed). done_in p.entry) list (placed ∷ []) ∙ ap (λ d. dones list ++ cons_option d []) is

one_more : (set : Set) (list : List Placed) (server : ℕ) (entry : Entry) (o : Option Done) → AreLiteralsHome set → done_in entry ≡ o → OneDatabase set list →
    MayFollow set list (record { server = server; entry = entry }) → OneDatabase set (list ++ record { server = server; entry = entry } ∷ [])
one_more set list server entry None is none old may =
    let placed : Placed = record { server = server; entry = entry } in
    record {
      last = old.last;
      runs = subst (λ ds. ReplayAll set old.last ds empty_database) (sym (dones-push list placed None none ∙ append-nil (dones list))) old.runs;
      tables = tables_kept set list placed old.last none old.tables;
    }
one_more set list server entry (Some done) is some old may =
    let placed : Placed = record { server = server; entry = entry } in
    let known = is_done set list server entry done is may some in
    let answers : answer set done.act old.last ≡ Ok done.results =
    answer-agree (λ t k. server_of set.shards t k ≡ server) set done.act old.last (tables_of set (history_of server list)) known.lies
    (λ t k there. old.tables t k ∙ ap (λ s. value_at (tables_of set (history_of s list)) t k) there) ∙ known.answers in
    record {
      last = replayed set done old.last;
      runs = subst (λ ds. ReplayAll set (replayed set done old.last) ds empty_database) (sym (dones-push list placed (Some done) some))
          (replay-append set (dones list) (done ∷ []) old.last (replayed set done old.last) empty_database old.runs (answers, refl));
      tables = tables_after set list placed done old.last some known old.tables;
    }

-- all hops of a legal list run over one database
pub one_database : (set : Set) (list : List Placed) → AreLiteralsHome set → IsLegal set list → OneDatabase set list
one_database set list is legal =
    legal_induction set (OneDatabase set) (record { last = empty_database; runs = refl; tables = λ table key. refl })
    (λ before placed was old may. one_more set before placed.server placed.entry (done_in placed.entry) is refl old may) list legal

-- ---- hops that don't conflict

-- hops that don't conflict change places
pub may_swap : (set : Set) (Collides : Done → Done → Type 0) →
    ((one other : Done) → (Collides one other → ⊥) → ¬ Conflicts (touched set one.act) (touched set other.act)) →
    MaySwap (Replays set) (replayed set) Collides
may_swap set Collides free one other db none first second =
    let swap = ChangePlaces-from_no_conflict set one.act other.act db (free one other none) in
    record {
      second_first = sym swap.second_answers ∙ second;
      first_second = swap.first_answers ∙ first;
      same = swap.same_database;
    }
