-- Tables and their shards: what is spelled so is read.
use Rattle.std.proofs.Common.{◌≡◌, ℕ, zero, suc, ◌+◌, ◌^◌, ◌<◌, ◌≤◌, true, false, ltb, List, [], ◌∷◌, ◌++◌, map, length, Option, Some, None, is_none, refl, sym, ap, subst, ◌∙◌, append_assoc, arith}
use Rattle.std.specs.Prelude.{codes, decimal, ◌==◌}
use Rattle.std.specs.List.{list_all}
use Rattle.std.specs.Str.{bytes_eq}
use Rattle.std.proofs.lemmas.Bool.{lt-ltb, eq-eqb}
use Rattle.std.proofs.lemmas.Bool.Decides.{nat_tests}
use Rattle.std.proofs.lemmas.List.{append-nil, length_push, map-append}
use Rattle.lynx_shards.specs.declared.range.Range.{Range}
use Rattle.lynx_shards.specs.declared.shard.Shard.{Shard}
use Rattle.lynx_shards.specs.Ranges.{range_fault, last_key, next_key, shard_of}
use Rattle.lynx_lex.specs.Digits.{read_number}
use Rattle.lynx_lex.specs.Lines.{◌>>=◌, is_word, AreWords, only_if, joined}
use Rattle.lynx_text.specs.Pieces.{next_words, one_after}
use Rattle.lynx_text.specs.Parts.{parts, shard_line, next_shard, goes_shard, table_line, next_table, goes_table}
use Rattle.lynx_set.specs.Plain.{PlainSet}
use Rattle.lynx_set.specs.Names.{place_of}
use Rattle.lynx_text.specs.Reading.{name_of}
use Rattle.lynx_set.specs.Rules.{IsNew, FitShards, FitTables, with_table}
use Rattle.lynx_set.specs.Text.{shard_words, table_lines, tables_lines}
use Rattle.lynx_lex.specs.Word.{is_name}
use Rattle.lynx_lex.proofs.WordLaws.{both_true, name-word, number-word}
use Rattle.lynx_lex.proofs.NumberLaws.{number_again}
use Rattle.lynx_text.proofs.Lookups.{both}
use Rattle.lynx_text.proofs.Known.{bind_is, only_if_yes, Known, one_known}
use Rattle.lynx_text.proofs.Hops.{raw}
use Rattle.lynx_text.proofs.HopsAgain.{IsMore, more_behind, next_words_again, begins_again, parts_stop, parts_step}
use Rattle.lynx_text.proofs.ProgramsAgain.{one_after_again, two_words}

-- a shard that follows these
record Follows (servers : ℕ) (before : List Shard) (shard : Shard) : Type 0 where
  room : length before < 64
  begins : shard.low ≡ next_key (last_key None before)
  within : shard.low ≤ shard.high
  high : shard.high < 2 ^ 64
  known : shard.server < servers

pub shard_words_are : (shard : Shard) → shard.low < 2 ^ 64 → shard.high < 2 ^ 64 → shard.server < 2 ^ 64 → AreWords (shard_words shard)
shard_words_are shard low high server = (
  omega arith,
  both_true (is_word (codes "shard")) (list_all is_word (decimal shard.low ∷ decimal shard.high ∷ decimal shard.server ∷ [])) refl
      (both_true (is_word (decimal shard.low)) (list_all is_word (decimal shard.high ∷ decimal shard.server ∷ [])) (number-word shard.low low).0
      (both_true (is_word (decimal shard.high)) (list_all is_word (decimal shard.server ∷ [])) (number-word shard.high high).0
      (both_true (is_word (decimal shard.server)) true (number-word shard.server server).0 refl))),
)

shard_line_again : (count : ℕ) (range : Range) → count < 64 → range.low < 2 ^ 64 → range.high < 2 ^ 64 → range.server < 2 ^ 64 → shard_line count (shard_words (shard_of range)) ≡ Some range
unfolding shard_line
shard_line_again count range room low high server =
    bind_is (only_if {X = Unit {0}} (bytes_eq (codes "shard") (codes "shard")) tt) (λ first. only_if {X = Unit {0}} (ltb count 64) tt >>= λ ok. read_number (decimal range.low) >>= λ l. read_number (decimal range.high) >>= λ h. read_number (decimal range.server) >>= λ s. Some (record { low = l; high = h; server = s })) tt (Some range) refl
    (bind_is (only_if {X = Unit {0}} (ltb count 64) tt) (λ ok. read_number (decimal range.low) >>= λ l. read_number (decimal range.high) >>= λ h. read_number (decimal range.server) >>= λ s. Some (record { low = l; high = h; server = s })) tt (Some range) (only_if_yes (ltb count 64) tt (lt-ltb _ _ room))
    (bind_is (read_number (decimal range.low)) (λ l. read_number (decimal range.high) >>= λ h. read_number (decimal range.server) >>= λ s. Some (record { low = l; high = h; server = s })) range.low (Some range) (number_again range.low low)
    (bind_is (read_number (decimal range.high)) (λ h. read_number (decimal range.server) >>= λ s. Some (record { low = range.low; high = h; server = s })) range.high (Some range) (number_again range.high high)
    (bind_is (read_number (decimal range.server)) (λ s. Some (record { low = range.low; high = range.high; server = s })) range.server (Some range) (number_again range.server server) refl))))

no_fault : (servers : ℕ) (before : Option ℕ) (low high server : ℕ) → low ≡ next_key before → low ≤ high → server < servers → range_fault servers before low high server ≡ None
no_fault servers before low high server begins within known = grind (arith, nat_tests)

shard_again : (servers : ℕ) (before : List Shard) (shard : Shard) (rest : List (List ℕ)) → servers ≤ 16 → Follows servers before shard → IsMore rest
    → next_shard servers before (joined (shard_words shard) ∷ rest) ≡ Some (before ++ shard ∷ [], rest)
unfolding next_shard
shard_again servers before shard rest limit follows left =
    let range : Range = record { low = shard.low; high = shard.high; server = shard.server } in
    let low : shard.low < 2 ^ 64 = omega (arith, follows.within, follows.high) in
    let server : shard.server < 2 ^ 64 = omega (arith, follows.known) in
    let out : List Shard = before ++ shard ∷ [] in
    bind_is (next_words (joined (shard_words shard) ∷ rest)) (λ w. shard_line (length before) w.0 >>= λ r. only_if {X = Unit {0}} (is_none (range_fault servers (last_key None before) r.low r.high r.server)) tt >>= λ ok. both (before ++ shard_of r ∷ []) w.1) (shard_words shard, rest) (both out rest)
    (next_words_again (shard_words shard) rest (shard_words_are shard low follows.high server) left)
    (bind_is (shard_line (length before) (shard_words shard)) (λ r. only_if {X = Unit {0}} (is_none (range_fault servers (last_key None before) r.low r.high r.server)) tt >>= λ ok. both (before ++ shard_of r ∷ []) rest) range (both out rest)
    (shard_line_again (length before) range follows.room low follows.high server)
    (bind_is (only_if {X = Unit {0}} (is_none (range_fault servers (last_key None before) shard.low shard.high shard.server)) tt) (λ ok. both out rest) tt (both out rest)
    (only_if_yes (is_none (range_fault servers (last_key None before) shard.low shard.high shard.server)) tt (ap is_none (no_fault servers (last_key None before) shard.low shard.high shard.server follows.begins follows.within follows.known))) refl))

follows_in : (servers : ℕ) (before : List Shard) (shard : Shard) (shards : List Shard) → FitShards servers before (shard ∷ shards) → Follows servers before shard
follows_in servers before shard shards fit = record { room = fit.0; begins = fit.1; within = fit.2; high = fit.3; known = fit.4 }

shard_goes : (shard : Shard) (rest : List (List ℕ)) → AreWords (shard_words shard) → goes_shard (joined (shard_words shard) ∷ rest) ≡ true
shard_goes shard rest are = begins_again (codes "shard") (decimal shard.low ∷ decimal shard.high ∷ decimal shard.server ∷ []) rest (codes "shard") are ∙ same
  where
    same : bytes_eq (codes "shard") (codes "shard") ≡ true
    same = refl

pub shards_again : (servers : ℕ) (before shards : List Shard) (room : ℕ) (rest : List (List ℕ)) → servers ≤ 16 → FitShards servers before shards → length shards ≤ room → IsMore rest → goes_shard rest ≡ false
    → parts goes_shard (next_shard servers) room before (raw (map shard_words shards) ++ rest) ≡ Some (before ++ shards, rest)
shards_again servers before [] room rest limit fit few left stops =
    parts_stop goes_shard (next_shard servers) room before rest stops ∙ ap (λ (b : List Shard). both b rest) (sym (append-nil before))
shards_again servers before (shard ∷ shards) zero rest limit fit few left stops = absurd (omega arith)
shards_again servers before (shard ∷ shards) (suc room) rest limit fit few left stops =
    let tail : List (List ℕ) = raw (map shard_words shards) ++ rest in
    let follows = follows_in servers before shard shards fit in
    let are = shard_words_are shard (omega (arith, follows.within, follows.high)) follows.high (omega (arith, follows.known)) in
    parts_step goes_shard (next_shard servers) room before (before ++ shard ∷ []) (joined (shard_words shard) ∷ tail) tail (shard_goes shard tail are)
    (shard_again servers before shard tail limit follows (more_behind (map shard_words shards) rest left))
    ∙ shards_again servers (before ++ shard ∷ []) shards room rest limit fit.5 (omega arith) left stops
    ∙ ap (λ (b : List Shard). both b rest) (append_assoc before (shard ∷ []) shards)

few_shards : (servers : ℕ) (before shards : List Shard) → FitShards servers before shards → length before ≤ 64 → length before + length shards ≤ 64
few_shards servers before [] fit few = omega arith
few_shards servers before (shard ∷ shards) fit few =
    omega (arith, few_shards servers (before ++ shard ∷ []) shards fit.5 (omega (arith, fit.0, length_push before shard)), length_push before shard)

ends_at : (servers : ℕ) (before shards : List Shard) → FitShards servers before shards → next_key (last_key None (before ++ shards)) ≡ 2 ^ 64
ends_at servers before [] fit = ap (λ (b : List Shard). next_key (last_key None b)) (append-nil before) ∙ fit
ends_at servers before (shard ∷ shards) fit = ap (λ (b : List Shard). next_key (last_key None b)) (sym (append_assoc before (shard ∷ []) shards)) ∙ ends_at servers (before ++ shard ∷ []) shards fit.5

-- ---- tables

pub table_words_are : (name : List ℕ) → is_name name ≡ true → AreWords (codes "table" ∷ name ∷ [])
table_words_are name named = two_words (codes "table") name refl (name-word name named)

table_line_again : (tables : List (List ℕ)) (name : List ℕ) → length tables < 64 → IsNew tables name → table_line tables (codes "table" ∷ name ∷ []) ≡ Some name
unfolding table_line
table_line_again tables name room new =
    bind_is (one_after (codes "table") (codes "table" ∷ name ∷ [])) (λ word. only_if {X = Unit {0}} (ltb (length tables) 64) tt >>= λ ok. name_of word >>= λ n. only_if (is_none (place_of tables n)) n) name (Some name) (one_after_again (codes "table") name)
    (bind_is (only_if {X = Unit {0}} (ltb (length tables) 64) tt) (λ ok. name_of name >>= λ n. only_if (is_none (place_of tables n)) n) tt (Some name) (only_if_yes (ltb (length tables) 64) tt (lt-ltb _ _ room))
    (bind_is (name_of name) (λ n. only_if (is_none (place_of tables n)) n) name (Some name) (only_if_yes (is_name name) name new.named) (only_if_yes (is_none (place_of tables name)) name (ap is_none new.new))))

table_again : (set : PlainSet) (name : List ℕ) (shards : List Shard) (rest : List (List ℕ))
    → set.servers ≤ 16 → length set.tables < 64 → IsNew set.tables name → FitShards set.servers [] shards → IsMore rest → goes_shard rest ≡ false
    → next_table set (joined (codes "table" ∷ name ∷ []) ∷ raw (map shard_words shards) ++ rest) ≡ Some (with_table set name shards, rest)
unfolding next_table
table_again set name shards rest limit room new fit left stops =
    let words : List (List ℕ) = codes "table" ∷ name ∷ [] in
    let tail : List (List ℕ) = raw (map shard_words shards) ++ rest in
    let out : PlainSet = with_table set name shards in
    let added : List ℕ → List Shard → PlainSet = λ n s. with_table set n s in
    bind_is (next_words (joined words ∷ tail)) (λ w. table_line set.tables w.0 >>= λ n. parts goes_shard (next_shard set.servers) 64 [] w.1 >>= λ r. only_if {X = Unit {0}} (next_key (last_key None r.0) == 2 ^ 64) tt >>= λ ok. both (added n r.0) r.1) (words, tail) (both out rest)
    (next_words_again words tail (table_words_are name new.named) (more_behind (map shard_words shards) rest left))
    (bind_is (table_line set.tables words) (λ n. parts goes_shard (next_shard set.servers) 64 [] tail >>= λ r. only_if {X = Unit {0}} (next_key (last_key None r.0) == 2 ^ 64) tt >>= λ ok. both (added n r.0) r.1) name (both out rest)
    (table_line_again set.tables name room new)
    (bind_is (parts goes_shard (next_shard set.servers) 64 [] tail) (λ r. only_if {X = Unit {0}} (next_key (last_key None r.0) == 2 ^ 64) tt >>= λ ok. both (added name r.0) r.1) (shards, rest) (both out rest)
    (shards_again set.servers [] shards 64 rest limit fit (omega (arith, few_shards set.servers [] shards fit (omega arith))) left stops)
    (bind_is (only_if {X = Unit {0}} (next_key (last_key None shards) == 2 ^ 64) tt) (λ ok. both out rest) tt (both out rest)
    (only_if_yes (next_key (last_key None shards) == 2 ^ 64) tt (eq-eqb _ _ (ends_at set.servers [] shards fit))) refl)))

table_starts : (name : List ℕ) (rest : List (List ℕ)) → is_name name ≡ true → (goes_table (joined (codes "table" ∷ name ∷ []) ∷ rest) ≡ true) × (goes_shard (joined (codes "table" ∷ name ∷ []) ∷ rest) ≡ false)
table_starts name rest named =
    (begins_again (codes "table") (name ∷ []) rest (codes "table") (table_words_are name named) ∙ same, begins_again (codes "table") (name ∷ []) rest (codes "shard") (table_words_are name named) ∙ other)
  where
    same : bytes_eq (codes "table") (codes "table") ≡ true
    same = refl

    other : bytes_eq (codes "table") (codes "shard") ≡ false
    other = refl

-- what tables leave is not one more shard
tables_stop : (set : PlainSet) (names : List (List ℕ)) (tables : List (List Shard)) (rest : List (List ℕ)) → FitTables set names tables → goes_shard rest ≡ false → goes_shard (raw (tables_lines names tables) ++ rest) ≡ false
tables_stop set [] [] rest fit stops = stops
tables_stop set [] (shards ∷ tables) rest fit stops = absurd fit
tables_stop set (name ∷ names) [] rest fit stops = absurd fit
tables_stop set (name ∷ names) (shards ∷ tables) rest fit stops = (table_starts name (raw (map shard_words shards ++ tables_lines names tables) ++ rest) fit.1.named).1

pub tables_again : (set : PlainSet) (names : List (List ℕ)) (tables : List (List Shard)) (room : ℕ) (rest : List (List ℕ))
    → set.servers ≤ 16 → FitTables set names tables → length names ≤ room → IsMore rest → goes_shard rest ≡ false → goes_table rest ≡ false
    → parts goes_table next_table room set (raw (tables_lines names tables) ++ rest) ≡ Some (record set { tables = set.tables ++ names; shards = set.shards ++ tables }, rest)
tables_again set [] [] room rest limit fit few left stops ends =
    parts_stop goes_table next_table room set rest ends
    ∙ ap (λ (names : List (List ℕ)). let s : PlainSet = record set { tables = names } in both s rest) (sym (append-nil set.tables))
    ∙ ap (λ (tables : List (List Shard)). let s : PlainSet = record set { tables = set.tables ++ []; shards = tables } in both s rest) (sym (append-nil set.shards))
tables_again set [] (shards ∷ tables) room rest limit fit few left stops ends = absurd fit
tables_again set (name ∷ names) [] room rest limit fit few left stops ends = absurd fit
tables_again set (name ∷ names) (shards ∷ tables) zero rest limit fit few left stops ends = absurd (omega arith)
tables_again set (name ∷ names) (shards ∷ tables) (suc room) rest limit fit few left stops ends =
    let next : PlainSet = with_table set name shards in
    let tail : List (List ℕ) = raw (tables_lines names tables) ++ rest in
    let lines : List (List ℕ) = joined (codes "table" ∷ name ∷ []) ∷ raw (map shard_words shards) ++ tail in
    ap (parts goes_table next_table (suc room) set)
    (ap (λ ls. ls ++ rest) (map-append joined (table_lines name shards) (tables_lines names tables)) ∙ append_assoc (raw (table_lines name shards)) (raw (tables_lines names tables)) rest)
    ∙ parts_step goes_table next_table room set next lines tail (table_starts name (raw (map shard_words shards) ++ tail) fit.1.named).0
    (table_again set name shards tail limit fit.0 fit.1 fit.2 (more_behind (tables_lines names tables) rest left) (tables_stop next names tables rest fit.3 stops))
    ∙ tables_again next names tables room rest limit fit.3 (omega arith) left stops ends
    ∙ ap (λ (names : List (List ℕ)). let s : PlainSet = record set { tables = names; shards = (set.shards ++ shards ∷ []) ++ tables } in both s rest) (append_assoc set.tables (name ∷ []) names)
    ∙ ap (λ (tables : List (List Shard)). let s : PlainSet = record set { tables = set.tables ++ name ∷ names; shards = tables } in both s rest) (append_assoc set.shards (shards ∷ []) tables)

pub few_tables : (set : PlainSet) (names : List (List ℕ)) (tables : List (List Shard)) → FitTables set names tables → length set.tables ≤ 64 → length set.tables + length names ≤ 64
few_tables set [] [] fit few = omega arith
few_tables set [] (shards ∷ tables) fit few = absurd fit
few_tables set (name ∷ names) [] fit few = absurd fit
few_tables set (name ∷ names) (shards ∷ tables) fit few =
    omega (arith, few_tables (with_table set name shards) names tables fit.3 (omega (arith, fit.0, length_push set.tables name)), length_push set.tables name)

pub tables_known : (set : PlainSet) (names : List (List ℕ)) (tables : List (List Shard)) → FitTables set names tables → Known set.tables → Known (set.tables ++ names)
tables_known set [] [] fit known = subst Known (sym (append-nil set.tables)) known
tables_known set [] (shards ∷ tables) fit known = absurd fit
tables_known set (name ∷ names) [] fit known = absurd fit
tables_known set (name ∷ names) (shards ∷ tables) fit known =
    subst Known (append_assoc set.tables (name ∷ []) names) (tables_known (with_table set name shards) names tables fit.3 (one_known set.tables name known fit.1))
