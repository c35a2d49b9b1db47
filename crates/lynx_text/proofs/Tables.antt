-- Tables and their shards: what is read is spelled so.
use Rattle.std.proofs.Common.{◌≡◌, inl, inr, ℕ, zero, suc, ◌^◌, ◌<◌, ◌≤◌, true, eqb, ltb, List, [], ◌∷◌, ◌++◌, map, length, Option, Some, None, is_none, refl, sym, ap, subst, ◌∙◌, append_assoc, arith}
use Rattle.std.specs.Prelude.{codes, decimal}
use Rattle.std.specs.Str.{bytes_eq}
use Rattle.std.proofs.lemmas.Bool.{ltb-true, eqb-true}
use Rattle.std.proofs.lemmas.Bool.Decides.{nat_tests}
use Rattle.std.proofs.lemmas.List.{append-nil, map-append}
use Rattle.std.proofs.lemmas.Slice.Eq.{bytes_eq-Decides}
use Rattle.lynx_shards.specs.declared.range.Range.{Range}
use Rattle.lynx_shards.specs.declared.shard.Shard.{Shard}
use Rattle.lynx_shards.specs.Ranges.{range_fault, last_key, next_key, shard_of}
use Rattle.lynx_lex.specs.Digits.{read_number}
use Rattle.lynx_lex.specs.Lines.{◌>>=◌, only_if, joined}
use Rattle.lynx_text.specs.Pieces.{next_words, one_after}
use Rattle.lynx_text.specs.Parts.{parts, shard_line, next_shard, goes_shard, table_line, next_table, goes_table}
use Rattle.lynx_set.specs.Plain.{PlainSet}
use Rattle.lynx_set.specs.Names.{place_of}
use Rattle.lynx_text.specs.Reading.{name_of}
use Rattle.lynx_set.specs.Rules.{IsNew, FitShards, FitTables, with_table}
use Rattle.lynx_set.specs.Text.{shard_words, table_lines, tables_lines}
use Rattle.lynx_lex.specs.Word.{is_name}
use Rattle.lynx_lex.proofs.NumberLaws.{number_takes}
use Rattle.lynx_text.proofs.Lookups.{bind_some, only_if_some, choose, both, both_is}
use Rattle.lynx_text.proofs.Hops.{raw, next_words_take, one_take}
use Rattle.lynx_lex.proofs.Equal.{some_is, none_some}

-- the words of a shard's line
pub record RangeRead (count : ℕ) (range : Range) (words : List (List ℕ)) : Type 0 where
  pub room : count < 64
  pub low : range.low < 2 ^ 64
  pub high : range.high < 2 ^ 64
  pub spelled : words ≡ shard_words (shard_of range)

shard_line_take : (count : ℕ) (words : List (List ℕ)) (range : Range) → shard_line count words ≡ Some range → RangeRead count range words
unfolding shard_line
shard_line_take count [] range e = absurd cc
shard_line_take count (a ∷ []) range e = absurd cc
shard_line_take count (a ∷ b ∷ []) range e = absurd cc
shard_line_take count (a ∷ b ∷ c ∷ []) range e = absurd cc
shard_line_take count (word ∷ low ∷ high ∷ server ∷ []) range e =
    let s_first = bind_some (only_if {X = Unit {0}} (bytes_eq word (codes "shard")) tt) (λ first. only_if {X = Unit {0}} (ltb count 64) tt >>= λ ok. read_number low >>= λ l. read_number high >>= λ h. read_number server >>= λ s. Some (record { low = l; high = h; server = s })) range e in
    let s_ok = bind_some (only_if {X = Unit {0}} (ltb count 64) tt) (λ ok. read_number low >>= λ l. read_number high >>= λ h. read_number server >>= λ s. Some (record { low = l; high = h; server = s })) range s_first.2 in
    let s_l = bind_some (read_number low) (λ l. read_number high >>= λ h. read_number server >>= λ s. Some (record { low = l; high = h; server = s })) range s_ok.2 in
    let s_h = bind_some (read_number high) (λ h. read_number server >>= λ s. Some (record { low = s_l.0; high = h; server = s })) range s_l.2 in
    let s_s = bind_some (read_number server) (λ s. Some (record { low = s_l.0; high = s_h.0; server = s })) range s_h.2 in
    let made : Range = record { low = s_l.0; high = s_h.0; server = s_s.0 } in
    let l = number_takes low s_l.0 s_l.1 in
    let h = number_takes high s_h.0 s_h.1 in
    let s = number_takes server s_s.0 s_s.1 in
    let first : word ≡ codes "shard" = (bytes_eq-Decides word (codes "shard")).0 (only_if_some (bytes_eq word (codes "shard")) tt s_first.0 s_first.1).0 in
    subst (λ (r : Range). RangeRead count r (word ∷ low ∷ high ∷ server ∷ [])) (some_is made range s_s.2) (record {
      room = ltb-true _ _ (only_if_some (ltb count 64) tt s_ok.0 s_ok.1).0;
      low = l.1;
      high = h.1;
      spelled = ap (λ w. w ∷ low ∷ high ∷ server ∷ []) first ∙ ap (λ w. codes "shard" ∷ w ∷ high ∷ server ∷ []) l.0
          ∙ ap (λ w. codes "shard" ∷ decimal s_l.0 ∷ w ∷ server ∷ []) h.0 ∙ ap (λ w. codes "shard" ∷ decimal s_l.0 ∷ decimal s_h.0 ∷ w ∷ []) s.0;
    })
shard_line_take count (a ∷ b ∷ c ∷ d ∷ f ∷ words) range e = absurd cc

-- a range without a fault begins where it is to, ends no lower, and is at a server
record IsFaultless (servers : ℕ) (before : Option ℕ) (low high server : ℕ) : Type 0 where
  begins : low ≡ next_key before
  within : low ≤ high
  known : server < servers

faultless : (servers : ℕ) (before : Option ℕ) (low high server : ℕ) → range_fault servers before low high server ≡ None → IsFaultless servers before low high server
faultless servers before low high server ok = record { begins = grind (arith, nat_tests); within = grind (arith, nat_tests); known = grind (arith, nat_tests) }

-- what a shard's line leaves
pub record ShardRead (servers : ℕ) (shards : List Shard) (lines : List (List ℕ)) (out : List Shard) (rest : List (List ℕ)) : Type 0 where
  pub shard : Shard
  pub room : length shards < 64
  pub begins : shard.low ≡ next_key (last_key None shards)
  pub within : shard.low ≤ shard.high
  pub high : shard.high < 2 ^ 64
  pub known : shard.server < servers
  pub leaves : out ≡ shards ++ shard ∷ []
  pub spelled : lines ≡ joined (shard_words shard) ∷ rest

next_shard_take : (servers : ℕ) (shards : List Shard) (lines : List (List ℕ)) (out : List Shard) (rest : List (List ℕ)) → next_shard servers shards lines ≡ Some (out, rest) → ShardRead servers shards lines out rest
unfolding next_shard
next_shard_take servers shards lines out rest e =
    let s_w = bind_some (next_words lines) (λ w. shard_line (length shards) w.0 >>= λ r. only_if {X = Unit {0}} (is_none (range_fault servers (last_key None shards) r.low r.high r.server)) tt >>= λ ok. both (shards ++ shard_of r ∷ []) w.1) (out, rest) e in
    let s_r = bind_some (shard_line (length shards) s_w.0.0) (λ r. only_if {X = Unit {0}} (is_none (range_fault servers (last_key None shards) r.low r.high r.server)) tt >>= λ ok. both (shards ++ shard_of r ∷ []) s_w.0.1) (out, rest) s_w.2 in
    let range = s_r.0 in
    let s_ok = bind_some (only_if {X = Unit {0}} (is_none (range_fault servers (last_key None shards) range.low range.high range.server)) tt) (λ ok. both (shards ++ shard_of range ∷ []) s_w.0.1) (out, rest) s_r.2 in
    let same = both_is (shards ++ shard_of range ∷ []) out s_w.0.1 rest s_ok.2 in
    let line = shard_line_take (length shards) s_w.0.0 range s_r.1 in
    let next = next_words_take lines s_w.0.0 s_w.0.1 s_w.1 in
    let right = faultless servers (last_key None shards) range.low range.high range.server (none_is (range_fault servers (last_key None shards) range.low range.high range.server) (only_if_some (is_none (range_fault servers (last_key None shards) range.low range.high range.server)) tt s_ok.0 s_ok.1).0) in
    record {
      shard = shard_of range;
      room = line.room;
      begins = right.begins;
      within = right.within;
      high = line.high;
      known = right.known;
      leaves = sym same.0;
      spelled = next.spelled ∙ ap (λ w. joined w ∷ s_w.0.1) line.spelled ∙ ap (λ r. joined (shard_words (shard_of range)) ∷ r) same.1;
    }
  where
    none_is : {X : Type 0} (o : Option X) → is_none o ≡ true → o ≡ None
    none_is None h = refl
    none_is (Some x) h = absurd cc

-- what the shards of a table leave
pub record ShardsLeft (servers : ℕ) (shards : List Shard) (lines : List (List ℕ)) (out : List Shard) (rest : List (List ℕ)) : Type 0 where
  pub added : List Shard
  pub fit : next_key (last_key None out) ≡ 2 ^ 64 → FitShards servers shards added
  pub leaves : out ≡ shards ++ added
  pub spelled : lines ≡ raw (map shard_words added) ++ rest

no_shards_left : (servers : ℕ) (shards : List Shard) (lines : List (List ℕ)) (out : List Shard) (rest : List (List ℕ)) → both shards lines ≡ both out rest → ShardsLeft servers shards lines out rest
no_shards_left servers shards lines out rest e =
    let same = both_is shards out lines rest e in
    record {
      added = [];
      fit = λ whole. ap (λ s. next_key (last_key None s)) same.0 ∙ whole;
      leaves = sym same.0 ∙ sym (append-nil shards);
      spelled = same.1;
    }

more_shards : (servers : ℕ) (shards : List Shard) (lines mid : List (List ℕ)) (next out : List Shard) (rest : List (List ℕ)) → ShardRead servers shards lines next mid → ShardsLeft servers next mid out rest → ShardsLeft servers shards lines out rest
more_shards servers shards lines mid next out rest first later =
    let moved = subst (λ (s : List Shard). ShardsLeft servers s mid out rest) first.leaves later in
    record {
      added = first.shard ∷ moved.added;
      fit = λ whole. (first.room, first.begins, first.within, first.high, first.known, moved.fit whole);
      leaves = moved.leaves ∙ append_assoc shards (first.shard ∷ []) moved.added;
      spelled = first.spelled ∙ ap (λ m. joined (shard_words first.shard) ∷ m) moved.spelled;
    }

shards_take : (room servers : ℕ) (shards : List Shard) (lines : List (List ℕ)) (out : List Shard) (rest : List (List ℕ)) → parts goes_shard (next_shard servers) room shards lines ≡ Some (out, rest) → ShardsLeft servers shards lines out rest
unfolding parts
shards_take zero servers shards lines out rest e =
    elim (choose (goes_shard lines) None (Some (shards, lines)) (Some (out, rest)) e) [
      | inl p ↦ absurd (none_some p.1)
      | inr p ↦ no_shards_left servers shards lines out rest p.1
    ]
shards_take (suc room) servers shards lines out rest e =
    elim (choose (goes_shard lines) (next_shard servers shards lines >>= λ n. parts goes_shard (next_shard servers) room n.0 n.1) (Some (shards, lines)) (Some (out, rest)) e) [
      | inl p ↦
          let step = bind_some (next_shard servers shards lines) (λ n. parts goes_shard (next_shard servers) room n.0 n.1) (out, rest) p.1 in
          more_shards servers shards lines step.0.1 step.0.0 out rest (next_shard_take servers shards lines step.0.0 step.0.1 step.1) (shards_take room servers step.0.0 step.0.1 out rest step.2)
      | inr p ↦ no_shards_left servers shards lines out rest p.1
    ]

-- what a table's lines leave
pub record TableRead (set : PlainSet) (lines : List (List ℕ)) (out : PlainSet) (rest : List (List ℕ)) : Type 0 where
  pub name : List ℕ
  pub shards : List Shard
  pub room : length set.tables < 64
  pub new : IsNew set.tables name
  pub fit : FitShards set.servers [] shards
  pub leaves : out ≡ with_table set name shards
  pub spelled : lines ≡ raw (table_lines name shards) ++ rest

record NameRead (tables words : List (List ℕ)) (name : List ℕ) : Type 0 where
  room : length tables < 64
  new : IsNew tables name
  spelled : words ≡ codes "table" ∷ name ∷ []

table_line_take : (tables words : List (List ℕ)) (name : List ℕ) → table_line tables words ≡ Some name → NameRead tables words name
unfolding table_line
table_line_take tables words name e =
    let s_w = bind_some (one_after (codes "table") words) (λ w. only_if {X = Unit {0}} (ltb (length tables) 64) tt >>= λ ok. name_of w >>= λ n. only_if (is_none (place_of tables n)) n) name e in
    let s_ok = bind_some (only_if {X = Unit {0}} (ltb (length tables) 64) tt) (λ ok. name_of s_w.0 >>= λ n. only_if (is_none (place_of tables n)) n) name s_w.2 in
    let s_n = bind_some (name_of s_w.0) (λ n. only_if (is_none (place_of tables n)) n) name s_ok.2 in
    let named = only_if_some (is_name s_w.0) s_w.0 s_n.0 s_n.1 in
    let new = only_if_some (is_none (place_of tables s_n.0)) s_n.0 name s_n.2 in
    let same : s_w.0 ≡ name = named.1 ∙ new.1 in
    record {
      room = ltb-true _ _ (only_if_some (ltb (length tables) 64) tt s_ok.0 s_ok.1).0;
      new = record { named = ap is_name (sym same) ∙ named.0; new = ap (place_of tables) (sym new.1) ∙ none_is (place_of tables s_n.0) new.0 };
      spelled = one_take (codes "table") words s_w.0 s_w.1 ∙ ap (λ w. codes "table" ∷ w ∷ []) same;
    }
  where
    none_is : {X : Type 0} (o : Option X) → is_none o ≡ true → o ≡ None
    none_is None h = refl
    none_is (Some x) h = absurd cc

next_table_take : (set : PlainSet) (lines : List (List ℕ)) (out : PlainSet) (rest : List (List ℕ)) → next_table set lines ≡ Some (out, rest) → TableRead set lines out rest
unfolding next_table
next_table_take set lines out rest e =
    let s_w = bind_some (next_words lines) (λ w. table_line set.tables w.0 >>= λ n. parts goes_shard (next_shard set.servers) 64 [] w.1 >>= λ r. only_if {X = Unit {0}} (eqb (next_key (last_key None r.0)) (2 ^ 64)) tt >>= λ ok. both (with_table set n r.0) r.1) (out, rest) e in
    let s_n = bind_some (table_line set.tables s_w.0.0) (λ n. parts goes_shard (next_shard set.servers) 64 [] s_w.0.1 >>= λ r. only_if {X = Unit {0}} (eqb (next_key (last_key None r.0)) (2 ^ 64)) tt >>= λ ok. both (with_table set n r.0) r.1) (out, rest) s_w.2 in
    let s_r = bind_some (parts goes_shard (next_shard set.servers) 64 [] s_w.0.1) (λ r. only_if {X = Unit {0}} (eqb (next_key (last_key None r.0)) (2 ^ 64)) tt >>= λ ok. both (with_table set s_n.0 r.0) r.1) (out, rest) s_n.2 in
    let s_ok = bind_some (only_if {X = Unit {0}} (eqb (next_key (last_key None s_r.0.0)) (2 ^ 64)) tt) (λ ok. both (with_table set s_n.0 s_r.0.0) s_r.0.1) (out, rest) s_r.2 in
    let same = both_is (with_table set s_n.0 s_r.0.0) out s_r.0.1 rest s_ok.2 in
    let line = table_line_take set.tables s_w.0.0 s_n.0 s_n.1 in
    let next = next_words_take lines s_w.0.0 s_w.0.1 s_w.1 in
    let left = shards_take 64 set.servers [] s_w.0.1 s_r.0.0 s_r.0.1 s_r.1 in
    let whole : next_key (last_key None s_r.0.0) ≡ 2 ^ 64 = eqb-true _ _ (only_if_some (eqb (next_key (last_key None s_r.0.0)) (2 ^ 64)) tt s_ok.0 s_ok.1).0 in
    record {
      name = s_n.0;
      shards = left.added;
      room = line.room;
      new = line.new;
      fit = left.fit whole;
      leaves = sym same.0 ∙ ap (with_table set s_n.0) left.leaves;
      spelled = next.spelled ∙ ap (λ w. joined w ∷ s_w.0.1) line.spelled ∙ ap (λ m. joined (codes "table" ∷ s_n.0 ∷ []) ∷ m) (left.spelled ∙ ap (λ r. raw (map shard_words left.added) ++ r) same.1);
    }

-- what tables leave
pub record TablesLeft (set : PlainSet) (lines : List (List ℕ)) (out : PlainSet) (rest : List (List ℕ)) : Type 0 where
  pub names : List (List ℕ)
  pub tables : List (List Shard)
  pub fit : FitTables set names tables
  pub leaves : out ≡ record set { tables = set.tables ++ names; shards = set.shards ++ tables }
  pub spelled : lines ≡ raw (tables_lines names tables) ++ rest

no_tables_left : (set : PlainSet) (lines : List (List ℕ)) (out : PlainSet) (rest : List (List ℕ)) → both set lines ≡ both out rest → TablesLeft set lines out rest
no_tables_left set lines out rest e =
    let same = both_is set out lines rest e in
    record {
      names = [];
      tables = [];
      fit = tt;
      leaves = sym same.0 ∙ ap (λ (n : List (List ℕ)). let s : PlainSet = record set { tables = n } in s) (sym (append-nil set.tables))
          ∙ ap (λ (t : List (List Shard)). let s : PlainSet = record set { tables = set.tables ++ []; shards = t } in s) (sym (append-nil set.shards));
      spelled = same.1;
    }

more_tables : (set : PlainSet) (lines mid : List (List ℕ)) (next out : PlainSet) (rest : List (List ℕ)) → TableRead set lines next mid → TablesLeft next mid out rest → TablesLeft set lines out rest
more_tables set lines mid next out rest first later =
    let moved = subst (λ (s : PlainSet). TablesLeft s mid out rest) first.leaves later in
    record {
      names = first.name ∷ moved.names;
      tables = first.shards ∷ moved.tables;
      fit = (first.room, first.new, first.fit, moved.fit);
      leaves = moved.leaves
          ∙ ap (λ (n : List (List ℕ)). let s : PlainSet = record set { tables = n; shards = (set.shards ++ first.shards ∷ []) ++ moved.tables } in s) (append_assoc set.tables (first.name ∷ []) moved.names)
          ∙ ap (λ (t : List (List Shard)). let s : PlainSet = record set { tables = set.tables ++ first.name ∷ moved.names; shards = t } in s) (append_assoc set.shards (first.shards ∷ []) moved.tables);
      spelled = first.spelled
          ∙ ap (λ m. raw (table_lines first.name first.shards) ++ m) moved.spelled
          ∙ sym (append_assoc (raw (table_lines first.name first.shards)) (raw (tables_lines moved.names moved.tables)) rest)
          ∙ ap (λ ls. ls ++ rest) (sym (map-append joined (table_lines first.name first.shards) (tables_lines moved.names moved.tables)));
    }

pub tables_take : (room : ℕ) (set : PlainSet) (lines : List (List ℕ)) (out : PlainSet) (rest : List (List ℕ)) → parts goes_table next_table room set lines ≡ Some (out, rest) → TablesLeft set lines out rest
unfolding parts
tables_take zero set lines out rest e =
    elim (choose (goes_table lines) None (Some (set, lines)) (Some (out, rest)) e) [
      | inl p ↦ absurd (none_some p.1)
      | inr p ↦ no_tables_left set lines out rest p.1
    ]
tables_take (suc room) set lines out rest e =
    elim (choose (goes_table lines) (next_table set lines >>= λ n. parts goes_table next_table room n.0 n.1) (Some (set, lines)) (Some (out, rest)) e) [
      | inl p ↦
          let step = bind_some (next_table set lines) (λ n. parts goes_table next_table room n.0 n.1) (out, rest) p.1 in
          more_tables set lines step.0.1 step.0.0 out rest (next_table_take set lines step.0.0 step.0.1 step.1) (tables_take room step.0.0 step.0.1 out rest step.2)
      | inr p ↦ no_tables_left set lines out rest p.1
    ]
