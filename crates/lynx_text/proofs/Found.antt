-- A text that is read is the text of the set that was read.
use Rattle.std.proofs.Common.{◌≡◌, inl, inr, ℕ, ◌+◌, ◌≤◌, Bool, true, false, cond, leb, ◌&&◌, List, [], ◌∷◌, ◌++◌, map, take, length, Some, None, refl, sym, ap, subst, ◌∙◌, append_assoc, arith}
use Rattle.std.specs.Prelude.{codes, decimal}
use Rattle.std.specs.Str.{bytes_eq}
use Rattle.std.specs.List.{slice_split, join_with_byte}
use Rattle.std.proofs.lemmas.Bool.{leb-true}
use Rattle.std.proofs.lemmas.List.{append-nil, map-append}
use Rattle.std.proofs.lemmas.List.Splits.{join_with_byte-slice_split}
use Rattle.std.proofs.lemmas.Slice.Eq.{bytes_eq-Decides}
use Rattle.lynx_set.specs.declared.version.Version.{Version}
use Rattle.lynx_set.specs.declared.version.Version.TheVariants.{One, Two}
use Rattle.lynx_set.specs.declared.program.Hop.{Hop}
use Rattle.lynx_set.specs.declared.program.Program.{Program}
use Rattle.lynx_lex.specs.Digits.{read_number}
use Rattle.lynx_lex.specs.Lines.{◌>>=◌, is_feed, only_if, joined, line}
use Rattle.lynx_text.specs.Pieces.{next_words, one_after, ends, after_version, version_of}
use Rattle.lynx_text.specs.Parts.{servers_of, parts, goes_table, next_table, goes_program, next_program, set_at, lines_at, read_text}
use Rattle.lynx_set.specs.Plain.{PlainSet, plain_hop, plain_named, plain_set}
use Rattle.lynx_set.specs.Rules.{no_tables, IsPlainSet, IsSet}
use Rattle.lynx_set.specs.Set.{Set}
use Rattle.lynx_set.specs.Text.{text, head_lines, version_words, tables_lines, programs_lines, hop_lines, hops_lines, bound_in, set_lines, text_of}
use Rattle.lynx_lex.proofs.WordLaws.{and_true}
use Rattle.lynx_lex.proofs.NumberLaws.{number_takes}
use Rattle.lynx_lex.proofs.Equal.{some_is, none_some}
use Rattle.lynx_text.proofs.Lookups.{bind_some, choose, only_if_some}
use Rattle.lynx_text.proofs.Hops.{raw, IsNext, next_words_take, one_take, lines_of_hops}
use Rattle.lynx_text.proofs.Ranges.{lines_of_ranges}
use Rattle.lynx_text.proofs.Programs.{lines_of_program, lines_of_programs, ProgramsLeft, programs_take}
use Rattle.lynx_text.proofs.Tables.{TablesLeft, tables_take}

-- lines and their line feeds
pub text-join : (lines : List (List (List ℕ))) → join_with_byte 10 (raw lines ++ [] ∷ []) ≡ text lines
text-join [] = refl
text-join (words ∷ []) = sym (append-nil (line words))
text-join (words ∷ next ∷ lines) = ap (λ t. joined words ++ (10 ∷ t)) (text-join (next ∷ lines)) ∙ sym (append_assoc (joined words) (10 ∷ []) (text (next ∷ lines)))

-- a text whose pieces are lines is their text
pub text_from_pieces : (bytes : List ℕ) (lines : List (List (List ℕ))) → slice_split is_feed bytes ≡ raw lines ++ [] ∷ [] → bytes ≡ text lines
text_from_pieces bytes lines pieces = sym (join_with_byte-slice_split 10 bytes) ∙ ap (join_with_byte 10) pieces ∙ text-join lines

record ServersRead (words : List (List ℕ)) (servers : ℕ) : Type 0 where
  some : 1 ≤ servers
  few : servers ≤ 16
  spelled : words ≡ codes "servers" ∷ decimal servers ∷ []

servers_take : (words : List (List ℕ)) (servers : ℕ) → servers_of words ≡ Some servers → ServersRead words servers
unfolding servers_of
servers_take words servers e =
    let s_w = bind_some (one_after (codes "servers") words) (λ w. read_number w >>= λ n. only_if (leb 1 n && leb n 16) n) servers e in
    let s_n = bind_some (read_number s_w.0) (λ n. only_if (leb 1 n && leb n 16) n) servers s_w.2 in
    let test = only_if_some (leb 1 s_n.0 && leb s_n.0 16) s_n.0 servers s_n.2 in
    let both_hold = and_true (leb 1 s_n.0) (leb s_n.0 16) test.0 in
    let low : 1 ≤ s_n.0 = leb-true _ _ both_hold.0 in
    let high : s_n.0 ≤ 16 = leb-true _ _ both_hold.1 in
    record {
      some = omega (arith, test.1, low);
      few = omega (arith, test.1, high);
      spelled = one_take (codes "servers") words s_w.0 s_w.1 ∙ ap (λ w. codes "servers" ∷ w ∷ []) ((number_takes s_w.0 s_n.0 s_n.1).0 ∙ ap decimal test.1);
    }

-- the lines of a plain set
abbrev pub plain_lines : PlainSet → List (List (List ℕ))
plain_lines set = (codes "servers" ∷ decimal set.servers ∷ []) ∷ tables_lines set.tables set.shards ++ lines_of_programs set.tables set.programs

ends_take : (lines : List (List ℕ)) → ends lines ≡ true → lines ≡ [] ∷ []
ends_take [] e = absurd cc
ends_take ([] ∷ []) e = refl
ends_take ([] ∷ b ∷ ls) e = absurd cc
ends_take ((x ∷ xs) ∷ ls) e = absurd cc

-- what the lines of a set leave
record SetRead (version : Version) (lines : List (List ℕ)) (set : PlainSet) : Type 0 where
  is : IsPlainSet set
  tells : set.version ≡ version
  spelled : lines ≡ raw (plain_lines set) ++ [] ∷ []

set_made : (version : Version) (lines mid below last : List (List ℕ)) (servers : ℕ) (words : List (List ℕ)) (with_tables out : PlainSet)
    → IsNext lines words mid → ServersRead words servers → TablesLeft (no_tables version servers) mid with_tables below → ProgramsLeft with_tables below out last → last ≡ [] ∷ [] → SetRead version lines out
set_made version lines mid below last servers words with_tables out next head tables programs ended =
    let made : PlainSet = record { version = version; servers = servers; tables = tables.names; shards = tables.tables; programs = [] } in
    let later : ProgramsLeft made below out last = subst (λ (s : PlainSet). ProgramsLeft s below out last) tables.leaves programs in
    let whole : PlainSet = record { version = version; servers = servers; tables = tables.names; shards = tables.tables; programs = later.added } in
    let rows : List (List (List ℕ)) = tables_lines tables.names tables.tables in
    let others : List (List (List ℕ)) = lines_of_programs tables.names later.added in
    subst (SetRead version lines) (sym later.leaves) (record {
      is = (head.some, head.few, tables.fit, later.fit);
      tells = refl;
      spelled = next.spelled ∙ ap (λ w. joined w ∷ mid) head.spelled
          ∙ ap (λ m. joined (codes "servers" ∷ decimal servers ∷ []) ∷ m)
          (tables.spelled ∙ ap (λ b. raw rows ++ b) (later.spelled ∙ ap (λ l. raw others ++ l) ended)
          ∙ sym (append_assoc (raw rows) (raw others) ([] ∷ [])) ∙ ap (λ ls. ls ++ [] ∷ []) (sym (map-append joined rows others)));
    })

set_at_take : (version : Version) (lines : List (List ℕ)) (set : PlainSet) → set_at version lines ≡ Some set → SetRead version lines set
unfolding set_at
set_at_take version lines set e =
    let s_w = bind_some (next_words lines) (λ w. servers_of w.0 >>= λ n. parts goes_table next_table 64 (no_tables version n) w.1 >>= λ t. parts goes_program next_program 64 t.0 t.1 >>= λ p. only_if (ends p.1) p.0) set e in
    let s_n = bind_some (servers_of s_w.0.0) (λ n. parts goes_table next_table 64 (no_tables version n) s_w.0.1 >>= λ t. parts goes_program next_program 64 t.0 t.1 >>= λ p. only_if (ends p.1) p.0) set s_w.2 in
    let s_t = bind_some (parts goes_table next_table 64 (no_tables version s_n.0) s_w.0.1) (λ t. parts goes_program next_program 64 t.0 t.1 >>= λ p. only_if (ends p.1) p.0) set s_n.2 in
    let s_p = bind_some (parts goes_program next_program 64 s_t.0.0 s_t.0.1) (λ p. only_if (ends p.1) p.0) set s_t.2 in
    let test = only_if_some (ends s_p.0.1) s_p.0.0 set s_p.2 in
    subst (SetRead version lines) test.1
    (set_made version lines s_w.0.1 s_t.0.1 s_p.0.1 s_n.0 s_w.0.0 s_t.0.0 s_p.0.0 (next_words_take lines s_w.0.0 s_w.0.1 s_w.1) (servers_take s_w.0.0 s_n.0 s_n.1)
    (tables_take 64 (no_tables version s_n.0) s_w.0.1 s_t.0.0 s_t.0.1 s_t.1) (programs_take 64 s_t.0.0 s_t.0.1 s_p.0.0 s_p.0.1 s_p.1) (ends_take s_p.0.1 test.0))

version_take : (line : List ℕ) (version : Version) → version_of line ≡ Some version → line ≡ joined (version_words version)
version_take line version e =
    elim (choose (bytes_eq line (codes "lynx 1")) (Some One) (cond (bytes_eq line (codes "lynx 2")) (Some Two) None) (Some version) e) [
      | inl p ↦ (bytes_eq-Decides line (codes "lynx 1")).0 p.0 ∙ ap (λ v. joined (version_words v)) (some_is One version p.1)
      | inr p ↦ elim (choose (bytes_eq line (codes "lynx 2")) (Some Two) None (Some version) p.1) [
        | inl q ↦ (bytes_eq-Decides line (codes "lynx 2")).0 q.0 ∙ ap (λ v. joined (version_words v)) (some_is Two version q.1)
        | inr q ↦ absurd (none_some q.1)
      ]
    ]

-- how the version's line is spelled
after_version_take : (lines : List (List ℕ)) (version : Version) (rest : List (List ℕ)) → after_version lines ≡ Some (version, rest) → lines ≡ joined (version_words version) ∷ rest
after_version_take [] version rest e = absurd cc
after_version_take (a ∷ []) version rest e = absurd cc
after_version_take (a ∷ b ∷ ls) version rest e =
    let told = bind_some (version_of a) (λ v. Some (v, b ∷ ls)) (version, rest) e in
    let begun : Version × List (List ℕ) = (told.0, b ∷ ls) in
    let same = some_is begun (version, rest) told.2 in
    ap (λ l. l ∷ b ∷ ls) (version_take a told.0 told.1) ∙ ap (λ (t : Version × List (List ℕ)). joined (version_words t.0) ∷ t.1) same

-- what is read is spelled so
pub lines_take : (bytes : List ℕ) (set : PlainSet) → lines_at (slice_split is_feed bytes) ≡ Some set → IsPlainSet set × (bytes ≡ text (version_words set.version ∷ plain_lines set))
unfolding lines_at
lines_take bytes set e =
    let s_v = bind_some (after_version (slice_split is_feed bytes)) (λ begun. set_at begun.0 begun.1) set e in
    let version : Version = s_v.0.0 in
    let first = after_version_take (slice_split is_feed bytes) version s_v.0.1 s_v.1 in
    let read = set_at_take version s_v.0.1 set s_v.2 in (
      read.is,
      text_from_pieces bytes (version_words set.version ∷ plain_lines set)
          (first ∙ ap (λ v. joined (version_words v) ∷ s_v.0.1) (sym read.tells) ∙ ap (λ r. joined (version_words set.version) ∷ r) read.spelled),
    )

-- plain sets have the lines of sets
hops-plain : (tables names : List (List ℕ)) (place : ℕ) (hops : List Hop) → hops_lines tables names place hops ≡ lines_of_hops tables names place (map plain_hop hops)
hops-plain tables names place [] = refl
hops-plain tables names place (hop ∷ hops) = ap (λ ls. hop_lines tables names place hop ++ ls) (hops-plain tables names (place + bound_in hop.actions) hops)

programs-plain : (tables : List (List ℕ)) (programs : List (List ℕ × Program)) → programs_lines tables programs ≡ lines_of_programs tables (map plain_named programs)
programs-plain tables [] = refl
programs-plain tables ((name, program) ∷ programs) =
    ap (λ ls. ((codes "program" ∷ name ∷ take program.parameters program.names) ∷ lines_of_ranges program.names program.ranges ++ ls ++ (codes "end" ∷ []) ∷ []) ++ programs_lines tables programs) (hops-plain tables program.names program.parameters program.hops)
    ∙ ap (λ ls. lines_of_program tables (plain_named (name, program)) ++ ls) (programs-plain tables programs)

pub set_lines-plain : (set : Set) → set_lines set ≡ version_words set.version ∷ plain_lines (plain_set set)
set_lines-plain set = ap (λ ls. head_lines set.version set.servers ++ tables_lines set.tables set.shards ++ ls) (programs-plain set.tables set.programs)

-- and so are sets
pub found : (bytes : List ℕ) (set : Set) → read_text bytes ≡ Some (plain_set set) → IsSet set × (bytes ≡ text_of set)
found bytes set e = by (leb (length bytes) 65536) e refl
  where
    by : (test : Bool) → cond test (lines_at (slice_split is_feed bytes)) None ≡ Some (plain_set set) → leb (length bytes) 65536 ≡ test → IsSet set × (bytes ≡ text_of set)
    by true e short =
        let read = lines_take bytes (plain_set set) e in
        let spelled : bytes ≡ text_of set = read.1 ∙ ap text (sym (set_lines-plain set)) in
        ((read.0, subst (λ (b : List ℕ). length b ≤ 65536) spelled (leb-true _ _ short)), spelled)
    by false e short = absurd cc
