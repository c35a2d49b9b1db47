-- What a set spells is read as that set.
use Rattle.std.proofs.Common.{◌≡◌, ℕ, ◌+◌, ◌≤◌, true, false, cond, leb, ◌&&◌, List, [], ◌∷◌, ◌++◌, map, length, Some, None, refl, sym, ap, subst, ◌∙◌, append_assoc, arith}
use Rattle.std.specs.Prelude.{codes, decimal}
use Rattle.std.specs.List.{slice_split, list_all, AllByRecursion}
use Rattle.std.specs.Str.{bytes_eq}
use Rattle.std.proofs.lemmas.Bool.{le-leb}
use Rattle.std.proofs.lemmas.Bool.Decides.{nat_tests}
use Rattle.std.proofs.lemmas.List.{append-nil, length-append, map-append}
use Rattle.std.proofs.lemmas.List.Splits.{slice_split_at}
use Rattle.lynx_shards.specs.declared.shard.Shard.{Shard}
use Rattle.lynx_set.specs.declared.action.Action.{Action}
use Rattle.lynx_set.specs.declared.version.Version.{Version}
use Rattle.lynx_set.specs.declared.version.Version.TheVariants.{One, Two}
use Rattle.lynx_lex.specs.Digits.{read_number}
use Rattle.lynx_lex.specs.Lines.{◌>>=◌, is_feed, is_printable, AreWords, only_if, joined}
use Rattle.lynx_text.specs.Pieces.{next_words, begins, one_after, ends, after_version}
use Rattle.lynx_set.specs.Scopes.{scope_in}
use Rattle.lynx_text.specs.Parts.{servers_of, parts, goes_table, next_table, goes_program, next_program, set_at, lines_at, read_text}
use Rattle.lynx_set.specs.declared.program.ParameterRange.{ParameterRange}
use Rattle.lynx_set.specs.Plain.{PlainHop, PlainProgram, PlainSet, plain_set}
use Rattle.lynx_set.specs.Scopes.{PlainScope}
use Rattle.lynx_set.specs.Rules.{IsNew, bound, next_scope, FitActions, FitHops, with_hop, FitRanges, FitsProgram, FitPrograms, with_program, FitShards, FitTables, with_table, no_tables, no_programs, IsPlainSet}
use Rattle.lynx_set.specs.Set.{Set}
use Rattle.lynx_set.specs.Text.{text, bound_names, bound_in, action_words, action_lines, shard_words, tables_lines, version_words, text_of}
use Rattle.lynx_lex.proofs.WordLaws.{and_true, both_true, number-word, printable-joined}
use Rattle.lynx_lex.proofs.NumberLaws.{number_again}
use Rattle.lynx_text.proofs.Known.{bind_is, only_if_yes, Known, none_known}
use Rattle.lynx_text.proofs.ActionsAgain.{IsOpen, action_again}
use Rattle.lynx_text.proofs.Hops.{raw, binds-count, count_actions, lines_of_hops}
use Rattle.lynx_text.proofs.HopsAgain.{IsMore, more_behind, next_words_again, open_next, grown_names, known_after}
use Rattle.lynx_text.proofs.Programs.{lines_of_program, lines_of_programs, start}
use Rattle.lynx_text.proofs.Ranges.{lines_of_ranges}
use Rattle.lynx_text.proofs.RangesAgain.{range_words_are}
use Rattle.lynx_text.proofs.ProgramsAgain.{one_after_again, two_words, hop_words, grown_by_hops, known_new, program_words_are, end_are, spelled_parameters, program_begins, over_is, programs_again, few_programs}
use Rattle.lynx_text.proofs.TablesAgain.{shard_words_are, table_words_are, tables_again, few_tables, tables_known}
use Rattle.lynx_text.proofs.Found.{plain_lines, set_lines-plain}
use Rattle.std.proofs.lemmas.List.Elements.{All-from_recursion}

abbrev over : List (List ℕ)
over = [] ∷ []

-- ---- each line of a set has words

abbrev pub AllWords : List (List (List ℕ)) → Type 0
AllWords [] = Unit {0}
AllWords (words ∷ lines) = AreWords words × AllWords lines

all_words : (xs ys : List (List (List ℕ))) → AllWords xs → AllWords ys → AllWords (xs ++ ys)
all_words [] ys xs_are ys_are = ys_are
all_words (x ∷ xs) ys xs_are ys_are = (xs_are.0, all_words xs ys xs_are.1 ys_are)

actions_words : (scope : PlainScope) (actions : List Action) (after later : List (List ℕ)) → FitActions scope actions after → IsOpen scope → AllWords (action_lines scope.tables (after ++ later) (length scope.names) actions)
actions_words scope [] after later fit open_ = tt
actions_words scope (action ∷ actions) after later fit open_ =
    let binds = fit.2 in
    let next = next_scope scope binds in
    let grown = grown_names next actions after fit.4 in
    let whole : after ++ later ≡ scope.names ++ (bound binds ++ (grown.0 ++ later)) =
    ap (λ a. a ++ later) grown.1 ∙ append_assoc (scope.names ++ bound binds) grown.0 later ∙ append_assoc scope.names (bound binds) (grown.0 ++ later) in
    let count : length next.names ≡ length scope.names + bound_names action = length-append scope.names (bound binds) ∙ ap (λ n. length scope.names + n) (binds-count scope action binds fit.3) in
    let is = action_again scope action binds (grown.0 ++ later) open_ fit.0 fit.1 fit.3 in (
      subst (λ (ns : List (List ℕ)). AreWords (action_words scope.tables ns (length scope.names) action)) (sym whole) is.are,
      subst (λ (n : ℕ). AllWords (action_lines scope.tables (after ++ later) n actions)) count (actions_words next actions after later fit.4 (open_next scope action binds open_ fit.3)),
    )

hops_words : (set : PlainSet) (program : PlainProgram) (hops : List PlainHop) (after later : List (List ℕ))
    → set.servers ≤ 16 → Known set.tables → Known program.names → program.parameters ≤ length program.names → FitHops set program hops after → AllWords (lines_of_hops set.tables (after ++ later) (length program.names) hops)
hops_words set program [] after later limit tables known enough fit = tt
hops_words set program (hop ∷ hops) after later limit tables known enough fit =
    let names : List (List ℕ) = fit.3 in
    let scope = scope_in set hop.server program [] in
    let grown = grown_names scope hop.actions names fit.4 in
    let more = grown_by_hops set (with_hop program hop names) hops after fit.5 in
    let whole : after ++ later ≡ names ++ (more.0 ++ later) = ap (λ a. a ++ later) more.1 ∙ append_assoc names more.0 later in
    let count : length names ≡ length program.names + bound_in hop.actions = count_actions scope hop.actions names fit.4 in
    let open_ : IsOpen scope = record { names = known; tables = tables; few = enough } in (
      hop_words hop.server (omega (arith, fit.1)),
      all_words (action_lines set.tables (after ++ later) (length program.names) hop.actions) (lines_of_hops set.tables (after ++ later) (length program.names + bound_in hop.actions) hops)
          (subst (λ (ns : List (List ℕ)). AllWords (action_lines set.tables ns (length program.names) hop.actions)) (sym whole) (actions_words scope hop.actions names (more.0 ++ later) fit.4 open_))
          (subst (λ (n : ℕ). AllWords (lines_of_hops set.tables (after ++ later) n hops)) count
          (hops_words set (with_hop program hop names) hops after later limit tables (known_after scope hop.actions names fit.4 known) (omega (arith, ap length grown.1, length-append program.names grown.0)) fit.5)),
    )

ranges_words : (names more : List (List ℕ)) (first : ℕ) (ranges : List ParameterRange) → Known names → FitRanges (length names) first ranges → AllWords (lines_of_ranges (names ++ more) ranges)
ranges_words names more first [] known fit = tt
ranges_words names more first (range ∷ ranges) known fit =
    (range_words_are names more range known fit.1 fit.2 fit.3, ranges_words names more (range.parameter + 1) ranges known fit.4)

program_words : (set : PlainSet) (program : List ℕ × PlainProgram) → set.servers ≤ 16 → Known set.tables → IsNew (map (λ named. named.0) set.programs) program.0 → FitsProgram set program.1 → AllWords (lines_of_program set.tables program)
program_words set (name, program) limit tables new fit =
    let names : List (List ℕ) = fit.parameters in
    let first : PlainProgram = start names program.ranges in
    let known : Known names = known_new [] names none_known fit.names in
    let grown = grown_by_hops set first program.hops program.names fit.hops in
    let head = program_words_are name names (map (λ named. named.0) set.programs) new fit.names in
    let hops = hops_words set first program.hops program.names [] limit tables known (omega arith) fit.hops in
    let rows : AllWords (lines_of_ranges program.names program.ranges) = subst (λ (ns : List (List ℕ)). AllWords (lines_of_ranges ns program.ranges)) (sym grown.1) (ranges_words names grown.0 0 program.ranges known fit.ranges) in (
      subst (λ (ps : List (List ℕ)). AreWords (codes "program" ∷ name ∷ ps)) (sym (spelled_parameters set program fit)) head,
      all_words (lines_of_ranges program.names program.ranges ++ lines_of_hops set.tables program.names program.parameters program.hops) ((codes "end" ∷ []) ∷ [])
          (all_words (lines_of_ranges program.names program.ranges) (lines_of_hops set.tables program.names program.parameters program.hops) rows
          (subst (λ (n : ℕ). AllWords (lines_of_hops set.tables program.names n program.hops)) (sym fit.count)
          (subst (λ (ns : List (List ℕ)). AllWords (lines_of_hops set.tables ns (length names) program.hops)) (append-nil program.names) hops)))
          (end_are, tt),
    )

programs_words : (set : PlainSet) (programs : List (List ℕ × PlainProgram)) → set.servers ≤ 16 → Known set.tables → FitPrograms set programs → AllWords (lines_of_programs set.tables programs)
programs_words set [] limit tables fit = tt
programs_words set (program ∷ programs) limit tables fit =
    all_words (lines_of_program set.tables program) (lines_of_programs set.tables programs) (program_words set program limit tables fit.1 fit.2) (programs_words (with_program set program) programs limit tables fit.3)

shards_words : (servers : ℕ) (before shards : List Shard) → servers ≤ 16 → FitShards servers before shards → AllWords (map shard_words shards)
shards_words servers before [] limit fit = tt
shards_words servers before (shard ∷ shards) limit fit =
    (shard_words_are shard (omega (arith, fit.2, fit.3)) fit.3 (omega (arith, fit.4)), shards_words servers (before ++ shard ∷ []) shards limit fit.5)

tables_words : (set : PlainSet) (names : List (List ℕ)) (tables : List (List Shard)) → set.servers ≤ 16 → FitTables set names tables → AllWords (tables_lines names tables)
tables_words set [] [] limit fit = tt
tables_words set [] (shards ∷ tables) limit fit = absurd fit
tables_words set (name ∷ names) [] limit fit = absurd fit
tables_words set (name ∷ names) (shards ∷ tables) limit fit = (
  table_words_are name fit.1.named,
  all_words (map shard_words shards) (tables_lines names tables) (shards_words set.servers [] shards limit fit.2) (tables_words (with_table set name shards) names tables limit fit.3),
)

servers_words : (servers : ℕ) → servers ≤ 16 → AreWords (codes "servers" ∷ decimal servers ∷ [])
servers_words servers few = two_words (codes "servers") (decimal servers) refl (number-word servers (omega arith)).0

known_tables : (set : PlainSet) → IsPlainSet set → Known set.tables
known_tables set is = tables_known (no_tables set.version set.servers) set.tables set.shards is.2 none_known

set_words : (set : PlainSet) → IsPlainSet set → AllWords (plain_lines set)
set_words set is = (
  servers_words set.servers is.1,
  all_words (tables_lines set.tables set.shards) (lines_of_programs set.tables set.programs) (tables_words (no_tables set.version set.servers) set.tables set.shards is.1 is.2) (programs_words (no_programs set) set.programs is.1 (known_tables set is) is.3),
)

-- ---- a text is cut into its lines

printable-no_feed : (byte : ℕ) → is_printable byte ≡ true → is_feed byte ≡ false
printable-no_feed byte printable = grind (arith, nat_tests)

no_feed : (bytes : List ℕ) → list_all is_printable bytes ≡ true → AllByRecursion (λ byte. is_feed byte ≡ false) bytes
no_feed [] h = tt
no_feed (byte ∷ bytes) h = let both_hold = and_true (is_printable byte) (list_all is_printable bytes) h in (printable-no_feed byte both_hold.0, no_feed bytes both_hold.1)

pieces_of_text : (lines : List (List (List ℕ))) → AllWords lines → slice_split is_feed (text lines) ≡ raw lines ++ over
pieces_of_text [] are = refl
pieces_of_text (words ∷ lines) are =
    ap (slice_split is_feed) (append_assoc (joined words) (10 ∷ []) (text lines))
    ∙ slice_split_at is_feed (joined words) 10 (text lines) (All-from_recursion (λ byte. is_feed byte ≡ false) (joined words) (no_feed (joined words) (printable-joined words are.0.1))) refl
    ∙ ap (λ ls. joined words ∷ ls) (pieces_of_text lines are.1)

-- ---- a set is read again

servers_again : (servers : ℕ) → 1 ≤ servers → servers ≤ 16 → servers_of (codes "servers" ∷ decimal servers ∷ []) ≡ Some servers
unfolding servers_of
servers_again servers some few =
    bind_is (one_after (codes "servers") (codes "servers" ∷ decimal servers ∷ [])) (λ w. read_number w >>= λ n. only_if (leb 1 n && leb n 16) n) (decimal servers) (Some servers) (one_after_again (codes "servers") (decimal servers))
    (bind_is (read_number (decimal servers)) (λ n. only_if (leb 1 n && leb n 16) n) servers (Some servers) (number_again servers (omega arith))
    (only_if_yes (leb 1 servers && leb servers 16) servers (both_true (leb 1 servers) (leb servers 16) (le-leb _ _ some) (le-leb _ _ few))))

-- the programs of a set are no tables and no shards
programs_stop : (set : PlainSet) (programs : List (List ℕ × PlainProgram)) (wanted : List ℕ) → FitPrograms set programs → bytes_eq [] wanted ≡ false → bytes_eq (codes "program") wanted ≡ false
    → begins (raw (lines_of_programs set.tables programs) ++ over) wanted ≡ false
programs_stop set [] wanted fit empty other = empty
programs_stop set (program ∷ programs) wanted fit empty other =
    let tail : List (List ℕ) = raw (lines_of_programs set.tables programs) ++ over in
    ap (λ ls. begins ls wanted) (ap (λ ls. ls ++ over) (map-append joined (lines_of_program set.tables program) (lines_of_programs set.tables programs)) ∙ append_assoc (raw (lines_of_program set.tables program)) (raw (lines_of_programs set.tables programs)) over)
    ∙ program_begins set program set.tables tail wanted fit.1 fit.2 ∙ other

set_again : (set : PlainSet) → IsPlainSet set → set_at set.version (raw (plain_lines set) ++ over) ≡ Some set
unfolding set_at
set_again set is =
    let words : List (List ℕ) = codes "servers" ∷ decimal set.servers ∷ [] in
    let rows : List (List (List ℕ)) = tables_lines set.tables set.shards in
    let others : List (List (List ℕ)) = lines_of_programs set.tables set.programs in
    let below : List (List ℕ) = raw others ++ over in
    let tail : List (List ℕ) = raw rows ++ below in
    let below_is : IsMore below = more_behind others over over_is in
    let none : PlainSet = no_tables set.version set.servers in
    let filled : PlainSet = no_programs set in
    ap (λ ls. set_at set.version (joined words ∷ ls)) (ap (λ ls. ls ++ over) (map-append joined rows others) ∙ append_assoc (raw rows) (raw others) over)
    ∙ bind_is (next_words (joined words ∷ tail)) (λ w. servers_of w.0 >>= λ n. parts goes_table next_table 64 (no_tables set.version n) w.1 >>= λ t. parts goes_program next_program 64 t.0 t.1 >>= λ p. only_if (ends p.1) p.0) (words, tail) (Some set)
    (next_words_again words tail (servers_words set.servers is.1) (more_behind rows below below_is))
    (bind_is (servers_of words) (λ n. parts goes_table next_table 64 (no_tables set.version n) tail >>= λ t. parts goes_program next_program 64 t.0 t.1 >>= λ p. only_if (ends p.1) p.0) set.servers (Some set)
    (servers_again set.servers is.0 is.1)
    (bind_is (parts goes_table next_table 64 none tail) (λ t. parts goes_program next_program 64 t.0 t.1 >>= λ p. only_if (ends p.1) p.0) (filled, below) (Some set)
    (tables_again none set.tables set.shards 64 below is.1 is.2 (omega (arith, few_tables none set.tables set.shards is.2 (omega arith))) below_is
    (programs_stop filled set.programs (codes "shard") is.3 refl refl) (programs_stop filled set.programs (codes "table") is.3 refl refl))
    (bind_is (parts goes_program next_program 64 filled below) (λ p. only_if (ends p.1) p.0) (set, over) (Some set)
    (programs_again filled set.programs 64 is.1 (known_tables set is) is.3 (omega (arith, few_programs filled set.programs is.3 (omega arith)))) refl)))

-- the version is read again
version_again : (version : Version) (line : List ℕ) (lines : List (List ℕ)) → after_version (joined (version_words version) ∷ line ∷ lines) ≡ Some (version, line ∷ lines)
version_again One line lines = refl
version_again Two line lines = refl

version_are : (version : Version) → AreWords (version_words version)
version_are One = (omega arith, refl)
version_are Two = (omega arith, refl)

-- what a set spells is read as that set
pub again : (set : Set) → IsPlainSet (plain_set set) → length (text_of set) ≤ 65536 → read_text (text_of set) ≡ Some (plain_set set)
unfolding lines_at
again set is short =
    let plain : PlainSet = plain_set set in
    let whole : List (List (List ℕ)) = version_words set.version ∷ plain_lines plain in
    ap (λ b. cond b (lines_at (slice_split is_feed (text_of set))) None) (le-leb _ _ short)
    ∙ ap lines_at (ap (λ ls. slice_split is_feed (text ls)) (set_lines-plain set) ∙ pieces_of_text whole (version_are set.version, set_words plain is))
    ∙ bind_is (after_version (raw whole ++ over)) (λ begun. set_at begun.0 begun.1) (set.version, raw (plain_lines plain) ++ over) (Some plain)
    (version_again set.version _ _) (set_again plain is)
