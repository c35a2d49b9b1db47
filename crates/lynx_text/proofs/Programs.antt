-- Programs: what is read is spelled so.
use Rattle.std.proofs.Common.{◌≡◌, inl, inr, ℕ, zero, suc, ◌-◌, ◌<◌, ◌≤◌, true, ltb, leb, ◌&&◌, List, [], ◌∷◌, ◌++◌, map, take, length, Option, Some, None, is_none, refl, sym, ap, subst, ◌∙◌, append_assoc, arith}
use Rattle.std.specs.Prelude.{codes}
use Rattle.std.specs.Str.{bytes_eq}
use Rattle.std.proofs.lemmas.Bool.{ltb-true, leb-true}
use Rattle.std.proofs.lemmas.List.{append-nil, map-append, take_at}
use Rattle.std.proofs.lemmas.Slice.Eq.{bytes_eq-Decides}
use Rattle.lynx_lex.specs.Lines.{◌>>=◌, only_if, joined}
use Rattle.lynx_text.specs.Pieces.{next_words}
use Rattle.lynx_text.specs.Parts.{parts, goes_hop, next_hop, end_line, parameters_of, program_line, program_head, next_program, goes_program}
use Rattle.lynx_set.specs.declared.program.ParameterRange.{ParameterRange}
use Rattle.lynx_set.specs.Plain.{PlainProgram, PlainSet}
use Rattle.lynx_set.specs.Names.{place_of}
use Rattle.lynx_text.specs.Ranges.{next_range, goes_range}
use Rattle.lynx_text.specs.Reading.{name_of, new_name}
use Rattle.lynx_set.specs.Rules.{IsNew, AreNew, FitRanges, HasRanges, FitsProgram, FitPrograms, with_program}
use Rattle.lynx_lex.specs.Word.{is_name}
use Rattle.lynx_lex.proofs.WordLaws.{and_true}
use Rattle.lynx_text.proofs.Lookups.{bind_some, only_if_some, choose, both, both_is}
use Rattle.lynx_text.proofs.Actions.{new_take}
use Rattle.lynx_text.proofs.Hops.{raw, IsNext, next_words_take, HopRead, lines_of_hops, HopsLeft, next_hop_take, more_hops, hops_take}
use Rattle.lynx_text.proofs.Ranges.{lines_of_ranges, RangesLeft, ranges_take}
use Rattle.lynx_lex.proofs.Equal.{some_is, none_some}

-- parameters that are read are those that are spelled
pub parameters_take : (known words names : List (List ℕ)) → parameters_of known words ≡ Some names → AreNew known words × (names ≡ known ++ words)
parameters_take known [] names e = (tt, sym (some_is known names e) ∙ sym (append-nil known))
parameters_take known (word ∷ words) names e =
    let name = bind_some (new_name known word) (λ n. parameters_of (known ++ n ∷ []) words) names e in
    let new = new_take known word name.0 name.1 in
    let later = parameters_take (known ++ name.0 ∷ []) words names name.2 in
    subst (λ (n : List ℕ). AreNew known (n ∷ words) × (names ≡ known ++ n ∷ words)) (sym new.1)
    ((new.0, later.0), later.1 ∙ append_assoc known (name.0 ∷ []) words)

-- the words of a program's first line
pub record HeadRead (programs words : List (List ℕ)) (name : List ℕ) (names : List (List ℕ)) : Type 0 where
  pub room : length programs < 64
  pub few : length names ≤ 8
  pub new : IsNew programs name
  pub names_new : AreNew [] names
  pub spelled : words ≡ codes "program" ∷ name ∷ names

program_line_take : (programs words : List (List ℕ)) (name : List ℕ) (names : List (List ℕ)) → program_line programs words ≡ Some (name, names) → HeadRead programs words name names
unfolding program_line
program_line_take programs [] name names e = absurd cc
program_line_take programs (a ∷ []) name names e = absurd cc
program_line_take programs (word ∷ first ∷ words) name names e =
    let s_is = bind_some (only_if {X = Unit {0}} (bytes_eq word (codes "program")) tt) (λ is. only_if {X = Unit {0}} (ltb (length programs) 64 && leb (length words) 8) tt >>= λ ok. name_of first >>= λ n. only_if {X = Unit {0}} (is_none (place_of programs n)) tt >>= λ new. parameters_of [] words >>= λ ns. Some (n, ns)) (name, names) e in
    let s_ok = bind_some (only_if {X = Unit {0}} (ltb (length programs) 64 && leb (length words) 8) tt) (λ ok. name_of first >>= λ n. only_if {X = Unit {0}} (is_none (place_of programs n)) tt >>= λ new. parameters_of [] words >>= λ ns. Some (n, ns)) (name, names) s_is.2 in
    let s_n = bind_some (name_of first) (λ n. only_if {X = Unit {0}} (is_none (place_of programs n)) tt >>= λ new. parameters_of [] words >>= λ ns. Some (n, ns)) (name, names) s_ok.2 in
    let s_new = bind_some (only_if {X = Unit {0}} (is_none (place_of programs s_n.0)) tt) (λ new. parameters_of [] words >>= λ ns. Some (s_n.0, ns)) (name, names) s_n.2 in
    let s_ns = bind_some (parameters_of [] words) (λ ns. Some (s_n.0, ns)) (name, names) s_new.2 in
    let same = both_is s_n.0 name s_ns.0 names s_ns.2 in
    let named = only_if_some (is_name first) first s_n.0 s_n.1 in
    let limits = and_true (ltb (length programs) 64) (leb (length words) 8) (only_if_some (ltb (length programs) 64 && leb (length words) 8) tt s_ok.0 s_ok.1).0 in
    let few : length words ≤ 8 = leb-true _ _ limits.1 in
    let parameters = parameters_take [] words s_ns.0 s_ns.1 in
    let words_are : words ≡ names = sym parameters.1 ∙ same.1 in
    let first_is : first ≡ name = named.1 ∙ same.0 in
    record {
      room = ltb-true _ _ limits.0;
      few = omega (arith, ap length words_are);
      new = record {
        named = ap is_name (sym first_is) ∙ named.0;
        new = ap (place_of programs) (sym same.0) ∙ none_is (place_of programs s_n.0) (only_if_some (is_none (place_of programs s_n.0)) tt s_new.0 s_new.1).0;
      };
      names_new = subst (AreNew []) words_are parameters.0;
      spelled = ap (λ w. w ∷ first ∷ words) ((bytes_eq-Decides word (codes "program")).0 (only_if_some (bytes_eq word (codes "program")) tt s_is.0 s_is.1).0)
          ∙ ap (λ w. codes "program" ∷ w ∷ words) first_is ∙ ap (λ ws. codes "program" ∷ name ∷ ws) words_are;
    }
  where
    none_is : (o : Option ℕ) → is_none o ≡ true → o ≡ None
    none_is None h = refl
    none_is (Some x) h = absurd cc

end_line_take : (words : List (List ℕ)) (x : Unit {0}) → end_line words ≡ Some x → words ≡ codes "end" ∷ []
end_line_take [] x e = absurd cc
end_line_take (a ∷ []) x e = ap (λ w. w ∷ []) ((bytes_eq-Decides a (codes "end")).0 (only_if_some (bytes_eq a (codes "end")) tt x e).0)
end_line_take (a ∷ b ∷ words) x e = absurd cc

-- the lines of a program under its name
abbrev pub lines_of_program : List (List ℕ) → List ℕ × PlainProgram → List (List (List ℕ))
lines_of_program tables (name, program) =
    (codes "program" ∷ name ∷ take program.parameters program.names) ∷ lines_of_ranges program.names program.ranges ++ lines_of_hops tables program.names program.parameters program.hops ++ (codes "end" ∷ []) ∷ []

-- lines in three parts, and those behind them
pub raw_three : (a b c : List (List (List ℕ))) (rest : List (List ℕ)) → raw (a ++ b ++ c) ++ rest ≡ raw a ++ (raw b ++ (raw c ++ rest))
raw_three a b c rest =
    ap (λ ls. ls ++ rest) (map-append joined (a ++ b) c ∙ ap (λ ls. ls ++ raw c) (map-append joined a b))
    ∙ append_assoc (raw a ++ raw b) (raw c) rest ∙ append_assoc (raw a) (raw b) (raw c ++ rest)

-- what a program's lines leave
pub record ProgramRead (set : PlainSet) (lines : List (List ℕ)) (out : PlainSet) (rest : List (List ℕ)) : Type 0 where
  pub program : List ℕ × PlainProgram
  pub room : length set.programs < 64
  pub new : IsNew (map (λ named. named.0) set.programs) program.0
  pub fit : FitsProgram set program.1
  pub leaves : out ≡ with_program set program
  pub spelled : lines ≡ raw (lines_of_program set.tables program) ++ rest

pub names_count : (programs : List (List ℕ × PlainProgram)) → length (map (λ named. named.0) programs) ≡ length programs
names_count [] = refl
names_count (program ∷ programs) = ap suc (names_count programs)

some_hops : (set : PlainSet) (program : PlainProgram) (lines mid : List (List ℕ)) (next out : PlainProgram) (rest : List (List ℕ))
    → HopRead set program lines next mid → HopsLeft set next mid out rest → (left : HopsLeft set program lines out rest) × (0 < length left.added)
some_hops set program lines mid next out rest first later = (more_hops set program lines mid next out rest first later, omega arith)

-- a program with its ranges, before its hops
abbrev pub start : List (List ℕ) → List ParameterRange → PlainProgram
start names ranges = record { parameters = length names; names = names; ranges = ranges; hops = [] }

-- what a program's head leaves
record HeadLeft (set : PlainSet) (lines : List (List ℕ)) (name : List ℕ) (program : PlainProgram) (rest : List (List ℕ)) : Type 0 where
  names : List (List ℕ)
  ranges : List ParameterRange
  room : length set.programs < 64
  few : length names ≤ 8
  new : IsNew (map (λ named. named.0) set.programs) name
  names_new : AreNew [] names
  fit : FitRanges (length names) 0 ranges
  has : HasRanges set.version ranges
  leaves : program ≡ start names ranges
  spelled : (more : List (List ℕ)) → lines ≡ joined (codes "program" ∷ name ∷ names) ∷ (raw (lines_of_ranges (names ++ more) ranges) ++ rest)

program_head_take : (set : PlainSet) (lines : List (List ℕ)) (name : List ℕ) (program : PlainProgram) (rest : List (List ℕ)) → program_head set lines ≡ both (name, program) rest → HeadLeft set lines name program rest
unfolding program_head
program_head_take set lines name program rest e =
    let known : List (List ℕ) = map (λ named. named.0) set.programs in
    let goes = goes_range set.version in
    let s_words = bind_some (next_words lines) (λ w. program_line known w.0 >>= λ h. parts goes next_range 8 (start h.1 []) w.1 >>= λ r. both (h.0, r.0) r.1) ((name, program), rest) e in
    let s_head = bind_some (program_line known s_words.0.0) (λ h. parts goes next_range 8 (start h.1 []) s_words.0.1 >>= λ r. both (h.0, r.0) r.1) ((name, program), rest) s_words.2 in
    let s_ranges = bind_some (parts goes next_range 8 (start s_head.0.1 []) s_words.0.1) (λ r. both (s_head.0.0, r.0) r.1) ((name, program), rest) s_head.2 in
    let out : List ℕ × PlainProgram = (name, program) in
    let made : List ℕ × PlainProgram = (s_head.0.0, s_ranges.0.0) in
    let same = both_is made out s_ranges.0.1 rest s_ranges.2 in
    let name_is : s_head.0.0 ≡ name = ap (λ (p : List ℕ × PlainProgram). p.0) same.0 in
    let names : List (List ℕ) = s_head.0.1 in
    let read = program_line_take known s_words.0.0 s_head.0.0 names s_head.1 in
    let left = ranges_take set.version 8 (start names []) s_words.0.1 s_ranges.0.0 s_ranges.0.1 s_ranges.1 in
    record {
      names = names;
      ranges = left.added;
      room = omega (arith, read.room, names_count set.programs);
      few = read.few;
      new = subst (IsNew known) name_is read.new;
      names_new = read.names_new;
      fit = left.fit;
      has = left.has;
      leaves = sym (ap (λ (p : List ℕ × PlainProgram). p.1) same.0) ∙ left.leaves;
      spelled = λ more.
          (next_words_take lines s_words.0.0 s_words.0.1 s_words.1).spelled
          ∙ ap (λ w. joined w ∷ s_words.0.1) (read.spelled ∙ ap (λ n. codes "program" ∷ n ∷ names) name_is)
          ∙ ap (λ ls. joined (codes "program" ∷ name ∷ names) ∷ ls) (left.spelled more ∙ ap (λ r. raw (lines_of_ranges (names ++ more) left.added) ++ r) same.1);
    }

program_made : (set : PlainSet) (lines mid below rest : List (List ℕ)) (name : List ℕ) (first program : PlainProgram) (last : List (List ℕ)) (out : PlainSet)
    → (head : HeadLeft set lines name first mid)
    → (left : HopsLeft set (start head.names head.ranges) mid program below) → 0 < length left.added
    → IsNext below last rest → last ≡ codes "end" ∷ [] → record set { programs = set.programs ++ (name, program) ∷ [] } ≡ out → ProgramRead set lines out rest
program_made set lines mid below rest name first program last out head left some ended last_is same =
    let names : List (List ℕ) = head.names in
    let ranges : List ParameterRange = head.ranges in
    let made : PlainProgram = record { parameters = length names; names = left.names; ranges = ranges; hops = left.added } in
    let parameters : take (length names) left.names ≡ names = ap (take (length names)) left.grown ∙ take_at names left.more (length names) refl in
    let rows : List (List (List ℕ)) = lines_of_ranges left.names ranges in
    let tail : List (List (List ℕ)) = lines_of_hops set.tables left.names (length names) left.added in
    let below_is : below ≡ joined (codes "end" ∷ []) ∷ rest = ended.spelled ∙ ap (λ w. joined w ∷ rest) last_is in
    let mid_is : mid ≡ raw tail ++ joined (codes "end" ∷ []) ∷ rest =
    left.spelled [] ∙ ap (λ ns. raw (lines_of_hops set.tables ns (length names) left.added) ++ below) (append-nil left.names)
    ∙ ap (λ r. raw tail ++ r) below_is in
    let behind : raw (lines_of_ranges (names ++ left.more) ranges) ++ mid ≡ raw (rows ++ tail ++ (codes "end" ∷ []) ∷ []) ++ rest =
    ap (λ ns. raw (lines_of_ranges ns ranges) ++ mid) (sym left.grown) ∙ ap (λ m. raw rows ++ m) mid_is ∙ sym (raw_three rows tail ((codes "end" ∷ []) ∷ []) rest) in
    record {
      program = (name, made);
      room = head.room;
      new = head.new;
      fit = record { parameters = names; few = head.few; names = head.names_new; count = refl; ranges = head.fit; has_ranges = head.has; some = some; hops = left.fit };
      leaves = sym same ∙ ap (λ (p : PlainProgram). let s : PlainSet = record set { programs = set.programs ++ (name, p) ∷ [] } in s) left.leaves;
      spelled = head.spelled left.more
          ∙ ap (λ ps. joined (codes "program" ∷ name ∷ ps) ∷ (raw (lines_of_ranges (names ++ left.more) ranges) ++ mid)) (sym parameters)
          ∙ ap (λ ls. joined (codes "program" ∷ name ∷ take (length names) left.names) ∷ ls) behind;
    }

program_hops_take : (set : PlainSet) (lines mid after : List (List ℕ)) (name : List ℕ) (begun first : PlainProgram) (out : PlainSet) (rest : List (List ℕ))
    → (head : HeadLeft set lines name begun mid) → HopRead set (start head.names head.ranges) mid first after
    → (parts goes_hop (next_hop set) (8 - length first.hops) first after >>= λ r. next_words r.1 >>= λ last. end_line last.0 >>= λ ok. both (record set { programs = set.programs ++ (name, r.0) ∷ [] }) last.1) ≡ Some (out, rest)
    → ProgramRead set lines out rest
program_hops_take set lines mid after name begun first out rest head hop e =
    let s_read = bind_some (parts goes_hop (next_hop set) (8 - length first.hops) first after) (λ r. next_words r.1 >>= λ last. end_line last.0 >>= λ ok. both (record set { programs = set.programs ++ (name, r.0) ∷ [] }) last.1) (out, rest) e in
    let s_last = bind_some (next_words s_read.0.1) (λ last. end_line last.0 >>= λ ok. both (record set { programs = set.programs ++ (name, s_read.0.0) ∷ [] }) last.1) (out, rest) s_read.2 in
    let s_end = bind_some (end_line s_last.0.0) (λ ok. both (record set { programs = set.programs ++ (name, s_read.0.0) ∷ [] }) s_last.0.1) (out, rest) s_last.2 in
    let same = both_is (record set { programs = set.programs ++ (name, s_read.0.0) ∷ [] }) out s_last.0.1 rest s_end.2 in
    let hops = some_hops set (start head.names head.ranges) mid after first s_read.0.0 s_read.0.1 hop (hops_take (8 - length first.hops) set first after s_read.0.0 s_read.0.1 s_read.1) in
    program_made set lines mid s_read.0.1 rest name begun s_read.0.0 s_last.0.0 out head hops.0 hops.1
    (subst (λ (r : List (List ℕ)). IsNext s_read.0.1 s_last.0.0 r) same.1 (next_words_take s_read.0.1 s_last.0.0 s_last.0.1 s_last.1))
    (end_line_take s_last.0.0 s_end.0 s_end.1) same.0

next_program_take : (set : PlainSet) (lines : List (List ℕ)) (out : PlainSet) (rest : List (List ℕ)) → next_program set lines ≡ Some (out, rest) → ProgramRead set lines out rest
unfolding next_program
next_program_take set lines out rest e =
    let end_of : List ℕ → PlainProgram → List (List ℕ) → Option (PlainSet × List (List ℕ)) = λ name program ls. next_words ls >>= λ last. end_line last.0 >>= λ ok. Some (record set { programs = set.programs ++ (name, program) ∷ [] }, last.1) in
    let s_head = bind_some (program_head set lines) (λ h. next_hop set h.0.1 h.1 >>= λ f. parts goes_hop (next_hop set) (8 - length f.0.hops) f.0 f.1 >>= λ r. end_of h.0.0 r.0 r.1) (out, rest) e in
    let s_first = bind_some (next_hop set s_head.0.0.1 s_head.0.1) (λ f. parts goes_hop (next_hop set) (8 - length f.0.hops) f.0 f.1 >>= λ r. end_of s_head.0.0.0 r.0 r.1) (out, rest) s_head.2 in
    let head = program_head_take set lines s_head.0.0.0 s_head.0.0.1 s_head.0.1 s_head.1 in
    program_hops_take set lines s_head.0.1 s_first.0.1 s_head.0.0.0 s_head.0.0.1 s_first.0.0 out rest head
    (subst (λ (p : PlainProgram). HopRead set p s_head.0.1 s_first.0.0 s_first.0.1) head.leaves (next_hop_take set s_head.0.0.1 s_head.0.1 s_first.0.0 s_first.0.1 s_first.1)) s_first.2

-- the lines of programs
abbrev pub lines_of_programs : List (List ℕ) → List (List ℕ × PlainProgram) → List (List (List ℕ))
lines_of_programs tables [] = []
lines_of_programs tables (program ∷ programs) = lines_of_program tables program ++ lines_of_programs tables programs

-- what programs leave
pub record ProgramsLeft (set : PlainSet) (lines : List (List ℕ)) (out : PlainSet) (rest : List (List ℕ)) : Type 0 where
  pub added : List (List ℕ × PlainProgram)
  pub fit : FitPrograms set added
  pub leaves : out ≡ record set { programs = set.programs ++ added }
  pub spelled : lines ≡ raw (lines_of_programs set.tables added) ++ rest

no_programs_left : (set : PlainSet) (lines : List (List ℕ)) (out : PlainSet) (rest : List (List ℕ)) → both set lines ≡ both out rest → ProgramsLeft set lines out rest
no_programs_left set lines out rest e =
    let same = both_is set out lines rest e in
    record {
      added = [];
      fit = tt;
      leaves = sym same.0 ∙ ap (λ (p : List (List ℕ × PlainProgram)). let s : PlainSet = record set { programs = p } in s) (sym (append-nil set.programs));
      spelled = same.1;
    }

more_programs : (set : PlainSet) (lines mid : List (List ℕ)) (next out : PlainSet) (rest : List (List ℕ)) → ProgramRead set lines next mid → ProgramsLeft next mid out rest → ProgramsLeft set lines out rest
more_programs set lines mid next out rest first later =
    let moved = subst (λ (s : PlainSet). ProgramsLeft s mid out rest) first.leaves later in
    record {
      added = first.program ∷ moved.added;
      fit = (first.room, first.new, first.fit, moved.fit);
      leaves = moved.leaves ∙ ap (λ (p : List (List ℕ × PlainProgram)). let s : PlainSet = record set { programs = p } in s) (append_assoc set.programs (first.program ∷ []) moved.added);
      spelled = first.spelled
          ∙ ap (λ m. raw (lines_of_program set.tables first.program) ++ m) moved.spelled
          ∙ sym (append_assoc (raw (lines_of_program set.tables first.program)) (raw (lines_of_programs set.tables moved.added)) rest)
          ∙ ap (λ ls. ls ++ rest) (sym (map-append joined (lines_of_program set.tables first.program) (lines_of_programs set.tables moved.added)));
    }

pub programs_take : (room : ℕ) (set : PlainSet) (lines : List (List ℕ)) (out : PlainSet) (rest : List (List ℕ)) → parts goes_program next_program room set lines ≡ Some (out, rest) → ProgramsLeft set lines out rest
unfolding parts
programs_take zero set lines out rest e =
    elim (choose (goes_program lines) None (Some (set, lines)) (Some (out, rest)) e) [
      | inl p ↦ absurd (none_some p.1)
      | inr p ↦ no_programs_left set lines out rest p.1
    ]
programs_take (suc room) set lines out rest e =
    elim (choose (goes_program lines) (next_program set lines >>= λ n. parts goes_program next_program room n.0 n.1) (Some (set, lines)) (Some (out, rest)) e) [
      | inl p ↦
          let step = bind_some (next_program set lines) (λ n. parts goes_program next_program room n.0 n.1) (out, rest) p.1 in
          more_programs set lines step.0.1 step.0.0 out rest (next_program_take set lines step.0.0 step.0.1 step.1) (programs_take room step.0.0 step.0.1 out rest step.2)
      | inr p ↦ no_programs_left set lines out rest p.1
    ]
