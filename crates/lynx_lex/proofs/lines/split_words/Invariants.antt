use Rattle.std.proofs.Common.{◌≡◌, ℕ, suc, true, length, List, [], ◌++◌, Option, Some, None}
use Rattle.std.specs.List.{slice_split, list_all}
use Rattle.std.specs.Borrow.{Bor}
use Rattle.lynx_lex.specs.Lines.{is_space, is_printable, is_filled, texts}
use Rattle.lynx_lex.proofs.lines.split_words.Given as goal

-- the words of what is left
abbrev pub pieces_left : Option (Bor (List ℕ)) → List (List ℕ)
pieces_left None = []
pieces_left (Some rest) = slice_split is_space rest.now

abbrev pub bytes_left : Option (Bor (List ℕ)) → ℕ
bytes_left None = 0
bytes_left (Some rest) = suc (length rest.now)

abbrev pub invariant-loop-left : goal.invariant-loop-left
invariant-loop-left l = record {
  printable : list_all is_printable l.line ≡ true;
  filled : list_all is_filled (texts l.words.items) ≡ true;
  whole : texts l.words.items ++ pieces_left l.left ≡ slice_split is_space l.line;
}

abbrev pub decreases-loop-left : goal.decreases-loop-left
decreases-loop-left l = bytes_left l.left
