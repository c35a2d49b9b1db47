use Rattle.std.proofs.Common.{◌≡◌, ℕ, suc, length, List, [], ◌++◌, map, Option, Some, None}
use Rattle.std.specs.List.{slice_split}
use Rattle.std.specs.Borrow.{Bor}
use Rattle.lynx_lex.specs.Lines.{is_space}
use Rattle.lynx_hints.proofs.word.words_of.Given as goal

-- the words of what is left
abbrev pub pieces_left : Option (Bor (List ℕ)) → List (List ℕ)
pieces_left None = []
pieces_left (Some rest) = slice_split is_space rest.now

abbrev pub bytes_left : Option (Bor (List ℕ)) → ℕ
bytes_left None = 0
bytes_left (Some rest) = suc (length rest.now)

-- the words so far, and those of what is left
abbrev pub invariant-loop-left : goal.invariant-loop-left
invariant-loop-left l = map (λ word. word.text.now) l.words.items ++ pieces_left l.left ≡ slice_split is_space l.line

abbrev pub decreases-loop-left : goal.decreases-loop-left
decreases-loop-left l = bytes_left l.left
