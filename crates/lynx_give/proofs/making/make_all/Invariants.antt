use Rattle.std.proofs.Common.{◌≡◌, ◌≤◌, length}
use Rattle.std.specs.Io.KnownBytes.{Appends}
use Rattle.lynx_give.specs.Given.{IsMade, made_text, told_of}
use Rattle.lynx_give.proofs.Listed.{AreDone}
use Rattle.lynx_give.proofs.making.make_all.Given as goal

-- the stores of the servers so far
abbrev pub invariant-loop-number : goal.invariant-loop-number
invariant-loop-number g l = record {
  done : AreDone (IsMade g.S.Stores.store_terms l.fn.folder l.fn.set) l.fn.found.items l.found.rest.items l.number l.made.items;
  lines : Appends (g.W.Write.contents l.initial.writer) (g.W.Write.contents l.writer) (told_of made_text 0 l.made.items);
  count : l.count ≡ length l.fn.found.items;
  within : l.number ≤ l.count;
}
