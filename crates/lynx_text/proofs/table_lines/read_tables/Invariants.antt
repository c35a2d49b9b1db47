use Rattle.std.proofs.Common.{◌≡◌, ◌-◌, ◌≤◌, length}
use Rattle.lynx_set.specs.Plain.{plain_set}
use Rattle.lynx_text.specs.Parts.{parts, goes_table, next_table}
use Rattle.lynx_text.proofs.table_lines.read_tables.Given as goal

-- what is left decides
abbrev pub invariant-tables : goal.invariant-tables
invariant-tables l = record {
  few : length l.set.tables ≤ 64;
  programs : l.set.programs ≡ l.fn.set.programs;
  rest : parts goes_table next_table (64 - length l.set.tables) (plain_set l.set) l.lines ≡ parts goes_table next_table 64 (plain_set l.fn.set) l.fn.lines;
}

abbrev pub decreases-tables : goal.decreases-tables
decreases-tables l = length l.lines
