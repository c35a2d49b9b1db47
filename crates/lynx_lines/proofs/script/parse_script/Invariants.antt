use Rattle.std.proofs.Common.{◌≡◌, ◌++◌, List, length}
use Rattle.std.specs.List.{AllByRecursion}
use Rattle.lynx_entry.specs.declared.event.Event.{Event}
use Rattle.lynx_lines.specs.Scripts.{FitsEvent, script_of}
use Rattle.lynx_lines.proofs.script.parse_script.Given as goal

abbrev pub decreases-lines : goal.decreases-lines
decreases-lines l = length l.rest

-- the lines so far spell the events so far, and where the text is a script, the rest is one
abbrev pub invariant-lines : goal.invariant-lines
invariant-lines l = record {
  fit : AllByRecursion (FitsEvent l.set) l.events.items;
  spelled : l.text ≡ script_of l.set l.events.items ++ l.rest;
  more : (events : List Event) → AllByRecursion (FitsEvent l.set) events → l.text ≡ script_of l.set events
      → (others : List Event) × AllByRecursion (FitsEvent l.set) others × (l.rest ≡ script_of l.set others);
}
