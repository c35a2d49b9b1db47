-- What the chains of a list still owe.
use Rattle.std.specs.Prelude.{◌≡◌, ◌<◌, ◌↔◌, ℕ, List, length, codes, Some}
use Rattle.std.specs.List.{flat_map}
use Rattle.std.specs.List.Sorted.{IsStrictlySortedBy}
use Rattle.std.specs.Ordering.{nat_cmp, ordering_then}
use Rattle.std.specs.declared.cmp.Ordering.{Ordering}
use Rattle.lynx_names.specs.declared.chain.ChainId.{ChainId}
use Rattle.lynx_set.specs.Lookups.{hops_of}
use Rattle.lynx_set.specs.Set.{Set}
use Rattle.lynx_entry.specs.declared.request.Request.{Request}
use Rattle.lynx_world.specs.Order.{done_hops}
use Rattle.lynx_world.specs.Placed.{Placed}
use Rattle.lynx_order.specs.Explanations.{request_of}
use Rattle.lynx_order.specs.Lists.{IsIn}
use Rattle.lynx_lines.specs.Printed.{hop_text}
use Rattle.lynx_lex.specs.Lines.{with_feed}
use Rattle.lynx_report.specs.declared.owed.OwedHop.{OwedHop}

-- a hop of the program of a chain that began, which no server's history has
pub record IsOwed (chains : Set) (list : List Placed) (owed : OwedHop) : Type 0 where
  pub request : Request
  pub begun : request_of list owed.chain ≡ Some request
  pub of_program : owed.hop < length (hops_of chains request.program)
  pub not_done : ¬ IsIn owed.hop (done_hops owed.chain list)

-- by origin, then index
abbrev pub chain_cmp : ChainId → ChainId → Ordering
chain_cmp one other =
    ordering_then (nat_cmp one.origin other.origin) (nat_cmp one.index other.index)

-- by chain, then hop
abbrev pub owed_cmp : OwedHop → OwedHop → Ordering
owed_cmp one other = ordering_then (chain_cmp one.chain other.chain) (nat_cmp one.hop other.hop)

-- Exactly the hops that are owed, each once, by their chains, those of one chain rising.
pub record AreTheOwed (chains : Set) (list : List Placed) (owed : List OwedHop) : Type 0 where
  pub each : (hop : OwedHop) → IsIn hop owed ↔ IsOwed chains list hop
  pub in_order : IsStrictlySortedBy owed_cmp owed

-- the line of an owed hop
abbrev pub owed_line : OwedHop → List ℕ
owed_line owed = with_feed (hop_text (codes "owed") owed.chain owed.hop)

-- a line for each
abbrev pub owed_lines : List OwedHop → List ℕ
owed_lines owed = flat_map owed_line owed
