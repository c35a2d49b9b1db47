-- The touches of all chains as one list.
use Rattle.std.specs.Prelude.{ℕ, List, map, Option, Some, None}
use Rattle.lynx_names.specs.declared.chain.ChainId.{ChainId}
use Rattle.lynx_entry.specs.declared.entry.Entry.{Entry}
use Rattle.lynx_entry.specs.declared.entry.Entry.TheVariants.{Begun, Refused, Hop}
use Rattle.lynx_foot.specs.declared.touch.Touch.{Touch}
use Rattle.lynx_order.specs.declared.search.touched.ChainTouch.{ChainTouch}

-- the chain of which the entry is a hop
abbrev pub chain_in : Entry → Option ChainId
chain_in (Begun begun) = Some begun.chain
chain_in (Refused refused) = None
chain_in (Hop ran) = Some ran.message.chain

-- these touches, as those of the chain with that number, whose entry stands at that place
abbrev pub chain_touches : ℕ → ℕ → List Touch → List ChainTouch
chain_touches chain place touches =
    map (λ touch. record { touch = touch; chain = chain; place = place }) touches
