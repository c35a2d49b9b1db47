-- What a desk may answer, each from one state of it to the next.
use Rattle.std.specs.Prelude.{◌≡◌, ℕ, List, [], ◌∷◌, Result, Ok}
use Rattle.lynx_names.specs.declared.chain.ChainId.{ChainId}
use Rattle.lynx_names.specs.declared.memory.Memory.{Memory}
use Rattle.lynx_entry.specs.declared.request.Request.{Request}
use Rattle.lynx_entry.specs.declared.answer.Answer.{Answer}
use Rattle.lynx_codec.specs.declared.item.Looked.{Looked}
use Rattle.lynx_codec.specs.declared.item.Item.{Item}
use Rattle.lynx_codec.specs.declared.item.Item.TheVariants as items

-- to a request
abbrev pub Begins : Type 0 → Type 1
Begins D = D → Request → Answer → D → Type 0

-- to requests in order, from the desk's first state to its last
abbrev pub BeginsAll : {D : Type 0} → Begins D → D → List Request → List Answer → D → Type 0
BeginsAll begins first [] [] last = last ≡ first
BeginsAll begins first [] (answer ∷ answers) last = ⊥
BeginsAll begins first (request ∷ requests) [] last = ⊥
BeginsAll {D} begins first (request ∷ requests) (answer ∷ answers) last =
    (next : D) × begins first request answer next × BeginsAll begins next requests answers last

-- to a look at that hop of the chain
abbrev pub Looks : Type 0 → Type 1
Looks D = D → ChainId → ℕ → Result Looked Memory → D → Type 0

-- to a frame, as an item
abbrev pub Answering : Type 0 → Type 1
Answering D = D → Item → Item → D → Type 0

-- A frame is answered so; one that ends the talk is answered without asking the desk.
abbrev pub Replies : {D : Type 0} → Begins D → Looks D → Answering D
Replies begins looks first (items.Request request) (items.Answer answer) last =
    begins first request answer last
Replies begins looks first (items.Look look) (items.Looked looked) last =
    looks first look.chain look.hop (Ok looked) last
Replies begins looks first items.Quit items.Bye last = last ≡ first
Replies begins looks first items.Shut items.Bye last = last ≡ first
Replies begins looks first frame reply last = ⊥
