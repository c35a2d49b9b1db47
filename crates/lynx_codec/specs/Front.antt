-- What stands at the front of a stream.
use Rattle.std.specs.Prelude.{ℕ, List, [], ◌∷◌, length, take, drop, find, Option, Some, None, Result, Ok, Err, nat_lt, ◌==◌, if◌then◌else◌}
use Rattle.std.specs.Int.{w32, from_be_bytes}
use Rattle.lynx_codec.specs.declared.fault.DecodeFault.{DecodeFault}
use Rattle.lynx_codec.specs.declared.fault.DecodeFault.TheVariants as faults
use Rattle.lynx_codec.specs.declared.item.Item.{Item}
use Rattle.lynx_codec.specs.declared.limits.TheConstants.{MAX_BODY_BYTES}
use Rattle.lynx_codec.specs.declared.tag.Tag.{Tag}
use Rattle.lynx_codec.specs.declared.tag.Tag.TheVariants as tags
use Rattle.lynx_codec.specs.Encoding.{byte_of}
use Rattle.lynx_codec.specs.Reading.{◌>>=◌}
use Rattle.lynx_codec.specs.Bodies.{body_at}

abbrev pub all_tags : List Tag
all_tags =
    tags.Request ∷ tags.Look ∷ tags.Quit ∷ tags.Shut ∷ tags.Answer ∷ tags.Looked ∷ tags.Bye
    ∷ tags.Message ∷ tags.Begun ∷ tags.Refused ∷ tags.Hop ∷ []

-- the tag of that byte
unfoldable pub tag_of : ℕ → Option Tag
tag_of byte = find (λ tag. byte_of tag == byte) all_tags

-- an item and what follows it, nothing yet, or a fault
abbrev pub Found : Type 0
Found = Result (Option (Item × List ℕ)) DecodeFault

-- behind a tag and a length
abbrev pub sized : Tag → ℕ → List ℕ → Found
sized tag size bytes =
    if nat_lt MAX_BODY_BYTES size then Err faults.BadLength else
    if nat_lt (length bytes) size then Ok None else
    (body_at tag (take size bytes) >>= λ item. Ok (Some (item, drop size bytes)))

-- behind a byte that is a tag, or none
abbrev pub tagged : Option Tag → List ℕ → Found
tagged None bytes = Err faults.BadTag
tagged (Some tag) bytes =
    if nat_lt (length bytes) 4 then Ok None
    else sized tag (from_be_bytes w32 (take 4 bytes)) (drop 4 bytes)

unfoldable pub front : List ℕ → Found
front [] = Ok None
front (byte ∷ bytes) = tagged (tag_of byte) bytes
