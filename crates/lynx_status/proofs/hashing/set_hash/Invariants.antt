use Rattle.std.proofs.Common.{◌≡◌, take}
use Rattle.std.specs.Prelude.{fold}
use Rattle.lynx_status.specs.SetHash.{mixed}
use Rattle.lynx_status.proofs.hashing.set_hash.Given as goal

-- the hash of the bytes so far
abbrev pub invariant-loop-byte : goal.invariant-loop-byte
invariant-loop-byte l = l.hash ≡ fold mixed 14695981039346656037 (take l.byte-index l.text)
