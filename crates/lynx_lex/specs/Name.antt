-- The bytes of a name.
use Rattle.std.specs.Prelude.{◌≡◌, ℕ, ◌-◌, ◌≤◌, List, ◌++◌, length, take, drop, replicate}
use Rattle.std.proofs.Common.{sym, ◌∙◌, ap, arith}
use Rattle.std.proofs.lemmas.List.{length-take-le, take-append-drop}
use Rattle.lynx_names.specs.declared.limits.TheConstants.{MAX_NAME_BYTES}
use Rattle.lynx_lex.specs.declared.name.Name.TheInside.{Inside}

-- the bytes that count
abbrev pub name_bytes : Inside → List ℕ
name_bytes n = take n.length n.bytes

-- behind the bytes that count there are zeros alone
pub record IsPadded (n : Inside) : Type 0 where
  pub within : n.length ≤ MAX_NAME_BYTES
  pub zeros : drop n.length n.bytes ≡ replicate (MAX_NAME_BYTES - n.length) 0
  pub whole : length n.bytes ≡ MAX_NAME_BYTES

-- the fields of a name of these bytes
abbrev pub padded : List ℕ → Inside
padded bytes =
    record { bytes = bytes ++ replicate (MAX_NAME_BYTES - length bytes) 0; length = length bytes }

-- the fields of a name follow from its bytes: the type of names asks for it, so it stands here
pub padded-name_bytes : (n : Inside) → IsPadded n → padded (name_bytes n) ≡ n
padded-name_bytes n h =
    let e : length (name_bytes n) ≡ n.length = length-take-le n.length n.bytes (omega arith) in
    let b : name_bytes n ++ replicate (MAX_NAME_BYTES - length (name_bytes n)) 0 ≡ n.bytes =
    ap (λ k. name_bytes n ++ replicate (MAX_NAME_BYTES - k) 0) e
    ∙ ap (λ zeros. name_bytes n ++ zeros) (sym h.zeros)
    ∙ take-append-drop n.length n.bytes in
    λ i. record { bytes = b i; length = e i }
