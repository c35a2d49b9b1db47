use Rattle.std.proofs.Common.{◌≡◌, ◌++◌, take}
use Rattle.std.specs.Prelude.{codes}
use Rattle.std.specs.List.{flat_map}
use Rattle.std.specs.String.{string_bytes}
use Rattle.lynx_status.specs.Records.{record_json}
use Rattle.lynx_status.proofs.records.put_records.Given as goal

-- the records so far, each behind a comma
abbrev pub invariant-loop-record : goal.invariant-loop-record
invariant-loop-record l =
    string_bytes l.text ≡ string_bytes l.initial.text ++ flat_map (λ one. codes "," ++ record_json one) (take l.record-index l.rest)
