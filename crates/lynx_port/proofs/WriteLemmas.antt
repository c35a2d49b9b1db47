-- An encoding that is written piece by piece.
use Rattle.std.proofs.Common.{◌≡◌, ℕ, List, [], ◌++◌, Option, append_assoc, append-nil, take, drop, take-append-drop, refl, sym, ap, ◌∙◌}
use Rattle.std.specs.Io.KnownBytes.{Appends, Keeps}
use Rattle.std.proofs.KnownBytes.{Appends-nil, Appends-trans, Appends-kept}
use Rattle.lynx_port.specs.inner.Steps.{Wrote}

pub wrote_none : (known : Option (List ℕ)) (bytes : List ℕ) → Wrote known known bytes bytes
wrote_none known bytes = record { part = []; cut = refl; appended = Appends-nil known }

-- n more bytes of the rest
pub wrote_more : (first second third : Option (List ℕ)) (bytes rest : List ℕ) (n : ℕ) → Wrote first second bytes rest → Appends second third (take n rest) → Wrote first third bytes (drop n rest)
wrote_more first second third bytes rest n so_far more = record {
  part = so_far.part ++ take n rest;
  cut = so_far.cut ∙ ap (λ end. so_far.part ++ end) (sym (take-append-drop n rest)) ∙ sym (append_assoc so_far.part (take n rest) (drop n rest));
  appended = Appends-trans first second third so_far.part (take n rest) so_far.appended more;
}

pub wrote_kept : (first second third : Option (List ℕ)) (bytes rest : List ℕ) → Wrote first second bytes rest → Keeps second third → Wrote first third bytes rest
wrote_kept first second third bytes rest so_far same =
    record { part = so_far.part; cut = so_far.cut; appended = Appends-kept first second third so_far.part so_far.appended same }

pub wrote_all : (first second : Option (List ℕ)) (bytes rest : List ℕ) → Wrote first second bytes rest → rest ≡ [] → Appends first second bytes
wrote_all first second bytes rest so_far none =
    rw (so_far.cut, none, append-nil) so_far.appended
