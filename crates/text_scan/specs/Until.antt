-- Parts that are read one after another, up to an end.
use Rattle.std.specs.Prelude.{ℕ, zero, suc, Bool, if◌then◌else◌, List, [], ◌∷◌, length, Ok}
use Rattle.text_scan.specs.Parts.{Read, ◌>>=◌}
use Rattle.text_scan.specs.Reading.{Reading, left}

-- at most n parts: `ended` says where no more follow, and each part begins where `looked` leads
unfoldable pub parts_within : {A F : Type 0} → (Reading → Bool) → (Reading → Reading) → (Reading → Read Reading F A) → ℕ → Reading → Read Reading F (List A)
parts_within ended looked part zero r = Ok ([], r)
parts_within ended looked part (suc n) r = if ended r then Ok ([], looked r) else do
  one ← part (looked r)
  more ← parts_within ended looked part n one.1
  Ok (one.0 ∷ more.0, more.1)

-- all parts up to the end: where each takes a byte at least, there are no more of them than bytes left
abbrev pub parts_until : {A F : Type 0} → (Reading → Bool) → (Reading → Reading) → (Reading → Read Reading F A) → Reading → Read Reading F (List A)
parts_until ended looked part r = parts_within ended looked part (suc (length (left r))) r
