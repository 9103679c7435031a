-- A desk that never fails: one port's reading became another.
use Rattle.std.proofs.Common.{◌≡◌, ◌<◌, ◌++◌, List, [], ℕ, refl, Ok, Some, None, length, take}
use Rattle.std.specs.Prelude.{slice_get, slice_set}
use Rattle.std.specs.declared.option.Option.{Option}
use Rattle.gr_desk.specs.declared.port.Port.{Port}
use Rattle.gr_desk.specs.declared.reading.Reading.{Reading}
use Rattle.gr_desk.specs.declared.never_fails.NeverFails.{NeverFails}
use Rattle.gr_desk.specs.Ports.{number}
use Rattle.gr_desk.specs.Files.{left_of, file_number}
use Rattle.gr_desk.specs.NeverFails.{told_by}
use Rattle.gr_desk.specs.Calls.{KeepsOthers, Strays, Opens, Reads}
use Rattle.gr_desk.proofs.Faults.{stood}
use Rattle.gr_desk.proofs.Places.{slice_get-set_same, slice_get-set_other, number-distinct}

-- a flag that is not told
untold : {P : Type 0} → Strays P None None
untold = record { kept = λ h. refl; stays = λ h. h; set = λ h. refl }

-- a call at the port whose reading stands at k made `new` of it
module _ (s : NeverFails) (port : Port) (k : ℕ) (at : k ≡ number port) (old new : Reading) (was : slice_get s.readings k ≡ Some old) where
  -- the desk after the call
  abbrev done : NeverFails
  done = record s { readings = slice_set s.readings k new }

  reading-was : slice_get s.readings (number port) ≡ Some old
  reading-was = rw (← at) was

  reading-now : slice_get (slice_set s.readings k new) (number port) ≡ Some new
  reading-now = rw (← at) (slice_get-set_same s.readings k old new was)

  others-kept : KeepsOthers (told_by s) (told_by done) port
  others-kept = record {
    files = refl;
    ports = λ p other. rw (slice_get-set_other s.readings k (number p) new (rw at (number-distinct p port other))) refl;
  }

  -- an open
  pub opens-quiet : {E : Type 0} {name : List ℕ} (file : Option ℕ) → new ≡ record { file = file; at = 0 } → file ≡ file_number s.files.items name
      → Opens {T = Unit {0}} {E = E} (told_by s) (told_by done) port name (Ok tt)
  opens-quiet file made found = record {
    ok = rw (reading-now, made, found) refl;
    err = tt;
    others = others-kept;
    stray = untold;
    cause = stood refl;
    still = refl;
  }

  -- a read
  pub reads-quiet : {E : Type 0} {n : ℕ} {buf : List ℕ}
      → left_of s.files.items old ≡ take n buf ++ left_of s.files.items new → (n ≡ 0 → 0 < length buf → left_of s.files.items new ≡ [])
      → Reads {E = E} (told_by s) (told_by done) port (Ok n) buf
  reads-quiet taken end = record {
    bytes = rw (reading-now, reading-was) (taken, end);
    only = refl;
    others = others-kept;
    stray = untold;
    cause = stood refl;
    still = refl;
  }
