-- A desk that never fails.
use Rattle.std.specs.Prelude.{[], Some, None, unwrap_or, option_map, slice_get}
use Rattle.gr_desk.specs.declared.reading.Reading.{Reading}
use Rattle.gr_desk.specs.declared.never_fails.NeverFails.{NeverFails}
use Rattle.gr_desk.specs.Ports.{number}
use Rattle.gr_desk.specs.Files.{bytes_under, left_of}
use Rattle.gr_desk.specs.Told.{Told}

-- the desk tells the bytes under each name and what is left of them to be read; it counts no fault
abbrev pub told_by : NeverFails → Told
told_by s = record {
  files = λ name. Some (unwrap_or (bytes_under s.files.items name) []);
  ports = λ p. record {
    rest = option_map (λ (r : Reading). left_of s.files.items r) (slice_get s.readings (number p));
    written = None;
    target = None;
    expected = None;
    state = None;
  };
  strayed = None;
  in_faults = 0;
  out_faults = 0;
}
