use Rattle.std.proofs.Common.{◌≡◌, ◌≤◌, ◌-◌, length}
use Rattle.text_scan.specs.Reading.{whole, past_blanks}
use Rattle.text_scan.proofs.Bounds.{AreParts}
use Rattle.guide_text.specs.ReadGuides.{guide_at, no_guide_follows}
use Rattle.guide_text.proofs.Takes.{next_guide_takes}
use Rattle.guide_text.proofs.reading.read_guides.Given as goal

abbrev pub invariant-loop-scanner : goal.invariant-loop-scanner
invariant-loop-scanner l = record {
  text : l.scanner.text ≡ l.bytes;
  within : l.scanner.place ≤ length l.bytes;
  read : AreParts no_guide_follows past_blanks guide_at next_guide_takes (whole l.bytes) l.scanner l.guides.items;
}

abbrev pub decreases-loop-scanner : goal.decreases-loop-scanner
decreases-loop-scanner l = length l.bytes - l.scanner.place
