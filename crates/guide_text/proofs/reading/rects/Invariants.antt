use Rattle.std.proofs.Common.{◌≡◌, ◌-◌, ◌≤◌, length}
use Rattle.text_scan.specs.Reading.{is_next, past_blanks}
use Rattle.text_scan.proofs.Bounds.{AreParts}
use Rattle.guide_text.specs.ReadGuides.{rect_at}
use Rattle.guide_text.proofs.Takes.{next_rect_takes}
use Rattle.guide_text.proofs.reading.rects.Given as goal

abbrev pub invariant-loop-rects : goal.invariant-loop-rects
invariant-loop-rects l = record {
  text : l.scanner.text ≡ l.fn.scanner.text;
  forward : l.fn.scanner.place ≤ l.scanner.place;
  read : AreParts (is_next 41) past_blanks rect_at next_rect_takes l.fn.scanner l.scanner l.rects.items;
}

abbrev pub decreases-loop-rects : goal.decreases-loop-rects
decreases-loop-rects l = length l.fn.scanner.text - l.scanner.place
