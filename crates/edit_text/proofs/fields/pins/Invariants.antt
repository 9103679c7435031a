use Rattle.std.proofs.Common.{◌≡◌, ◌-◌, length}
use Rattle.std.specs.List.{All}
use Rattle.text_scan.specs.Parts.{parts_at}
use Rattle.text_scan.proofs.Parts.{with_parts}
use Rattle.edit_text.specs.EditRanges.{IsPinInRange}
use Rattle.edit_text.specs.ReadEdits.{pin_at, pins_at}
use Rattle.edit_text.proofs.fields.pins.Given as goal

-- those so far, and then those that are left to be read
abbrev pub invariant-loop : goal.invariant-loop
invariant-loop l = record {
  long : length l.pins.items ≡ l.counter;
  read : with_parts l.pins.items (parts_at (λ _. pin_at) l.counter (l.count - l.counter) l.scanner) ≡ pins_at l.count l.fn.scanner;
  range : All IsPinInRange l.pins.items;
}
