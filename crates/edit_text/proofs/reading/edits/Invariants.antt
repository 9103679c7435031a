use Rattle.std.proofs.Common.{◌≡◌, ◌-◌, length}
use Rattle.std.specs.List.{All}
use Rattle.text_scan.specs.Parts.{parts_at}
use Rattle.text_scan.proofs.Parts.{with_parts}
use Rattle.edit_text.specs.EditRanges.{IsEditInRange}
use Rattle.edit_text.specs.ReadEdits.{edit_at, edits_at}
use Rattle.edit_text.proofs.reading.edits.Given as goal

-- those so far, and then those that are left to be read
abbrev pub invariant-loop : goal.invariant-loop
invariant-loop l = record {
  long : length l.edits.items ≡ l.counter;
  read : with_parts l.edits.items (parts_at (λ _. edit_at) l.counter (l.count - l.counter) l.scanner) ≡ edits_at l.count l.fn.scanner;
  range : All IsEditInRange l.edits.items;
}
