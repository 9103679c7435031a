use Rattle.std.proofs.Common.{◌≡◌, ◌≤◌, take}
use Rattle.std.specs.List.{count_by}
use Rattle.congestion_cells.specs.Classes.{is_above}
use Rattle.congestion_cells.proofs.classes.class_of.Given as goal

-- how many of the borders so far the load is above
abbrev pub invariant-loop-border : goal.invariant-loop-border
invariant-loop-border l = record {
  counted : l.class ≡ count_by (is_above l.load l.capacity) (take l.border-index l.border-items);
  small : l.class ≤ l.border-index;
}
