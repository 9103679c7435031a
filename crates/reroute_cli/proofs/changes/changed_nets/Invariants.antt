use Rattle.std.proofs.Common.{◌≡◌, ◌≢◌, ◌<◌, ◌↔◌, ℕ, Bool, IsTrue, List, length}
use Rattle.grid_base.specs.declared.piece.Piece.{Piece}
use Rattle.grid_base.specs.Lists.{At}
use Rattle.tree_set.specs.Order.{IsRising}
use Rattle.reroute_cli.proofs.changes.changed_nets.Given as goal

-- so many nets are marked
abbrev pub invariant-loop-place : goal.invariant-loop-place
invariant-loop-place l = record {
  long : length l.changed.items ≡ l.place;
  each : (k : ℕ) (had is : Bool) (old new : List Piece) → At l.has_block k had → At l.given k old → At l.trees k new → At l.changed.items k is → IsTrue is ↔ (IsTrue had × (old ≢ new));
  rising : (k : ℕ) (tree : List Piece) → k < l.place → At l.trees k tree → IsRising tree;
}
