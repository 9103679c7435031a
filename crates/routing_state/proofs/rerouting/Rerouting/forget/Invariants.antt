use Rattle.std.proofs.Common.{ℕ, ◌≡◌, ◌<◌, length, None}
use Rattle.std.specs.Prelude.{Option, List, slice_index_or}
use Rattle.grid_base.specs.declared.piece.Piece.{Piece}
use Rattle.routing_state.proofs.rerouting.Rerouting.forget.Given as goal

-- nothing is saved for the nets so far
abbrev pub invariant-loop-net : goal.invariant-loop-net
invariant-loop-net l = record {
  state : l.self.state ≡ l.initial.self.state;
  best : l.self.best ≡ l.initial.self.best;
  long : length l.self.saved.items ≡ length l.initial.self.saved.items;
  none : (k : ℕ) (d : Option (List Piece)) → k < l.net → slice_index_or l.self.saved.items k d ≡ None;
}
