use Rattle.std.proofs.Common.{ℕ, ◌≡◌, ◌<◌, None}
use Rattle.std.specs.Prelude.{Option, List, slice_index_or}
use Rattle.grid_base.specs.declared.piece.Piece.{Piece}
use Rattle.routing_state.specs.Best.{best_of, IsReroutingOf}
use Rattle.routing_state.proofs.rerouting.Rerouting.back.Given as goal

-- the best is as before, and nothing is saved for the nets so far
abbrev pub invariant-loop-net : goal.invariant-loop-net
invariant-loop-net l = record {
  of : IsReroutingOf l.design l.self;
  best : best_of l.self ≡ best_of l.initial.self;
  totals : l.self.best ≡ l.initial.self.best;
  none : (k : ℕ) (d : Option (List Piece)) → k < l.net → slice_index_or l.self.saved.items k d ≡ None;
}
