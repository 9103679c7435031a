-- What a step of rerouting leaves of the sets, of their totals and of the best.
use Rattle.std.specs.Prelude.{ℕ, ◌≡◌, List, []}
use Rattle.grid_graph.specs.declared.design.Design.{Design}
use Rattle.routing_state.specs.declared.rerouting.Rerouting.{Rerouting}
use Rattle.routing_state.specs.declared.state.RoutingState.{RoutingState}
use Rattle.routing_state.specs.Best.{best_of, IsReroutingOf}
use Rattle.routing_state.specs.States.{IsStateOf, totals_in, trees_of}
use Rattle.routing_state.specs.Totals.{IsNoWorse}
use Rattle.negotiation.specs.Changes.{AreChanged}

-- some nets got routes, and all at the renewed places did
pub record IsRenewed (d : Design) (renewed : List ℕ) (old new : RoutingState) : Type 0 where
  pub state : IsStateOf d new
  pub changed : AreChanged d renewed (trees_of old) (trees_of new)

-- some nets got routes, and the totals are no worse
pub record IsImproved (d : Design) (old new : RoutingState) : Type 0 where
  pub state : IsStateOf d new
  pub changed : AreChanged d [] (trees_of old) (trees_of new)
  pub no_worse : IsNoWorse (totals_in new) (totals_in old)

-- some nets got routes, whatever they cost, and the best is what it was
pub record KeepsBest (d : Design) (old new : Rerouting) : Type 0 where
  pub of : IsReroutingOf d new
  pub changed : AreChanged d [] (trees_of old.state) (trees_of new.state)
  pub best : best_of new ≡ best_of old
  pub totals : new.best ≡ old.best

-- since the first state some nets got routes, now and at the best, whose totals are no worse than the first
pub record IsNegotiated (d : Design) (first : RoutingState) (r : Rerouting) : Type 0 where
  pub of : IsReroutingOf d r
  pub now : AreChanged d [] (trees_of first) (trees_of r.state)
  pub best : AreChanged d [] (trees_of first) (best_of r)
  pub no_worse : IsNoWorse r.best (totals_in first)
