-- A rerouting for which nothing is saved: the best is what is now.
use Rattle.std.proofs.Common.{◌≡◌, ℕ, List, All, length, get_or, sym, ◌∙◌, ap, Option, Some, None}
use Rattle.std.proofs.lemmas.Option.{get_or_from_slice_get, slice_get_within}
use Rattle.grid_base.specs.declared.piece.Piece.{Piece}
use Rattle.grid_base.specs.Lists.{At}
use Rattle.grid_graph.specs.declared.design.Design.{Design}
use Rattle.grid_graph.specs.declared.ground.Ground.TheVariants.{WithChoked}
use Rattle.tree_set.specs.Routings.{KeepsTo}
use Rattle.routing_state.specs.declared.rerouting.Rerouting.{Rerouting}
use Rattle.routing_state.specs.Best.{best_of, IsReroutingOf}
use Rattle.routing_state.specs.States.{IsStateOf, totals_in, trees_of}
use Rattle.routing_state.specs.Totals.{totals_of}
use Rattle.routing_state.proofs.BestSets.{best_sets-none}

none_saved : (saved : List (Option (List Piece))) (P : List Piece → Type 0) → All (λ set. set ≡ None) saved → (net : ℕ) (tree : List Piece) → At saved net (Some tree) → P tree
none_saved saved P none net tree at =
    let is : get_or saved net (Some tree) ≡ Some tree = get_or_from_slice_get saved net (Some tree) (Some tree) at in
    let not : get_or saved net (Some tree) ≡ None = none net (Some tree) (slice_get_within saved net (Some tree) at) in
    absurd (cc)

-- the best sets are those that the nets have
pub best_of-fresh : (r : Rerouting) → length r.saved.items ≡ length (trees_of r.state) → All (λ set. set ≡ None) r.saved.items → best_of r ≡ trees_of r.state
best_of-fresh r long none = best_sets-none r.saved.items (trees_of r.state) long none

pub IsReroutingOf-fresh : (d : Design) (r : Rerouting) → IsStateOf d r.state → length r.saved.items ≡ length (trees_of r.state) → All (λ set. set ≡ None) r.saved.items
    → r.best ≡ totals_in r.state → IsReroutingOf d r
IsReroutingOf-fresh d r state long none best = record {
  state = state;
  long = long ∙ state.sets.one_each;
  no_walls = none_saved r.saved.items (KeepsTo d.grid WithChoked) none;
  best = best ∙ state.totals ∙ ap (totals_of d) (sym (best_of-fresh r long none));
}
