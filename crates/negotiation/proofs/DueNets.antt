-- Which nets are due, by what is read of their places.
use Rattle.std.proofs.Common.{◌≡◌, ◌↔◌, ℕ, ◌<◌, Bool, List, length, get_or, sym, ◌∙◌}
use Rattle.std.specs.Bool.{IsTrue}
use Rattle.std.proofs.lemmas.Option.{slice_get-get_or, same_Some}
use Rattle.grid_base.specs.declared.piece.Piece.{Piece}
use Rattle.grid_base.specs.Lists.{At}
use Rattle.grid_graph.specs.declared.design.Design.{Design}
use Rattle.tree_set.specs.Loads.{load}
use Rattle.routing_state.specs.declared.state.RoutingState.{RoutingState}
use Rattle.routing_state.specs.Overfull.{HoldsOverfull}
use Rattle.routing_state.specs.States.{trees_of}
use Rattle.net_extents.specs.declared.extent.Extent.{Extent}
use Rattle.negotiation.specs.declared.due.Due.{Due}
use Rattle.negotiation.specs.Due.{IsDue, IsDueNet, IsOverfullNet}
use Rattle.negotiation.proofs.Found.{stands}

-- what stands at a place is read there, whatever the default
read_at : {X : Type 0} (xs : List X) (k : ℕ) (x : X) → k < length xs → At xs k x → x ≡ get_or xs k x
read_at xs k x within at = same_Some x (get_or xs k x) (sym at ∙ slice_get-get_or xs k x within)

pub overfull_net : (d : Design) (state : RoutingState) (k : ℕ) (b : Bool) → k < length (trees_of state)
    → ((tree : List Piece) → tree ≡ get_or (trees_of state) k tree → IsTrue b ↔ HoldsOverfull d.grid (load d.grid d.nets (trees_of state)) tree)
    → IsTrue b ↔ IsOverfullNet d state k
overfull_net d state k b within says =
    let trees = trees_of state in
    let here = stands trees k within in (
      λ yes. record { tree = here.0; has = here.1; holds = (says here.0 (read_at trees k here.0 within here.1)).0 yes },
      λ net. (says net.tree (read_at trees k net.tree within net.has)).1 net.holds,
    )

pub due_net : (d : Design) (state : RoutingState) (extents : List Extent) (due : Due) (k : ℕ) (b : Bool) → k < length (trees_of state) → k < length extents
    → ((tree : List Piece) (extent : Extent) → tree ≡ get_or (trees_of state) k tree → extent ≡ get_or extents k extent
    → IsTrue b ↔ IsDue d.grid (load d.grid d.nets (trees_of state)) extent.least due tree)
    → IsTrue b ↔ IsDueNet d state extents due k
due_net d state extents due k b within reached says =
    let trees = trees_of state in
    let here = stands trees k within in
    let reach = stands extents k reached in (
      λ yes. record {
        tree = here.0;
        extent = reach.0;
        has = here.1;
        reaches = reach.1;
        is_due = (says here.0 reach.0 (read_at trees k here.0 within here.1) (read_at extents k reach.0 reached reach.1)).0 yes;
      },
      λ net. (says net.tree net.extent (read_at trees k net.tree within net.has) (read_at extents k net.extent reached net.reaches)).1 net.is_due,
    )
