use Rattle.std.proofs.Common.{List, All, ap, ◌∙◌, subst}
use Rattle.grid_base.specs.declared.piece.Piece.{Piece}
use Rattle.tree_set.specs.Loads.{load}
use Rattle.tree_set.specs.Measures.{wirelength}
use Rattle.tree_set.specs.Order.{IsRising}
use Rattle.routing_state.specs.declared.state.RoutingState.{RoutingState}
use Rattle.routing_state.specs.Rooms.{AreRooms}
use Rattle.routing_state.proofs.Exchanged.{overflow_in, same_totals}
use Rattle.routing_state.proofs.state.RoutingState.of.Goals as goal

pub returns-clause-state : goal.returns-clause-state
returns-clause-state c =
    let d = c.args.design.now in
    let made : RoutingState = record { trees = c.args.trees; rooms = c.take_all-wirelength.new.rooms; wirelength = c.take_all-wirelength.result } in
    let trees = c.args.trees.items in
    let same = c.as_slice.ensures.value in
    let rooms = subst (λ (ts : List (List Piece)). AreRooms d.grid (load d.grid d.nets ts) c.take_all-wirelength.new.rooms.rooms.items) same c.take_all-wirelength.ensures.rooms in
    record {
      sets = c.requires.sets;
      rising = subst (All IsRising) same c.take_all-wirelength.ensures.rising;
      rooms = rooms;
      totals = same_totals _ _ _ _ (overflow_in d made trees c.requires.sets rooms) (c.take_all-wirelength.ensures.wirelength ∙ ap wirelength same);
    }
