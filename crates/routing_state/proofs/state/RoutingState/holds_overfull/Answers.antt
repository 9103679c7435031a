use Rattle.std.proofs.Common.{◌≡◌, ◌<◌, ◌↔◌, rules, List, length, get_or, sym, ◌∙◌, subst, arith}
use Rattle.std.specs.Prelude.{IsTrue}
use Rattle.grid_base.specs.declared.piece.Piece.{Piece}
use Rattle.grid_graph.specs.declared.ground.Ground.TheVariants.{WithChoked}
use Rattle.tree_set.specs.Loads.{load}
use Rattle.tree_set.specs.Routings.{KeepsTo}
use Rattle.routing_state.specs.Overfull.{HoldsOverfull}
use Rattle.routing_state.specs.Rooms.{AreRooms}
use Rattle.routing_state.proofs.Exchanged.{pieces_of}
use Rattle.routing_state.proofs.Full.{HoldsOverfull-rooms}
use Rattle.routing_state.proofs.Giving.{same_default}
use Rattle.routing_state.proofs.state.RoutingState.holds_overfull.Goals as goal

pub holds_overfull-requires-clause-pieces : goal.holds_overfull-requires-clause-pieces
holds_overfull-requires-clause-pieces c =
    let trees = c.args.self.now.trees.items in
    let tree = c.index.result.now in
    let is : get_or trees c.args.net tree ≡ tree = search rules in
    pieces_of c.args.design.now.grid tree (subst (KeepsTo c.args.design.now.grid WithChoked) is (c.requires.state.sets.no_walls c.args.net tree (omega (arith, c.requires.net, c.requires.state.sets.one_each))))

pub returns : goal.returns
returns c = λ tree is.
    let d = c.args.design.now in
    let trees = c.args.self.now.trees.items in
    let found = c.index.result.now in
    let stands : get_or trees c.args.net found ≡ found = search rules in
    let within : c.args.net < length trees = omega (arith, c.requires.net, c.requires.state.sets.one_each) in
    let same : found ≡ tree = sym (is ∙ same_default trees c.args.net found tree within ∙ stands) in
    let pieces = pieces_of d.grid found (subst (KeepsTo d.grid WithChoked) stands (c.requires.state.sets.no_walls c.args.net found within)) in
    let are = subst (AreRooms d.grid (load d.grid d.nets trees)) (sym c.list.ensures) c.requires.state.rooms in
    let both = HoldsOverfull-rooms d.grid (load d.grid d.nets trees) c.list.result.now found are pieces in
    subst (λ (t : List Piece). IsTrue c.holds_overfull.result ↔ HoldsOverfull d.grid (load d.grid d.nets trees) t) same
    (λ yes. both.0 (c.holds_overfull.ensures.0 yes), λ held. c.holds_overfull.ensures.1 (both.1 held))
