use Rattle.std.proofs.Common.{◌≡◌, ◌<◌, ℤ, List, length, get_or, sym, ◌∙◌, ap, subst, arith}
use Rattle.std.specs.List.{Any}
use Rattle.std.proofs.lemmas.List.{get_or_default}
use Rattle.grid_base.specs.declared.piece.Piece.{Piece}
use Rattle.grid_graph.specs.declared.ground.Ground.TheVariants.{WithChoked}
use Rattle.tree_set.specs.Loads.{load}
use Rattle.tree_set.specs.Routings.{KeepsTo}
use Rattle.routing_state.specs.States.{rooms_of, trees_of}
use Rattle.routing_state.proofs.Exchanged.{pieces_of}
use Rattle.negotiation.specs.Lacking.{IsLacking}
use Rattle.negotiation.proofs.Lacking.{lacks_where}
use Rattle.negotiation.proofs.overfull.holds_overfull.Goals as goal

pub returns-else-may_lack : goal.returns-else-may_lack
returns-else-may_lack c = λ tree is.
    let d = c.args.design.now in
    let trees = trees_of c.args.state.now in
    let found = c.index-trees-net.result in
    let within : c.args.net < length trees = omega (arith, c.requires.net, c.requires.state.sets.one_each) in
    let same : found ≡ tree = c.index-trees-net.is ∙ ap (λ (xs : List (List Piece)). get_or xs c.args.net found) c.trees.ensures ∙ get_or_default trees c.args.net found tree within ∙ sym is in
    let keeps = subst (KeepsTo d.grid WithChoked) (sym is) (c.requires.state.sets.no_walls c.args.net tree within) in (
      λ yes. let not_so = c.if-may_lack.false in cc,
      λ held.
          let lacks = lacks_where d.grid (load d.grid d.nets trees) (rooms_of c.args.state.now) tree c.requires.state.rooms (pieces_of d.grid tree keeps) held in
          let narrow = subst (λ (rooms : List ℤ). Any (IsLacking rooms) tree) (sym c.narrow_rooms.ensures) lacks in
          c.may_lack.ensures.1 (subst (λ (ps : List Piece). Any (IsLacking c.narrow_rooms.result.now) ps) (sym same) narrow),
    )
