use Rattle.std.proofs.Common.{◌≡◌, ◌+◌, ◌-◌, rules, List, length, get_or, slice_set, sym, ◌∙◌, ap, subst, arith}
use Rattle.std.proofs.lemmas.Option.{slice_get-get_or}
use Rattle.grid_base.specs.declared.piece.Piece.{Piece}
use Rattle.grid_graph.specs.declared.ground.Ground.TheVariants.{WithChoked}
use Rattle.grid_graph.specs.declared.net_spec.NetSpec.{NetSpec}
use Rattle.grid_graph.specs.Grids.{IsNetWidth, size_of}
use Rattle.tree_set.specs.Order.{IsRising}
use Rattle.tree_set.specs.Routings.{ArePieces, KeepsTo}
use Rattle.routing_state.specs.declared.totals.Totals.{Totals}
use Rattle.routing_state.specs.Rooms.{Gives}
use Rattle.routing_state.proofs.Giving.{same_default}
use Rattle.routing_state.proofs.Exchanged.{IsStateOf-exchanged, pieces_of, rooms_may_move, set-limit, wire-limit, without_may_move}
use Rattle.routing_state.proofs.state.RoutingState.exchange.Goals as goal

pub give-requires-clause-pieces : goal.give-requires-clause-pieces
give-requires-clause-pieces c =
    let trees = c.args.self.now.trees.items in
    let stands : get_or trees c.args.net c.replace-before.result ≡ c.replace-before.result = search rules in
    pieces_of c.args.design.now.grid c.replace-before.result
    (subst (KeepsTo c.args.design.now.grid WithChoked) stands (c.requires.state.sets.no_walls c.args.net c.replace-before.result (omega (arith, c.requires.net, c.requires.state.sets.one_each))))

pub give-requires-clause-limit : goal.give-requires-clause-limit
give-requires-clause-limit c = rooms_may_move c.args.design.now c.args.self.now.trees.items c.args.self.now.rooms.rooms.items c.requires.state.rooms

pub take-requires-clause-width : goal.take-requires-clause-width
take-requires-clause-width c =
    let d = c.args.design.now in
    let n = c.index-list-net.result in
    subst (λ (ns : List NetSpec). IsNetWidth d.grid (get_or ns c.args.net n).width) (sym c.list.ensures.items)
    ((d.limits.net c.args.net (get_or d.nets c.args.net n) (slice_get-get_or d.nets c.args.net n c.requires.net)).width)

pub take-requires-clause-pieces : goal.take-requires-clause-pieces
take-requires-clause-pieces c =
    let new : c.index.result.now ≡ c.args.tree = search rules in
    subst (ArePieces (size_of c.args.design.now.grid)) (sym new) (pieces_of c.args.design.now.grid c.args.tree c.requires.set)

pub take-requires-clause-limit : goal.take-requires-clause-limit
take-requires-clause-limit c =
    let d = c.args.design.now in
    let read = c.index-list-net.result in
    let n = get_or c.list.result.now c.args.net read in
    let old = c.replace-before.result in
    let at : get_or d.nets c.args.net n ≡ n = same_default d.nets c.args.net read n c.requires.net ∙ ap (λ (ns : List NetSpec). get_or ns c.args.net read) (sym c.list.ensures.items) in
    let stands : get_or c.args.self.now.trees.items c.args.net old ≡ old = search rules in
    without_may_move d c.args.self.now c.args.net n old c.give.new.self.rooms.items c.requires.state c.requires.net at stands c.give.ensures

pub overflow_add-self : goal.overflow_add-self
overflow_add-self c =
    let d = c.args.design.now in
    let new : c.index-2.result.now ≡ c.args.tree = search rules in
    let listed : c.pieces-2.result.now ≡ c.args.tree = c.pieces-2.ensures.listed ∙ new in
    let rising : IsRising c.args.tree = subst IsRising new c.pieces-2.ensures.rising in
    omega (
      arith,
      ap (λ (t : Totals). t.wirelength) c.requires.state.totals,
      wire-limit d c.args.self.now.trees.items c.requires.state.sets c.requires.state.rising,
      set-limit d.grid c.args.tree rising c.requires.set,
      ap (length {A = Piece}) listed,
    )

pub returns-clause-state : goal.returns-clause-state
returns-clause-state c =
    let d = c.args.design.now in
    let read = c.index-list-net.result in
    let n = get_or c.list.result.now c.args.net read in
    let old = c.replace-before.result in
    let at : get_or d.nets c.args.net n ≡ n = same_default d.nets c.args.net read n c.requires.net ∙ ap (λ (ns : List NetSpec). get_or ns c.args.net read) (sym c.list.ensures.items) in
    let stands : get_or c.args.self.now.trees.items c.args.net old ≡ old = search rules in
    let new : c.index-2.result.now ≡ c.args.tree = search rules in
    let taken : c.index.result.now ≡ c.args.tree = search rules in
    let rising : IsRising c.args.tree = subst IsRising new c.pieces-2.ensures.rising in
    IsStateOf-exchanged d c.args.self.now c.args.net n old c.give.new.self.rooms.items c.requires.state c.requires.net at stands c.give.ensures
    _ c.args.tree c.requires.set rising
    (subst (λ (t : List Piece). Gives d.grid n.width t c.take.new.self.rooms.items c.give.new.self.rooms.items) taken c.take.ensures)
    (ap (slice_set c.args.self.now.trees.items c.args.net) c.replace-before.ensures.after)
    (ap (λ (t : List Piece). c.args.self.now.wirelength - length t + length c.pieces-2.result.now) c.pieces.ensures.listed
    ∙ ap (λ (t : List Piece). c.args.self.now.wirelength - length old + length t) (c.pieces-2.ensures.listed ∙ new))
