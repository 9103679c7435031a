use Rattle.std.proofs.Common.{◌≡◌, ◌≤◌, ◌<◌, ◌+◌, ℕ, List, length, get_or, take, sum_by, sym, ◌∙◌, ap, subst, refl, arith}
use Rattle.std.specs.List.{zip}
use Rattle.std.proofs.lemmas.List.{take_all}
use Rattle.std.proofs.lemmas.List.Elements.{All-more}
use Rattle.std.proofs.lemmas.List.Sums.{sum_by_more, sum_by-take-le}
use Rattle.std.proofs.lemmas.Slice.Zip.{length-zip}
use Rattle.grid_base.specs.declared.piece.Piece.{Piece}
use Rattle.grid_graph.specs.declared.ground.Ground.TheVariants.{WithChoked}
use Rattle.grid_graph.specs.declared.net_spec.NetSpec.{NetSpec}
use Rattle.tree_set.specs.Loads.{net_load}
use Rattle.tree_set.specs.Order.{IsRising}
use Rattle.tree_set.specs.Routings.{KeepsTo}
use Rattle.tree_set.proofs.Loads.{load_more}
use Rattle.routing_state.specs.Rooms.{AreRooms}
use Rattle.routing_state.proofs.Changed.{load-limit}
use Rattle.routing_state.proofs.Exchanged.{pieces_of, set-limit}
use Rattle.routing_state.proofs.Giving.{same_default}
use Rattle.routing_state.proofs.RoomLists.{AreRooms-taken, HasRoomToMove-rooms}
use Rattle.routing_state.proofs.taking.take_all.Goals as goal

pub take-requires-clause-pieces : goal.take-requires-clause-pieces
take-requires-clause-pieces c =
    let d = c.args.design.now in
    let tree = c.index-trees-net.result in
    pieces_of d.grid tree (subst (KeepsTo d.grid WithChoked) (sym c.index-trees-net.is) (c.requires.sets.no_walls c.loop-net.net tree c.loop-net-test.true))

pub take-requires-clause-limit : goal.take-requires-clause-limit
take-requires-clause-limit c =
    let d = c.args.design.now in
    let f : ℕ → NetSpec × List Piece → ℕ = λ e x. net_load d.grid x.0.width x.1 e in
    HasRoomToMove-rooms d.grid (λ e. sum_by (f e) (take c.loop-net.net (zip d.nets c.args.trees.now))) c.loop-net.rooms.rooms.items c.loop-net.invariant.rooms
    (λ e number. omega (arith, sum_by-take-le (f e) (zip d.nets c.args.trees.now) c.loop-net.net, load-limit d c.args.trees.now e number))

pub loop-net-preserved : goal.loop-net-preserved
loop-net-preserved c =
    let d = c.args.design.now in
    let g = d.grid in
    let trees = c.args.trees.now in
    let k = c.loop-net.net in
    let within : k < length trees = c.loop-net-test.true in
    let in_nets : k < length d.nets = omega (arith, within, c.requires.sets.one_each) in
    let read = c.index-list-net.result in
    let n = get_or c.list.result.now k read in
    let first = c.index-trees-net.result in
    let again = c.index-trees-net-in-loop-net.result in
    let at : n ≡ get_or d.nets k n = ap (λ (ns : List NetSpec). get_or ns k read) c.list.ensures.items ∙ sym (same_default d.nets k read n in_nets) in
    let stands : first ≡ get_or trees k first = c.index-trees-net.is in
    let f : ℕ → NetSpec × List Piece → ℕ = λ e x. net_load g x.0.width x.1 e in
    let rising : IsRising again = c.pieces.ensures.rising in
    let short = set-limit g again rising (subst (KeepsTo g WithChoked) (sym c.index-trees-net-in-loop-net.is) (c.requires.sets.no_walls k again within)) in
    record {
      rooms = AreRooms-taken g n.width first (λ e. sum_by (f e) (take (k + 1) (zip d.nets trees))) (λ e. sum_by (f e) (take k (zip d.nets trees))) _ c.loop-net.rooms.rooms.items
          c.take.ensures c.loop-net.invariant.rooms (λ e number. sym (load_more g d.nets trees k e n first _ _ in_nets within at stands refl refl));
      wirelength = omega (arith, c.loop-net.invariant.wirelength, sum_by_more (length {A = Piece}) trees k again within, ap (length {A = Piece}) c.pieces.ensures.listed, ap (length {A = Piece}) c.index-trees-net-in-loop-net.is);
      small = omega (arith, c.loop-net.invariant.small, short, ap (length {A = Piece}) c.pieces.ensures.listed);
      rising = All-more IsRising trees k again within c.loop-net.invariant.rising (subst IsRising c.index-trees-net-in-loop-net.is rising);
    }

pub returns-clause-rooms : goal.returns-clause-rooms
returns-clause-rooms c =
    let d = c.args.design.now in
    let all : length (zip d.nets c.args.trees.now) ≤ c.loop-net.net = omega (arith, length-zip d.nets c.args.trees.now, c.loop-net-test.false) in
    subst (λ (xs : List (NetSpec × List Piece)). AreRooms d.grid (λ e. sum_by (λ x. net_load d.grid x.0.width x.1 e) xs) c.loop-net.rooms.rooms.items)
    (take_all c.loop-net.net (zip d.nets c.args.trees.now) all) c.loop-net.invariant.rooms
