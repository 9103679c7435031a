-- A state, as the set of one net is exchanged.
use Rattle.std.proofs.Common.{◌≡◌, ℕ, ◌+◌, ◌-◌, ◌*◌, ◌≤◌, ◌<◌, List, [], length, get_or, All, sym, ◌∙◌, ap, subst, arith, ℤ}
use Rattle.std.specs.Prelude.{slice_set}
use Rattle.std.proofs.lemmas.List.{length-set}
use Rattle.std.proofs.lemmas.List.Elements.{All-weaker}
use Rattle.std.proofs.lemmas.List.Sums.{get_or-le-sum_by, sum_by-le}
use Rattle.grid_base.specs.declared.piece.Piece.{Piece}
use Rattle.grid_base.specs.Limits.{max_vertices}
use Rattle.grid_base.specs.Numbers.{IsPiece}
use Rattle.grid_graph.specs.declared.design.Design.{Design}
use Rattle.grid_graph.specs.declared.grid.Grid.{Grid}
use Rattle.grid_graph.specs.declared.ground.Ground.TheVariants.{WithChoked}
use Rattle.grid_graph.specs.declared.net_spec.NetSpec.{NetSpec}
use Rattle.grid_graph.specs.Grids.{Allows, size_of}
use Rattle.grid_graph.specs.Limits.{max_nets}
use Rattle.grid_graph.proofs.Allowed.{Allows-IsPiece}
use Rattle.tree_set.specs.Loads.{load}
use Rattle.tree_set.specs.Measures.{overflow, wirelength}
use Rattle.tree_set.specs.Order.{IsRising}
use Rattle.tree_set.specs.Routings.{ArePieces, KeepsTo}
use Rattle.tree_set.proofs.Counting.{length-pieces}
use Rattle.routing_state.specs.declared.state.RoutingState.{RoutingState}
use Rattle.routing_state.specs.declared.totals.Totals.{Totals}
use Rattle.routing_state.specs.Lacks.{HasRoomToMove}
use Rattle.routing_state.specs.NetSets.{AreNetSets}
use Rattle.routing_state.specs.Rooms.{AreRooms, Gives}
use Rattle.routing_state.specs.States.{IsStateOf, rooms_of, trees_of}
use Rattle.routing_state.proofs.Changed.{All-set, load-limit, load-wall, load-with, load-without, wirelength-set}
use Rattle.routing_state.proofs.Overflows.{overflow-lacks}
use Rattle.routing_state.proofs.RoomLists.{AreRooms-given, AreRooms-taken, HasRoomToMove-rooms}

-- a set without walls has pieces of the grid
pub pieces_of : (g : Grid) (tree : List Piece) → KeepsTo g WithChoked tree → ArePieces (size_of g) tree
pieces_of g tree keeps = All-weaker (Allows g WithChoked) (IsPiece (size_of g)) (λ p allowed. Allows-IsPiece g WithChoked p allowed) tree keeps

-- so it is not long
pub set-limit : (g : Grid) (tree : List Piece) → IsRising tree → KeepsTo g WithChoked tree → length tree ≤ 3 * max_vertices
set-limit g tree rising keeps = omega (arith, length-pieces (size_of g) tree rising (pieces_of g tree keeps), (size_of g).within.vertex_limit)

-- nor are all sets together
pub wire-limit : (d : Design) (trees : List (List Piece)) → AreNetSets d trees → All IsRising trees → wirelength trees ≤ max_nets * (3 * max_vertices)
wire-limit d trees sets rising =
    let each : All (λ t. length t ≤ 3 * max_vertices) trees = λ k other below. set-limit d.grid _ (rising k other below) (sets.no_walls k other below) in
    omega (arith, sum_by-le length (3 * max_vertices) trees each, sets.one_each, d.limits.count)

-- the rooms of sets may move
pub rooms_may_move : (d : Design) (trees : List (List Piece)) (rooms : List ℤ) → AreRooms d.grid (load d.grid d.nets trees) rooms → All HasRoomToMove rooms
rooms_may_move d trees rooms are = HasRoomToMove-rooms d.grid (load d.grid d.nets trees) rooms are (load-limit d trees)

-- totals of two numbers
abbrev pub totals : ℕ → ℕ → Totals
totals o w = record { overflow = o; wirelength = w }

-- equal numbers are equal totals
pub same_totals : (o w p v : ℕ) → o ≡ p → w ≡ v → totals o w ≡ totals p v
same_totals o w p v os ws = ap (λ (x : ℕ). totals x w) os ∙ ap (totals p) ws

-- what is lacking in a state's rooms is the overflow
pub overflow_in : (d : Design) (s : RoutingState) (trees : List (List Piece)) → AreNetSets d trees → AreRooms d.grid (load d.grid d.nets trees) (rooms_of s)
    → s.rooms.lacking ≡ overflow d.grid (load d.grid d.nets trees)
overflow_in d s trees sets are = s.rooms.sum ∙ overflow-lacks d.grid (load d.grid d.nets trees) (rooms_of s) are (λ e wall. load-wall d trees e sets wall)

module _ (d : Design) (s : RoutingState) (k : ℕ) (n : NetSpec) (old : List Piece) (mid : List ℤ) (state : IsStateOf d s) (in_nets : k < length d.nets)
    (at : get_or d.nets k n ≡ n) (stands : get_or (trees_of s) k old ≡ old) (given : Gives d.grid n.width old (rooms_of s) mid) where
  in_trees : k < length (trees_of s)
  in_trees = omega (arith, in_nets, state.sets.one_each)

  -- the rooms without the net
  rooms-without : AreRooms d.grid (load d.grid d.nets (slice_set (trees_of s) k [])) mid
  rooms-without =
      AreRooms-given d.grid n.width old (load d.grid d.nets (trees_of s)) (load d.grid d.nets (slice_set (trees_of s) k [])) (rooms_of s) mid given state.rooms
      (λ e number. load-without d.grid d.nets (trees_of s) k n old e in_nets in_trees at stands)

  pub without_may_move : All HasRoomToMove mid
  without_may_move = rooms_may_move d (slice_set (trees_of s) k []) mid rooms-without

  -- the state with the new set
  pub IsStateOf-exchanged : (t : RoutingState) (new : List Piece) → KeepsTo d.grid WithChoked new → IsRising new → Gives d.grid n.width new (rooms_of t) mid
      → trees_of t ≡ slice_set (trees_of s) k new → t.wirelength ≡ s.wirelength - length old + length new → IsStateOf d t
  IsStateOf-exchanged t new keeps rising taken is wire =
      let zs : List (List Piece) = slice_set (trees_of s) k new in
      let sets : AreNetSets d zs = record { one_each = length-set (trees_of s) k new ∙ state.sets.one_each; no_walls = All-set (KeepsTo d.grid WithChoked) (trees_of s) k new state.sets.no_walls keeps } in
      let rooms : AreRooms d.grid (load d.grid d.nets zs) (rooms_of t) =
      AreRooms-taken d.grid n.width new (load d.grid d.nets zs) (load d.grid d.nets (slice_set (trees_of s) k [])) (rooms_of t) mid taken rooms-without
      (λ e number. load-with d.grid d.nets (trees_of s) k n old new e in_nets in_trees at stands) in
      let had : s.wirelength ≡ wirelength (trees_of s) = ap (λ (x : Totals). x.wirelength) state.totals in
      let less : length old ≤ wirelength (trees_of s) = subst (λ (x : List Piece). length x ≤ wirelength (trees_of s)) stands (get_or-le-sum_by length (trees_of s) k old in_trees) in
      let more : wirelength zs + length old ≡ wirelength (trees_of s) + length new =
      ap (λ (x : List Piece). wirelength zs + length x) (sym stands) ∙ wirelength-set (trees_of s) k old new in_trees in
      record {
        sets = subst (AreNetSets d) (sym is) sets;
        rising = subst (All IsRising) (sym is) (All-set IsRising (trees_of s) k new state.rising rising);
        rooms = subst (λ (ts : List (List Piece)). AreRooms d.grid (load d.grid d.nets ts) (rooms_of t)) (sym is) rooms;
        totals = same_totals _ _ _ _ (overflow_in d t zs sets rooms) (omega (arith, wire, had, less, more))
            ∙ ap (λ (ts : List (List Piece)). totals (overflow d.grid (load d.grid d.nets ts)) (wirelength ts)) (sym is);
      }
