use Rattle.std.proofs.Common.{◌≡◌, true, refl, inl, inr, Bool, List, [], ◌∷◌, Contains, All, sym, subst}
use Rattle.std.specs.Prelude.{◌↔◌, IsTrue}
use Rattle.std.proofs.lemmas.List.Elements.{All-contains_itself, All-weaker}
use Rattle.std.proofs.lemmas.Result.{err_from_is_err_and}
use Rattle.straight_runs.specs.declared.run.Run.{Run}
use Rattle.straight_runs.specs.Merging.{AreMerged}
use Rattle.straight_runs.specs.Runs.{IsStraightRun, pieces_of}
use Rattle.grid_base.specs.declared.piece.Piece.{Piece}
use Rattle.grid_base.specs.declared.size.Size.{Size}
use Rattle.grid_base.specs.declared.vertex.Vertex.{Vertex}
use Rattle.grid_base.specs.Walks.{JoinsList}
use Rattle.grid_graph.specs.declared.grid.Grid.{Grid}
use Rattle.grid_graph.specs.declared.ground.Ground.TheVariants.{WithChoked}
use Rattle.grid_graph.specs.Grids.{Allows, size_of}
use Rattle.grid_graph.proofs.Grounds.{at_place}
use Rattle.route_text.specs.declared.block.Block.{Block}
use Rattle.route_text.specs.BlockPieces.{IsPieceOf}
use Rattle.route_text.specs.LentBlocks.{lent_block}
use Rattle.route_judge.specs.Objections as objections
use Rattle.route_judge.specs.Orders.{all_segment_objections}
use Rattle.route_judge.proofs.BlockTests.{not_apart, is_apart}
use Rattle.route_judge.proofs.Found.{found_behind, stops_before}
use Rattle.route_judge.proofs.blocks.joining_runs_of.Goals as goal

-- merged runs have the block's pieces too
still_named : (g : Grid) (block : Block) (listed kept : List Run) → AreMerged (size_of g) listed kept → ((p : Piece) → Contains (pieces_of (size_of g) listed) p ↔ IsPieceOf g block p) → (p : Piece) → Contains (pieces_of (size_of g) kept) p ↔ IsPieceOf g block p
still_named g block listed kept merged named p = (λ held. (named p).0 ((merged.same p).0 held), λ of. (merged.same p).1 ((named p).1 of))

-- none of which is a wall
still_allowed : (g : Grid) (listed kept : List Run) → AreMerged (size_of g) listed kept → ((p : Piece) → Contains (pieces_of (size_of g) listed) p → Allows g WithChoked p) → All (Allows g WithChoked) (pieces_of (size_of g) kept)
still_allowed g listed kept merged allowed =
    All-weaker (Contains (pieces_of (size_of g) kept)) (Allows g WithChoked) (λ p held. allowed p ((merged.same p).0 held)) (pieces_of (size_of g) kept) (All-contains_itself (pieces_of (size_of g) kept))

sized : (s t : Size) (listed kept : List Run) → s ≡ t → AreMerged s listed kept → AreMerged t listed kept
sized s t listed kept same merged = subst (λ u. AreMerged u listed kept) same merged

pub returns-in_err-listed-clause-stops : goal.returns-in_err-listed-clause-stops
returns-in_err-listed-clause-stops c =
    let exit = err_from_is_err_and c.from_residual.result c.from_residual.ensures.1 in
    rw (exit.1, exit.2) (stops_before c.args.design.now (all_segment_objections c.args.number (lent_block c.args.block.now).segments) (objections.not_joined (lent_block c.args.block.now) ∷ []) c.in_err-listed.field-0.0 c.in_err-listed.ensures.stops)

pub merged-requires : goal.merged-requires
merged-requires c = record { runs = subst (λ s. All (IsStraightRun s) c.in_ok-listed.listed.items) (sym c.size.ensures) c.in_ok-listed.ensures.runs }

pub joins_net-requires-clause-runs : goal.joins_net-requires-clause-runs
joins_net-requires-clause-runs c = rw c.as_slice.ensures.value (sized _ (size_of c.args.design.now.grid) _ _ c.size.ensures c.in_ok-runs.ensures).runs

-- whether the list of runs joins the terminals, by another name of the list
by_list : (s : Size) (given kept : List Run) (terminals : List Vertex) (joined : Bool) → given ≡ kept → IsTrue joined ↔ JoinsList s (pieces_of s given) terminals → IsTrue joined ↔ JoinsList s (pieces_of s kept) terminals
by_list s given kept terminals joined same told = subst (λ rs. IsTrue joined ↔ JoinsList s (pieces_of s rs) terminals) same told

pub returns-then-not-branch-clause-stops : goal.returns-then-not-branch-clause-stops
returns-then-not-branch-clause-stops c =
    let d = c.args.design.now in
    let s = size_of d.grid in
    let found = at_place d.nets c.args.place c.requires.place in
    let kept = c.in_ok-runs.runs.items in
    let merged = sized _ s _ _ c.size.ensures c.in_ok-runs.ensures in
    let joins = by_list s _ kept found.0.terminals c.in_ok-joins_net.field-0 c.as_slice.ensures.value (c.in_ok-joins_net.ensures found.0 found.1) in
    found_behind d (all_segment_objections c.args.number (lent_block c.args.block.now).segments) (objections.not_joined (lent_block c.args.block.now) ∷ []) _ c.in_ok-listed.ensures.stops
    (inl (
      is_apart d (lent_block c.args.block.now) c.args.place found.0 (pieces_of s kept) found.1 (c.requires.net found.0 found.1) (still_named d.grid (lent_block c.args.block.now) _ kept merged c.in_ok-listed.ensures.named)
          (λ joined. let told : c.in_ok-joins_net.field-0 ≡ true = joins.1 joined in cc (told, c.if-not-branch.true)),
      refl,
    ))

pub returns-clause-stops : goal.returns-clause-stops
returns-clause-stops c =
    let d = c.args.design.now in
    let s = size_of d.grid in
    let found = at_place d.nets c.args.place c.requires.place in
    let kept = c.in_ok-runs.runs.items in
    let merged = sized _ s _ _ c.size.ensures c.in_ok-runs.ensures in
    let joins = by_list s _ kept found.0.terminals c.in_ok-joins_net.field-0 c.as_slice.ensures.value (c.in_ok-joins_net.ensures found.0 found.1) in
    found_behind d (all_segment_objections c.args.number (lent_block c.args.block.now).segments) (objections.not_joined (lent_block c.args.block.now) ∷ []) _ c.in_ok-listed.ensures.stops
    (inr (
      not_apart d (lent_block c.args.block.now) c.args.place found.0 (pieces_of s kept) found.1 (c.requires.net found.0 found.1) (still_named d.grid (lent_block c.args.block.now) _ kept merged c.in_ok-listed.ensures.named)
          (joins.0 c.if-not-branch.false),
      refl,
    ))

pub returns-clause-named : goal.returns-clause-named
returns-clause-named c =
    still_named c.args.design.now.grid (lent_block c.args.block.now) _ c.in_ok-runs.runs.items (sized _ (size_of c.args.design.now.grid) _ _ c.size.ensures c.in_ok-runs.ensures) c.in_ok-listed.ensures.named

pub returns-clause-joining : goal.returns-clause-joining
returns-clause-joining c n at =
    let g = c.args.design.now.grid in
    let kept = c.in_ok-runs.runs.items in
    record {
      joined = (by_list (size_of g) _ kept n.terminals c.in_ok-joins_net.field-0 c.as_slice.ensures.value (c.in_ok-joins_net.ensures n at)).0 c.if-not-branch.false;
      no_wall = still_allowed g _ kept (sized _ (size_of g) _ _ c.size.ensures c.in_ok-runs.ensures) c.in_ok-listed.ensures.no_wall;
    }
