use Rattle.std.proofs.Common.{◌≡◌, List, length, All, sym, ◌∙◌, ap, subst, arith}
use Rattle.grid_base.specs.declared.size.Size.{Size}
use Rattle.grid_base.specs.declared.vertex.Vertex.{Vertex}
use Rattle.grid_base.specs.Numbers.{IsVertex}
use Rattle.grid_graph.specs.Flat.{IsFlatOf}
use Rattle.shortest_paths.specs.LabelWords.{labels_size}
use Rattle.grid_graph.specs.TilePieces.{tiles_of}
use Rattle.steiner_exact.proofs.Attempts.{few_masks}
use Rattle.steiner_exact.proofs.BoxSteps.{few_masks_all, some_masks_all}
use Rattle.grid_graph.proofs.TileLists.{tiles_vertices}
use Rattle.grid_graph.proofs.TileSteps.{flat_tiles}
use Rattle.steiner_exact.specs.FlatPieces.{edge_flags}
use Rattle.steiner_exact.proofs.trees.least_with_balls.Goals as goal

-- tiles of terminals, however the sizes are called
vertices_of : (flat s grid : Size) (terminals tiles : List Vertex) → IsFlatOf flat s → grid ≡ s → tiles ≡ tiles_of grid terminals → All (λ (v : Vertex). IsVertex flat v.0) tiles
vertices_of flat s grid terminals tiles is same made =
    subst (λ (ts : List Vertex). All (λ (v : Vertex). IsVertex flat v.0) ts) (sym (made ∙ ap (λ (x : Size). tiles_of x terminals) same)) (tiles_vertices flat s terminals (flat_tiles flat s is))

pub new-bounds-requires-clause-terminals : goal.new-bounds-requires-clause-terminals
new-bounds-requires-clause-terminals g c =
    let tiles = c.as_slice-tiles in
    subst (λ (x : Size). All (λ (v : Vertex). IsVertex x v.0) tiles.result.now) (sym c.size-3.ensures)
    (vertices_of (labels_size c.args.labels.now.flat) (g.W.Weights.size c.args.weights.now) c.size.result c.args.terminals.now
    tiles.result.now c.requires.labels.flat (c.size.ensures ∙ c.requires.labels.grid) (tiles.ensures.value ∙ c.in_ok-listed.ensures.tiles))

pub overflow_sub-all_of : goal.overflow_sub-all_of
overflow_sub-all_of g c =
    omega (arith, c.all_of.ensures, some_masks_all (length c.as_slice-tiles.result.now) (omega (arith, c.as_slice-tiles.ensures.len, c.in_ok-listed.ensures.long, c.requires.two)))

pub pruned-requires-clause-room : goal.pruned-requires-clause-room
pruned-requires-clause-room g c =
    omega (
      arith,
      c.all_of.ensures,
      few_masks_all (length c.as_slice-tiles.result.now) (omega (arith, c.as_slice-tiles.ensures.len, c.in_ok-listed.ensures.long, c.requires.few)),
      c.requires.labels.flat_room,
      c.tree_guess.ensures.masks,
    )

pub pruned-requires-clause-last : goal.pruned-requires-clause-last
pruned-requires-clause-last g c =
    omega (arith, c.all_of.ensures, some_masks_all (length c.as_slice-tiles.result.now) (omega (arith, c.as_slice-tiles.ensures.len, c.in_ok-listed.ensures.long, c.requires.two)))

pub root_label-requires-clause-terminals : goal.root_label-requires-clause-terminals
root_label-requires-clause-terminals g c =
    let tiles = c.as_slice-tiles in
    subst (λ (x : Size). All (λ (v : Vertex). IsVertex x v.0) tiles.result.now) (sym (c.pruned.ensures.size ∙ c.tree_guess.ensures.size))
    (vertices_of (labels_size c.args.labels.now.flat) (g.W.Weights.size c.args.weights.now) c.size.result c.args.terminals.now
    tiles.result.now c.requires.labels.flat (c.size.ensures ∙ c.requires.labels.grid) (tiles.ensures.value ∙ c.in_ok-listed.ensures.tiles))

pub root_label-requires-clause-room : goal.root_label-requires-clause-room
root_label-requires-clause-room g c =
    let tiles = c.as_slice-tiles.result.now in
    omega (
      arith,
      few_masks tiles (omega (arith, c.as_slice-tiles.ensures.len, c.in_ok-listed.ensures.long, c.requires.few)),
      c.requires.labels.flat_room,
      c.pruned.ensures.masks,
      c.tree_guess.ensures.masks,
    )

pub returns-clause-labels : goal.returns-clause-labels
returns-clause-labels g c =
    let old = c.requires.labels in
    let flat = c.pruned.ensures.size ∙ c.tree_guess.ensures.size in
    record {
      grid = c.least_at_root-least.ensures.size ∙ old.grid;
      grid_room = omega (arith, c.least_at_root-least.ensures.masks, old.grid_room);
      flat = subst (λ (x : Size). IsFlatOf x (g.W.Weights.size c.args.weights.now)) (sym flat) old.flat;
      flat_room = omega (arith, c.pruned.ensures.masks, c.tree_guess.ensures.masks, old.flat_room);
      flat_edges = old.flat_edges ∙ ap edge_flags (sym flat);
      balls = old.balls;
      distances = old.distances;
    }

pub radii_of-requires : goal.radii_of-requires
radii_of-requires g c = record { mask = omega (arith, c.all_of-2.ensures, few_masks_all (length c.as_slice-tiles.result.now) (omega (arith, c.as_slice-tiles.ensures.len, c.in_ok-listed.ensures.long, c.requires.few))) }

pub least_at_root-least-requires-clause-room : goal.least_at_root-least-requires-clause-room
least_at_root-least-requires-clause-room g c = omega (arith, few_masks c.args.terminals.now c.requires.few, c.requires.labels.grid_room)
