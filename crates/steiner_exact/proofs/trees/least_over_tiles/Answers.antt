use Rattle.std.proofs.Common.{◌≤◌, sym, ◌∙◌, ap, subst}
use Rattle.grid_base.specs.declared.size.Size.{Size}
use Rattle.grid_graph.specs.Flat.{IsFlatOf}
use Rattle.shortest_paths.specs.LabelWords.{labels_size}
use Rattle.terminal_distances.specs.DistanceWords.{AreDistanceRows}
use Rattle.steiner_exact.specs.FlatPieces.{edge_flags}
use Rattle.steiner_exact.proofs.TileTables.{tiles_inside, rows_kept}
use Rattle.steiner_exact.proofs.trees.least_over_tiles.Goals as goal
use Rattle.steiner_exact.proofs.trees.least_over_tiles.Goals.{in-Some, in-None+in_ok-rows-in-None}

pub new-bounds-requires-clause-terminals : goal.new-bounds-requires-clause-terminals
new-bounds-requires-clause-terminals g c =
    tiles_inside (labels_size c.args.labels.now.flat) c.size.result c.size-3.result c.args.terminals.now c.as_slice-tiles.result.now
    (subst (λ (x : Size). IsFlatOf (labels_size c.args.labels.now.flat) x) (sym (c.size.ensures ∙ c.requires.labels.grid)) c.requires.labels.flat)
    c.size-3.ensures (c.as_slice-tiles.ensures.value ∙ c.in_ok-listed.ensures.tiles)

pub returns-then-not-is_far-clause-labels : goal.returns-then-not-is_far-clause-labels
returns-then-not-is_far-clause-labels g c =
    let old = c.requires.labels in
    let flat = c.least_under.ensures.flat_size ∙ c.tree_guess.ensures.size in
    record {
      grid = c.least_under.ensures.size ∙ old.grid;
      grid_room = subst (λ n. 15 ≤ n) (sym c.least_under.ensures.masks) old.grid_room;
      flat = subst (λ (x : Size). IsFlatOf x (g.W.Weights.size c.args.weights.now)) (sym flat) old.flat;
      flat_room = subst (λ n. 30 ≤ n) (sym (c.least_under.ensures.flat_masks ∙ c.tree_guess.ensures.masks)) old.flat_room;
      flat_edges = old.flat_edges ∙ ap edge_flags (sym flat);
      balls = old.balls;
      distances = old.distances;
    }

pub least_led-found-requires-clause-rows : goal.least_led-found-requires-clause-rows
least_led-found-requires-clause-rows g c =
    let flat = c.new-bounds.ensures.size ∙ c.size-3.ensures in
    elim c.match-take.branch [
      | in-Some w ↦ rw w.rows-is (subst (λ (x : Size). AreDistanceRows x w.in-Some.rows) (sym flat)
          (c.requires.labels.distances (labels_size c.args.labels.now.flat) c.requires.labels.flat w.in-Some.rows (sym c.take.ensures.value ∙ w.in-Some.is)))
      | in-None+in_ok-rows-in-None w ↦ rw w.rows-is (subst (λ (x : Size). AreDistanceRows x w.in_ok-rows-in-None.rows)
          (w.size-in-None.ensures ∙ c.tree_guess.ensures.size ∙ sym flat) w.in_ok-rows-in-None.ensures)
    ]

pub returns-clause-labels : goal.returns-clause-labels
returns-clause-labels g c =
    let old = c.requires.labels in
    let s = g.W.Weights.size c.args.weights.now in
    let flat = c.least_led-found.ensures.flat_size ∙ c.tree_guess.ensures.size in
    let bounds = c.new-bounds.ensures.size ∙ c.size-3.ensures in
    record {
      grid = c.least_led-found.ensures.size ∙ old.grid;
      grid_room = subst (λ n. 15 ≤ n) (sym c.least_led-found.ensures.masks) old.grid_room;
      flat = subst (λ (x : Size). IsFlatOf x s) (sym flat) old.flat;
      flat_room = subst (λ n. 30 ≤ n) (sym (c.least_led-found.ensures.flat_masks ∙ c.tree_guess.ensures.masks)) old.flat_room;
      flat_edges = old.flat_edges ∙ ap edge_flags (sym flat);
      balls = old.balls;
      distances = λ named is. rows_kept (labels_size c.args.labels.now.flat) s named _ old.flat is
          (subst (λ (x : Size). AreDistanceRows x c.least_led-found.new.rows) bounds c.least_led-found.ensures.rows);
    }
