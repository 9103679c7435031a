use Rattle.std.proofs.Common.{ℕ, ◌≡◌, ◌-◌, ◌^◌, ◌<◌, ◌≤◌, List, length, sym, subst, arith}
use Rattle.std.proofs.Math.Nat.{pow-le-pow_right}
use Rattle.grid_base.specs.declared.piece.Piece.{Piece}
use Rattle.grid_base.specs.declared.size.Size.{Size}
use Rattle.grid_base.specs.declared.vertex.Vertex.{Vertex}
use Rattle.grid_graph.specs.Flat.{AreLeastOver}
use Rattle.shortest_paths.specs.LabelWords.{label_of}
use Rattle.label_search.specs.Stamped.{far}
use Rattle.steiner_tables.specs.Masks.{all_of}
use Rattle.steiner_tables.specs.Tables.{IsFamily, IsPrunedTable}
use Rattle.steiner_exact.specs.FlatPieces.{edges_with}
use Rattle.grid_graph.specs.TilePieces.{tiles_of}
use Rattle.steiner_exact.proofs.RowLaws.{layers_beside, over_family, pruned_table}
use Rattle.steiner_exact.proofs.row_family.RowFamily.new.Goals as goal

some_mask : (n : ℕ) → 1 ≤ n → 0 < 2 ^ n - 1
some_mask n some = omega (arith, pow-le-pow_right {n = 2} (omega arith) {i = 1} {j = n} some)

pub invariant_of-result-clause-over : goal.invariant_of-result-clause-over
invariant_of-result-clause-over g c beside stands =
    let w = c.args.weights.now in
    let s = c.args.size in
    let pieces = g.W.Weights.pieces w in
    let over = g.W.FlooredWeights.over w in
    let terminals = c.args.terminals.now in
    let flat = g.B.Family.size c.args.bounds.now in
    let low = g.B.Family.low c.args.bounds.now in
    let number = label_of c.args.labels.now in
    let list = edges_with flat over in
    let tiles = tiles_of s terminals in
    let same : Size → Size → Type 0 = λ x y. x ≡ y in
    let sized : same s (g.W.Weights.size w) = c.requires.size in
    let family : IsFamily flat list tiles low =
    subst (λ (ts : List Vertex). IsFamily flat list ts low) c.requires.tiles
    (subst (λ (ps : List (Piece × ℕ)). IsFamily flat ps (g.B.Family.terminals c.args.bounds.now) low) c.requires.pieces (g.met.B.Family.holds c.args.bounds.now)) in
    let table : IsPrunedTable flat list tiles (all_of terminals - 1) low c.args.limit far number =
    subst (λ (ts : List Vertex). IsPrunedTable flat list ts (all_of terminals - 1) low c.args.limit far number) c.requires.tiles
    (subst (λ (ps : List (Piece × ℕ)). IsPrunedTable flat ps (g.B.Family.terminals c.args.bounds.now) (all_of terminals - 1) low c.args.limit far number) c.requires.pieces c.requires.table) in
    over_family flat s pieces terminals over _ beside
    (record {
      flat_of = c.requires.flat;
      table = pruned_table flat s pieces terminals over low c.args.limit number (some_mask (length terminals) c.requires.some) c.requires.limit family table;
      least = subst (λ (x : Size). AreLeastOver x pieces over) (sym sized) (g.met.W.FlooredWeights.under w);
    })
    stands

pub invariant_of-result-clause-layered : goal.invariant_of-result-clause-layered
invariant_of-result-clause-layered g c =
    let w = c.args.weights.now in
    layers_beside c.args.size (g.W.Weights.pieces w) c.args.terminals.now c.floors.result (g.W.FlooredWeights.over w) c.requires.terminals c.floors.ensures.below
