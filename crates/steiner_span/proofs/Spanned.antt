-- A spanning tree by distances spans the terminals.
use Rattle.std.proofs.Common.{ℕ, List, arith}
use Rattle.std.proofs.lemmas.List.Elements.{All-contains}
use Rattle.grid_base.specs.declared.piece.Piece.{Piece}
use Rattle.grid_base.specs.declared.size.Size.{Size}
use Rattle.grid_base.specs.declared.vertex.Vertex.{Vertex}
use Rattle.grid_base.specs.Walks.{InVertices}
use Rattle.grid_graph.specs.Weighed.{IsAllowed}
use Rattle.label_search.specs.Sets.{IsLeastWeight, IsEither}
use Rattle.label_search.proofs.Sets.{ends_joined}
use Rattle.shortest_paths.specs.Spanning.{Link, IsSpanningTree}
use Rattle.steiner_span.specs.SpanningLinks.{AreSpanningLinks}

pub tree_spans : (s : Size) (pieces : List (Piece × ℕ)) (terminals : List Vertex) (links : List Link) → IsSpanningTree s pieces terminals links → AreSpanningLinks s pieces terminals links
tree_spans s pieces terminals links tree = record {
  ends = λ link at. All-contains (λ (l : Link). InVertices terminals l.one × InVertices terminals l.other) links link tree.ends at;
  joined = λ link at.
      let is = All-contains (λ (l : Link). IsLeastWeight s pieces (IsEither l.one l.other) l.distance) links link tree.distances at in
      record { set = is.set; is_set = is.is_set; walk = ends_joined s (IsAllowed is.set) link.one link.other is.joins; light = omega (arith, is.weighs) };
  connects = tree.connects;
}
