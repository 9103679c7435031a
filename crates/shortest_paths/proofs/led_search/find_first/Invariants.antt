use Rattle.std.proofs.Common.{◌≡◌, ◌<◌, ℕ, All, take}
use Rattle.grid_base.specs.declared.vertex.Vertex.{Vertex}
use Rattle.grid_base.specs.Walks.{InVertices}
use Rattle.label_search.specs.Founds.{index_in}
use Rattle.label_search.specs.Rows.{size_in, number_in, IsWaiting}
use Rattle.shortest_paths.proofs.led_search.find_first.Given as goal

abbrev pub invariant-loop-vertex : goal.invariant-loop-vertex
invariant-loop-vertex l = record {
  size : size_in l.row ≡ size_in l.fn.row;
  numbers : (v : ℕ) → number_in l.row v ≡ number_in l.fn.row v;
  waits : (v key : ℕ) → IsWaiting l.row v key → IsWaiting l.fn.row v key;
  in_list : (v : ℕ) → index_in l.row.found v < l.row.found.len → InVertices l.vertices v;
  first : All (λ (v : Vertex). index_in l.row.found v.0 < l.row.found.len) (take l.vertex-index l.vertices);
}
