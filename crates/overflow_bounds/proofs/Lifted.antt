-- A table of nodes as a table of the vertices over them: each vertex has the number of the node of its tile.
use Rattle.std.proofs.Common.{◌≡◌, ℕ, zero, suc, ◌+◌, ◌-◌, ◌^◌, ◌<◌, ◌≤◌, List, [], ◌∷◌, All, length, get_or, slice_index, slice_get, refl, sym, ◌∙◌, ap, subst, inl, inr, ⊎_elim, arith}
use Rattle.std.specs.Prelude.{Contains}
use Rattle.std.proofs.lemmas.List.Elements.{All-head, All-tail}
use Rattle.std.proofs.lemmas.Option.{same_Some, slice_get-get_or, slice_get_within}
use Rattle.grid_base.specs.declared.piece.Piece.{Piece}
use Rattle.grid_base.specs.declared.piece.Piece.TheVariants.{Edge, Via}
use Rattle.grid_base.specs.declared.size.Size.{Size}
use Rattle.grid_base.specs.declared.vertex.Vertex.{Vertex}
use Rattle.grid_base.specs.Lists.{At}
use Rattle.grid_base.specs.Walks.{Joins, InVertices}
use Rattle.grid_base.proofs.Lists.{head_or_rest}
use Rattle.grid_graph.specs.Flat.{tile_of, HaveSameTiles}
use Rattle.grid_graph.specs.TilePieces.{AreLeastBetweenTiles}
use Rattle.grid_graph.specs.Weighed.{IsAllowed}
use Rattle.grid_graph.proofs.TileSteps.{edge_connects, via_goes, tile_vertex}
use Rattle.label_search.specs.Sets.{IsSetOf, RisesSlowly, weight}
use Rattle.steiner_tables.specs.Masks.{all_but_root}
use Rattle.steiner_tables.specs.Tables.{IsHoldingTable}
use Rattle.steiner_tables.proofs.Roots.{holds_at_root}
use Rattle.overflow_bounds.specs.declared.merged_graph.MergedGraph.{MergedGraph}
use Rattle.overflow_bounds.specs.Links.{AreLinkedWithin}
use Rattle.overflow_bounds.specs.MergedGraphs.{IsMerged, node_of}
use Rattle.overflow_bounds.specs.NetEnds.{IsNodeOfSome}
use Rattle.overflow_bounds.specs.NodeTables.{IsNodeTable, IsOfTable, all_but_last}

-- ---- a terminal for each end

-- some of the terminals, one for each end
record AreChosen (s : Size) (nodes : List ℕ) (terminals : List Vertex) (ends : List ℕ) : Type 0 where
  chosen : List Vertex
  each : length chosen ≡ length ends
  within : (v : Vertex) → Contains chosen v → Contains terminals v
  stands : (place : ℕ) (v : Vertex) → At chosen place v → At ends place (slice_index nodes (tile_of s v.0))

chosen_of : (s : Size) (nodes : List ℕ) (terminals : List Vertex) (ends : List ℕ) → All (IsNodeOfSome s nodes terminals) ends → AreChosen s nodes terminals ends
chosen_of s nodes terminals [] all = record {
  chosen = [];
  each = refl;
  within = λ v at. absurd (omega (arith, at.1));
  stands = λ place v at. absurd (omega (arith, slice_get_within [] place v at));
}
chosen_of s nodes terminals (n ∷ ends) all =
    let P : ℕ → Type 0 = IsNodeOfSome s nodes terminals in
    let rest = chosen_of s nodes terminals ends (All-tail P n ends all) in
    let first : IsNodeOfSome s nodes terminals n = All-head P n ends all in
    record {
      chosen = first.vertex ∷ rest.chosen;
      each = ap suc rest.each;
      within = λ v at. ⊎_elim (λ (same : v ≡ first.vertex). subst (Contains terminals) (sym same) first.listed) (λ behind. rest.within v behind) (head_or_rest first.vertex rest.chosen v at);
      stands = stands_more s nodes first.vertex rest.chosen n ends first.stands rest.stands;
    }
  where
    stands_more : (s : Size) (nodes : List ℕ) (first : Vertex) (chosen : List Vertex) (n : ℕ) (ends : List ℕ) → slice_index nodes (tile_of s first.0) ≡ n
        → ((place : ℕ) (v : Vertex) → At chosen place v → At ends place (slice_index nodes (tile_of s v.0)))
        → (place : ℕ) (v : Vertex) → At (first ∷ chosen) place v → At (n ∷ ends) place (slice_index nodes (tile_of s v.0))
    stands_more s nodes first chosen n ends is rest zero v at = subst (λ (u : Vertex). At (n ∷ ends) 0 (slice_index nodes (tile_of s u.0))) (same_Some _ _ at) (ap (λ m. slice_get (m ∷ ends) 0) (sym is))
    stands_more s nodes first chosen n ends is rest (suc place) v at = rest place v at

-- ---- the table

module _ (flat s : Size) (pieces across : List (Piece × ℕ)) (m : MergedGraph) (is : HaveSameTiles flat s) (between : AreLeastBetweenTiles s pieces across)
    (graph : IsMerged flat across m) where
  -- the node of a vertex
  abbrev node : ℕ → ℕ
  node v = node_of m (tile_of s v)

  node-inside : (v : ℕ) → node v < m.count
  node-inside v = graph.inside (tile_of s v) 0 (omega (arith, graph.long, tile_vertex flat s v is))

  -- a number that rises along links by no more than they cost rises so along the pieces over them
  rises : (D : ℕ → ℕ) → ((a b k : ℕ) → AreLinkedWithin m.links.items a b k → D b ≤ D a + k) → RisesSlowly s pieces (λ v. D (node v))
  rises D along (Edge e) k a b weighs connects =
      let below = between.below e k weighs in
      ⊎_elim
      (λ (same : node a ≡ node b). omega (arith, ap D same))
      (λ (linked : AreLinkedWithin m.links.items (node a) (node b) below.0). omega (arith, along (node a) (node b) below.0 linked, below.2))
      (graph.crossed _ below.0 (tile_of s a) (tile_of s b) below.1 (edge_connects flat s e.0 a b is connects).0)
  rises D along (Via v) k a b weighs (inl goes) = omega (arith, ap (λ t. D (node_of m t)) (via_goes s (Via v) v.0 a b refl goes).0)
  rises D along (Via v) k a b weighs (inr goes) = omega (arith, ap (λ t. D (node_of m t)) (via_goes s (Via v) v.0 b a refl goes).0)

  -- a table that holds for ends holds for terminals that stand over them
  lifted : (terminals : List Vertex) (ends : List ℕ) (number : ℕ → ℕ → ℕ) (of : AreChosen s m.nodes.items terminals ends) → IsNodeTable m.count m.links.items ends (all_but_last ends) number
      → IsHoldingTable s pieces of.chosen (all_but_root of.chosen) (λ mask v. number mask (node v))
  lifted terminals ends number of holds =
      let last : all_but_root of.chosen ≡ all_but_last ends = ap (λ n. 2 ^ (n - 1) - 1) of.each in
      record {
        own = λ place v at low. holds.own place (node v.0) (of.stands place v at) (omega (arith, low, last));
        steps = λ mask some low. rises (number mask) (λ a b k linked. omega (arith, holds.steps mask a b linked.link some (omega (arith, low, last)) linked.listed linked.ends, linked.cheap));
        splits = λ one other mask v parts low vertex. holds.splits one other mask (node v) parts (omega (arith, low, last)) (node-inside v);
      }

  -- so what it has for all ends is at most each set that joins the terminals
  pub table_bounds_sets : (terminals : List Vertex) (ends : List ℕ) (found : ℕ) → All (IsNodeOfSome s m.nodes.items terminals) ends → 2 ≤ length ends → IsOfTable m.count m.links.items ends found
      → (set : List (Piece × ℕ)) → IsSetOf pieces set → Joins s (IsAllowed set) (InVertices terminals) → found ≤ weight set
  table_bounds_sets terminals ends found all two table set is_set joins =
      let of = chosen_of s m.nodes.items terminals ends all in
      let d : Vertex = record { 0 = 0 } in
      let root = get_or of.chosen (length of.chosen - 1) d in
      let at : At of.chosen (length of.chosen - 1) root = slice_get-get_or of.chosen (length of.chosen - 1) d (omega (arith, two, of.each)) in
      let stands : At ends (length ends - 1) (node root.0) = subst (λ n. At ends (n - 1) (node root.0)) of.each (of.stands (length of.chosen - 1) root at) in
      let same : node root.0 ≡ table.root = same_Some _ _ (sym stands ∙ table.stands) in
      let value : table.number (all_but_root of.chosen) (node root.0) ≡ found =
      ap (λ n. table.number (2 ^ (n - 1) - 1) (node root.0)) of.each ∙ ap (table.number (all_but_last ends)) same ∙ sym table.value in
      omega (
        arith,
        value,
        holds_at_root s pieces of.chosen (λ mask v. table.number mask (node v)) set root (lifted terminals ends table.number of table.holds) (omega (arith, two, of.each)) at is_set
            (λ a b at_a at_b. joins a b (of.within _ at_a) (of.within _ at_b)),
      )
