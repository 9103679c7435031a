-- Links along the edges of a flat grid, one by one, and the graph that they make.
use Rattle.std.proofs.Common.{◌≡◌, ℕ, ◌+◌, ◌*◌, ◌<◌, ◌≤◌, ◌⊎◌, List, [], ◌∷◌, ◌++◌, All, length, slice_index, sym, ◌∙◌, ap, subst, inl, inr, ⊎_elim, arith}
use Rattle.std.specs.Prelude.{Contains}
use Rattle.std.proofs.lemmas.Bool.{cases_lt}
use Rattle.std.proofs.lemmas.List.Elements.{All-nil, All-push, Contains-push, Contains-append_left}
use Rattle.grid_base.specs.declared.piece.Piece.{Piece}
use Rattle.grid_base.specs.declared.piece.Piece.TheVariants.{Edge, Via}
use Rattle.grid_base.specs.declared.size.Size.{Size}
use Rattle.grid_base.specs.Numbers.{layers, vertices, start_of, end_of, Connects}
use Rattle.grid_graph.specs.Weighed.{IsAllowed, Weighs}
use Rattle.overflow_bounds.specs.declared.link.Link.{Link}
use Rattle.overflow_bounds.specs.declared.merged_graph.MergedGraph.{MergedGraph}
use Rattle.overflow_bounds.specs.Links.{AreEnds, AreLinkedWithin, IsInside}
use Rattle.overflow_bounds.specs.MergedGraphs.{IsMerged, AreLinksOf}

abbrev edge : ℕ → Piece
edge e = Edge (record { 0 = e })

-- two vertices have the same node, or a link between their nodes that costs no more than this
abbrev IsCrossed : List ℕ → List Link → ℕ → ℕ → ℕ → Type 0
IsCrossed nodes links a b k = (slice_index nodes a ≡ slice_index nodes b) ⊎ AreLinkedWithin links (slice_index nodes a) (slice_index nodes b) k

-- so they have where there are more links
crossed_still : (nodes : List ℕ) (old new : List Link) (a b k : ℕ) → ((l : Link) → Contains old l → Contains new l) → IsCrossed nodes old a b k → IsCrossed nodes new a b k
crossed_still nodes old new a b k kept = ⊎_elim
    (λ (same : slice_index nodes a ≡ slice_index nodes b). inl same)
    (λ (linked : AreLinkedWithin old (slice_index nodes a) (slice_index nodes b) k). inr (record {
      link = linked.link;
      listed = kept linked.link linked.listed;
      ends = linked.ends;
      cheap = linked.cheap;
    }))

-- the two ends of a piece
ends_of : (s : Size) (p : Piece) (a b start end : ℕ) → start ≡ start_of p → end ≡ end_of s p → Connects s p a b → ((a ≡ start) × (b ≡ end)) ⊎ ((a ≡ end) × (b ≡ start))
ends_of s p a b start end starts ends (inl goes) = inl (sym goes.1 ∙ sym starts, sym goes.2 ∙ sym ends)
ends_of s p a b start end starts ends (inr goes) = inr (sym goes.2 ∙ sym ends, sym goes.1 ∙ sym starts)

-- no edge
pub no_links : (s : Size) (pieces : List (Piece × ℕ)) (nodes : List ℕ) → AreLinksOf s pieces nodes 0 []
no_links s pieces nodes = record {
  inside = λ count below. All-nil (IsInside count);
  crossed = λ e k a b low. absurd (omega (arith, low));
}

module _ (s : Size) (pieces : List (Piece × ℕ)) (nodes : List ℕ) (e : ℕ) where
  -- one edge more
  one_more : (old new : List Link) → AreLinksOf s pieces nodes e old → ((l : Link) → Contains old l → Contains new l)
      → ((count : ℕ) → All (λ n. n < count) nodes → All (IsInside count) new)
      → ((k a b : ℕ) → Weighs pieces (edge e) k → Connects s (edge e) a b → IsCrossed nodes new a b k) → AreLinksOf s pieces nodes (e + 1) new
  one_more old new are kept inside here = record {
    inside = inside;
    crossed = λ i k a b low weighs connects. ⊎_elim
        (λ (less : i < e). crossed_still nodes old new a b k kept (are.crossed i k a b less weighs connects))
        (λ (more : e ≤ i). let same : i ≡ e = omega (arith, low, more) in
        here k a b (subst (λ j. Weighs pieces (edge j) k) same weighs) (subst (λ j. Connects s (edge j) a b) same connects))
        (cases_lt i e);
  }

  -- which isn't allowed
  pub past_edge : (links : List Link) → AreLinksOf s pieces nodes e links → ¬ IsAllowed pieces (edge e) → AreLinksOf s pieces nodes (e + 1) links
  past_edge links are none = one_more links links are (λ l at. at) are.inside (λ k a b weighs connects. absurd (none (k, weighs)))

  -- which stays within a node
  pub within_node : (links : List Link) (start end : ℕ) → AreLinksOf s pieces nodes e links → start ≡ start_of (edge e) → end ≡ end_of s (edge e)
      → slice_index nodes start ≡ slice_index nodes end → AreLinksOf s pieces nodes (e + 1) links
  within_node links start end are starts ends same = one_more links links are (λ l at. at) are.inside
      (λ k a b weighs connects. inl (⊎_elim
      (λ (up : (a ≡ start) × (b ≡ end)). ap (slice_index nodes) up.0 ∙ same ∙ sym (ap (slice_index nodes) up.1))
      (λ (down : (a ≡ end) × (b ≡ start)). ap (slice_index nodes) down.0 ∙ sym same ∙ sym (ap (slice_index nodes) down.1))
      (ends_of s (edge e) a b start end starts ends connects)))

  -- along which there is a link
  pub linked : (links new : List Link) (link : Link) (start end : ℕ) → AreLinksOf s pieces nodes e links → new ≡ links ++ link ∷ [] → start ≡ start_of (edge e) → end ≡ end_of s (edge e)
      → start < length nodes → end < length nodes → link.one ≡ slice_index nodes start → link.other ≡ slice_index nodes end
      → ((k : ℕ) → Weighs pieces (edge e) k → link.cost ≡ k) → AreLinksOf s pieces nodes (e + 1) new
  linked links new link start end are pushed starts ends in_start in_end one other costs = subst (AreLinksOf s pieces nodes (e + 1)) (sym pushed)
      (one_more links (links ++ link ∷ []) are
      (λ l at. Contains-append_left links (link ∷ []) l at)
      (λ count below. All-push (IsInside count) links link (are.inside count below)
      (subst (λ n. n < count) (sym one) (below start 0 in_start), subst (λ n. n < count) (sym other) (below end 0 in_end)))
      (λ k a b weighs connects. inr (record {
        link = link;
        listed = Contains-push links link;
        ends = ⊎_elim {C = AreEnds link (slice_index nodes a) (slice_index nodes b)}
            (λ (up : (a ≡ start) × (b ≡ end)). inl (one ∙ sym (ap (slice_index nodes) up.0), other ∙ sym (ap (slice_index nodes) up.1)))
            (λ (down : (a ≡ end) × (b ≡ start)). inr (one ∙ sym (ap (slice_index nodes) down.1), other ∙ sym (ap (slice_index nodes) down.0)))
            (ends_of s (edge e) a b start end starts ends connects);
        cheap = omega (arith, costs k weighs);
      })))

-- no via joins vertices of a flat grid
crossed_flat : (s : Size) (pieces : List (Piece × ℕ)) (nodes : List ℕ) (links : List Link) → layers s ≡ 1 → AreLinksOf s pieces nodes (2 * vertices s) links
    → (p : Piece) (k a b : ℕ) → Weighs pieces p k → Connects s p a b → IsCrossed nodes links a b k
crossed_flat s pieces nodes links flat are (Edge e) k a b weighs (inl goes) = let start = goes.0.0 in are.crossed e.0 k a b (omega arith) weighs (inl goes)
crossed_flat s pieces nodes links flat are (Edge e) k a b weighs (inr goes) = let start = goes.0.0 in are.crossed e.0 k a b (omega arith) weighs (inr goes)
crossed_flat s pieces nodes links flat are (Via v) k a b weighs (inl goes) = let above = goes.0.1.2 in absurd (omega (arith, flat))
crossed_flat s pieces nodes links flat are (Via v) k a b weighs (inr goes) = let above = goes.0.1.2 in absurd (omega (arith, flat))

-- so links along all edges make the graph of a flat grid
pub merged : (s : Size) (pieces : List (Piece × ℕ)) (m : MergedGraph) → layers s ≡ 1 → length m.nodes.items ≡ vertices s → All (λ n. n < m.count) m.nodes.items
    → AreLinksOf s pieces m.nodes.items (2 * vertices s) m.links.items → IsMerged s pieces m
merged s pieces m flat long inside are = record {
  long = long;
  inside = inside;
  links = are.inside m.count inside;
  crossed = crossed_flat s pieces m.nodes.items m.links.items flat are;
}
