use Rattle.std.proofs.Common.{◌≡◌, List, Some, sym, ap, subst, ◌∙◌, eq-eqb, eqb-true}
use Rattle.std.specs.Bool.{Decides}
use Rattle.std.specs.Option.{IfSome}
use Rattle.std.proofs.lemmas.Option.{slice_get-get_or}
use Rattle.std.proofs.lemmas.Slice.Eq.{slice_eq-Decides}
use Rattle.grid_base.specs.contracts.vertex.VertexPartialEq.TheImpl as equal
use Rattle.grid_base.specs.declared.vertex.Vertex.{Vertex}
use Rattle.grid_base.specs.Lists.{At}
use Rattle.grid_base.specs.Walks.{InVertices}
use Rattle.label_search.specs.Sets.{IsLeastWeight}
use Rattle.least_weights.specs.declared.kept_costs.KeptCost.{KeptCost}
use Rattle.least_weights.proofs.kept_costs.KeptCosts.get.Goals as goal

vertex_decides : (a b : Vertex) → Decides (equal.ghosts.eq a b) (a ≡ b)
vertex_decides a b = ((λ h. ap (λ n. record { 0 = n }) (eqb-true a.0 b.0 h)), λ same. eq-eqb a.0 b.0 (ap (λ (v : Vertex). v.0) same))

pub returns-then-eq : goal.returns-then-eq
returns-then-eq c s pieces are =
    let entry : KeptCost = c.index-entry.result.now in
    let entries = c.args.self.now.entries.items in
    let place = c.place_of.result in
    let at : At entries place entry = slice_get-get_or entries place entry c.place_of.ensures ∙ ap Some (sym c.index-entry.ensures) in
    let same = (slice_eq-Decides vertex_decides entry.tiles c.args.tiles.now c.eq.result c.eq.ensures).0 c.if-eq.true in
    subst (λ (tiles : List Vertex). IfSome entry.cost (λ cost. IsLeastWeight s pieces (InVertices tiles) cost)) same (are place entry at)
