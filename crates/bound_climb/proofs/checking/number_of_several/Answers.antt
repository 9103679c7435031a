use Rattle.std.proofs.Common.{◌≡◌, ◌<◌, ◌↔◌, List, All, IsSome, length, refl, sym, ◌∙◌, subst}
use Rattle.grid_base.specs.declared.size.Size.{Size}
use Rattle.grid_base.specs.declared.vertex.Vertex.{Vertex}
use Rattle.grid_base.specs.Numbers.{IsVertex}
use Rattle.brought_bounds.specs.TableWords.{IsTableThatHolds}
use Rattle.bound_climb.specs.NetProofs.{AreTabled, table_bound}
use Rattle.bound_climb.proofs.Chosen.{tabled_vertices}
use Rattle.bound_climb.proofs.Right.{same_tests, table_right, no_table}
use Rattle.bound_climb.proofs.checking.number_of_several.Goals as goal

pub bound_of_table-requires-clause-vertices : goal.bound_of_table-requires-clause-vertices
bound_of_table-requires-clause-vertices g c =
    let s = g.W.Weights.size c.args.weights.now in
    let t = c.size-size.result in
    let terminals = c.args.terminals.now in
    let size_is : t ≡ s = c.size-size.ensures ∙ c.requires.labels in
    subst (λ (ts : List Vertex). All (λ (v : Vertex). IsVertex t v.0) ts) (sym c.as_slice.ensures.value)
    (tabled_vertices t terminals c.in_ok-chosen.chosen.items c.in_ok-chosen.ensures
    (subst (λ (u : Size). All (λ (v : Vertex). IsVertex u v.0) terminals) (sym size_is) c.requires.vertices))

pub returns-in-Some-clause-right : goal.returns-in-Some-clause-right
returns-in-Some-clause-right g c =
    let s = g.W.Weights.size c.args.weights.now in
    let pieces = g.W.Weights.pieces c.args.weights.now in
    let t = c.size-size.result in
    let terminals = c.args.terminals.now in
    let proof = c.args.proof.now in
    let chosen = c.in_ok-chosen.chosen.items in
    let bound = c.in-Some.bound in
    let size_is : t ≡ s = c.size-size.ensures ∙ c.requires.labels in
    let tabled = subst (λ (u : Size). AreTabled u terminals chosen) size_is c.in_ok-chosen.ensures in
    let Holds : Size → List Vertex → Type 0 = λ u ts.
    IsTableThatHolds u pieces ts proof.table.rows × (bound ≡ table_bound ts proof.table.rows) in
    let found : Holds t c.as_slice.result.now = (c.in-Some.ensures bound).0 refl in
    let holds : Holds s chosen = subst (λ (u : Size). Holds u chosen) size_is (subst (Holds t) c.as_slice.ensures.value found) in
    let tests = same_tests c.is_some.result c.are_many.result c.if-is_some-are_many.false in
    let moated : IsSome proof.moats ↔ (5 < length terminals) = (
      λ some. c.are_many.ensures.0 (sym tests ∙ c.is_some.ensures ∙ some),
      λ many. sym c.is_some.ensures ∙ tests ∙ c.are_many.ensures.1 many,
    ) in
    table_right s pieces terminals chosen proof bound c.with_moats.result tabled moated holds.0 holds.1
    c.with_moats.ensures.number

pub returns-clause-right : goal.returns-clause-right
returns-clause-right g c =
    let s = g.W.Weights.size c.args.weights.now in
    let pieces = g.W.Weights.pieces c.args.weights.now in
    let t = c.size-size.result in
    let terminals = c.args.terminals.now in
    let proof = c.args.proof.now in
    let chosen = c.in_ok-chosen.chosen.items in
    let slice = c.as_slice.result.now in
    let size_is : t ≡ s = c.size-size.ensures ∙ c.requires.labels in
    let tabled = subst (λ (u : Size). AreTabled u terminals chosen) size_is c.in_ok-chosen.ensures in
    no_table s pieces terminals chosen proof tabled (λ holds.
    let here = subst (λ (ts : List Vertex). IsTableThatHolds t pieces ts proof.table.rows) (sym c.as_slice.ensures.value)
    (subst (λ (u : Size). IsTableThatHolds u pieces chosen proof.table.rows) (sym size_is) holds) in
    let none = (c.in-None.ensures (table_bound slice proof.table.rows)).1 (here, refl) in
    cc)
