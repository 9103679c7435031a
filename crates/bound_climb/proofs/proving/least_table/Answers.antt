use Rattle.std.proofs.Common.{◌≡◌, ℕ, List, All, length, sym, ◌∙◌, ap, subst, arith}
use Rattle.grid_base.specs.declared.size.Size.{Size}
use Rattle.grid_base.specs.declared.vertex.Vertex.{Vertex}
use Rattle.grid_base.specs.Numbers.{IsVertex}
use Rattle.grid_graph.specs.Weighed.{IsAllowed}
use Rattle.shortest_paths.specs.LabelWords.{labels_size, label_of}
use Rattle.steiner_tables.specs.Masks.{all_but_root}
use Rattle.steiner_exact.proofs.Attempts.{few_masks}
use Rattle.bound_climb.specs.LabelRows.{label_rows}
use Rattle.bound_climb.specs.NetProofs.{AreTabled}
use Rattle.bound_climb.specs.ProofParts.{IsLeastTable}
use Rattle.bound_climb.proofs.Chosen.{tabled_few, tabled_two, tabled_vertices, tabled_joined}
use Rattle.bound_climb.proofs.LabelTables.{AreLabels, rows_hold, rows_least}
use Rattle.bound_climb.proofs.proving.least_table.Goals as goal

pub subsets-requires-clause-terminals : goal.subsets-requires-clause-terminals
subsets-requires-clause-terminals g c =
    let s = g.W.Weights.size c.args.weights.now in
    let terminals = c.args.terminals.now in
    let chosen = c.in_ok-chosen.chosen.items in
    let size_is : c.size.result ≡ s = c.size.ensures ∙ c.requires.labels in
    let tabled = subst (λ (u : Size). AreTabled u terminals chosen) size_is c.in_ok-chosen.ensures in
    subst (λ (ts : List Vertex). All (λ (v : Vertex). IsVertex s v.0) ts) (sym c.as_slice.ensures.value)
    (tabled_vertices s terminals chosen tabled c.requires.vertices)

pub label_rows-requires-clause-masks : goal.label_rows-requires-clause-masks
label_rows-requires-clause-masks g c =
    let few = tabled_few c.size.result c.args.terminals.now c.in_ok-chosen.chosen.items c.in_ok-chosen.ensures in
    let long = ap (λ (ts : List Vertex). length ts) c.as_slice-2.ensures.value in
    let masks = few_masks c.as_slice-2.result.now (omega (arith, few, long)) in
    omega (arith, masks, c.all_but_root.ensures, c.subsets.ensures.masks, c.requires.room)

pub returns-clause-table : goal.returns-clause-table
returns-clause-table g c =
    let w = c.args.weights.now in
    let s = g.W.Weights.size w in
    let pieces = g.W.Weights.pieces w in
    let terminals = c.args.terminals.now in
    let chosen = c.in_ok-chosen.chosen.items in
    let l = c.subsets.new.self in
    let last = all_but_root chosen in
    let size_is : c.size.result ≡ s = c.size.ensures ∙ c.requires.labels in
    let tabled = subst (λ (u : Size). AreTabled u terminals chosen) size_is c.in_ok-chosen.ensures in
    let two = tabled_two s terminals chosen tabled c.requires.two in
    let vertices = tabled_vertices s terminals chosen tabled c.requires.vertices in
    let of_size : labels_size l ≡ s = c.subsets.ensures.size ∙ c.requires.labels in
    let labels : AreLabels s pieces chosen (label_of l) =
    subst (λ (ts : List Vertex). AreLabels s pieces ts (label_of l)) c.as_slice.ensures.value c.subsets.ensures.table in
    let count : c.all_but_root.result ≡ last =
    c.all_but_root.ensures ∙ ap (λ (ts : List Vertex). all_but_root ts) c.as_slice-2.ensures.value in
    let rows : c.of.result ≡ label_rows l last = c.of.ensures ∙ c.in_ok-rows.ensures ∙ ap (λ n. label_rows l n) count in
    subst (λ (xss : List (List ℕ)). IsLeastTable s pieces terminals xss) (sym rows) (record {
      chosen = chosen;
      tabled = tabled;
      holds = rows_hold s pieces chosen l of_size vertices labels;
      least = rows_least s pieces chosen l of_size (g.met.W.Weights.once w) (g.met.W.Weights.small w) two vertices
          (tabled_joined s (IsAllowed pieces) terminals chosen tabled c.requires.joined) labels;
    })
