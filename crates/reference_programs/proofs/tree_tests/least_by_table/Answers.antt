use Rattle.std.proofs.Common.{◌≡◌, ℕ, ◌-◌, ◌*◌, ◌^◌, ◌%◌, Option, length, get_or, sym, ◌∙◌, ap, subst, arith}
use Rattle.std.proofs.lemmas.Option.{slice_get-get_or}
use Rattle.grid_base.specs.declared.size.Size.{Size}
use Rattle.grid_base.specs.declared.vertex.Vertex.{Vertex}
use Rattle.grid_base.specs.Lists.{At}
use Rattle.grid_base.specs.Numbers.{IsVertex}
use Rattle.grid_base.specs.Walks.{Joins, InVertices}
use Rattle.grid_graph.specs.Weighed.{IsAllowed}
use Rattle.shortest_paths.specs.LabelWords.{label_of}
use Rattle.steiner_tables.specs.Masks.{all_but_root}
use Rattle.label_search.specs.Stamped.{far}
use Rattle.steiner_tables.specs.Tables.{IsLabel, answer_at}
use Rattle.steiner_tables.proofs.Roots.{root_mask}
use Rattle.steiner_exact.proofs.Attempts.{few_masks}
use Rattle.reference_programs.proofs.RootLabels.{joined_by_label}
use Rattle.reference_programs.proofs.tree_tests.least_by_table.Goals as goal

pub subsets-requires-clause-room : goal.subsets-requires-clause-room
subsets-requires-clause-room c = omega (arith, few_masks c.args.terminals.now c.requires.few, c.in_ok-labels.ensures.masks)

pub label-requires-clause-some : goal.label-requires-clause-some
label-requires-clause-some c =
    omega (arith, (root_mask c.args.terminals.now c.requires.two).0, few_masks c.args.terminals.now c.requires.few)

pub label-requires-clause-mask : goal.label-requires-clause-mask
label-requires-clause-mask c =
    omega (arith, few_masks c.args.terminals.now c.requires.few, c.in_ok-labels.ensures.masks, c.subsets.ensures.masks)

pub returns : goal.returns
returns c = λ some.
    let s = c.args.weights.now.size in
    let pieces = c.args.weights.now.pieces.items in
    let terminals = c.args.terminals.now in
    let none : Vertex = record { 0 = 0 } in
    let last = length terminals - 1 in
    let root = get_or terminals last none in
    let at : At terminals last root = slice_get-get_or terminals last none (omega (arith, c.requires.two)) in
    let vertex : IsVertex s root.0 = subst (λ (x : Size). IsVertex x root.0) (sym c.requires.size) (c.requires.terminals last none (omega (arith, c.requires.two))) in
    let mask = all_but_root terminals in
    let masked : 1 * 2 ^ last % 4294967296 - 1 ≡ mask = omega (arith, few_masks terminals c.requires.few) in
    let answer : c.label.result ≡ answer_at far (label_of c.subsets.new.self mask root.0) =
    c.label.ensures ∙ ap (λ m. answer_at far (label_of c.subsets.new.self m root.0)) masked in
    let label : IsLabel s pieces terminals mask root.0 c.label.result =
    subst (λ (o : Option ℕ). IsLabel s pieces terminals mask root.0 o) (sym answer)
    (c.subsets.ensures.labels mask root.0 (root_mask terminals c.requires.two).0 (omega arith) vertex) in
    subst (λ (x : Size). Joins x (IsAllowed pieces) (InVertices terminals)) c.requires.size (joined_by_label s pieces terminals root c.label.result at label some)
