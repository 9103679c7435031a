use Rattle.std.proofs.Common.{◌-◌, length, refl, subst, arith}
use Rattle.shortest_paths.specs.LabelWords.{label_of}
use Rattle.steiner_tables.specs.Masks.{all_but_root}
use Rattle.steiner_tables.specs.NoFamilies.{nothing_holds}
use Rattle.label_search.specs.Stamped.{most, far}
use Rattle.steiner_tables.specs.Tables.{IsPrunedTable}
use Rattle.steiner_tables.proofs.Seeding.{single_of, root_below}
use Rattle.steiner_tables.proofs.Pruned.{IsPrunedBy, exact_label, reached_exactly}
use Rattle.shortest_paths.proofs.labels.Labels.subsets.Goals as goal

pub returns-clause-reached : goal.returns-clause-reached
returns-clause-reached g c = λ mask v some within has.
    let w = c.args.weights.now in
    let s = g.W.Weights.size w in
    let pieces = g.W.Weights.pieces w in
    let terminals = c.args.terminals.now in
    let number = label_of c.pruned.new.self in
    let pruned = subst (λ n. IsPrunedTable s pieces terminals (n - 1) (λ _ _. 0) most far number) (single_of (length terminals - 1) (omega (arith, c.requires.few))) c.pruned.ensures.table in
    reached_exactly s pieces terminals (all_but_root terminals) (λ _ _. 0) most far number pruned mask v some within has

pub returns-clause-labels : goal.returns-clause-labels
returns-clause-labels g c = λ mask v some within vertex.
    let w = c.args.weights.now in
    let s = g.W.Weights.size w in
    let pieces = g.W.Weights.pieces w in
    let terminals = c.args.terminals.now in
    let number = label_of c.pruned.new.self in
    let pruned = subst (λ n. IsPrunedTable s pieces terminals (n - 1) (λ _ _. 0) most far number) (single_of (length terminals - 1) (omega (arith, c.requires.few))) c.pruned.ensures.table in
    let is : IsPrunedBy s pieces terminals (all_but_root terminals) (λ _ _. 0) most far number = record {
      family = nothing_holds s pieces terminals;
      below = root_below (length terminals) c.requires.some;
      limit_below = omega arith;
      pruned = pruned;
    } in
    exact_label s pieces terminals (all_but_root terminals) (λ _ _. 0) most far number is (g.met.W.Weights.small w) (omega arith) (λ m u. refl) mask v some within
