use Rattle.std.proofs.Common.{◌≡◌, ◌≤◌, ℕ, List, get_or, length, slice_index, ◌*◌, ◌∙◌, ap, subst, arith, ⊎_elim}
use Rattle.std.proofs.lemmas.Bool.{cases_eq}
use Rattle.std.proofs.lemmas.Grind.{common_steps}
use Rattle.grid_base.specs.Numbers.{vertices}
use Rattle.grid_graph.specs.declared.ground.Ground.TheVariants.{WithChoked}
use Rattle.grid_graph.specs.Grids.{edge_numbers}
use Rattle.grid_graph.proofs.Allowed.{Allows-IsPiece}
use Rattle.load_core.specs.Parties.{share_at}
use Rattle.price_workers.proofs.Taken.{tree_load-edge, tree_load-last}
use Rattle.tree_set.specs.Loads.{tree_load, net_load}
use Rattle.routing_tests.proofs.worker_tests.holds_tree.Goals as goal

pub add_load-requires-clause-pieces : goal.add_load-requires-clause-pieces
add_load-requires-clause-pieces c k d within =
    let g = c.args.design.now.grid in
    Allows-IsPiece g WithChoked (get_or c.args.tree.now k d) (c.inside.ensures.0 c.if-not-inside.false k d within)

pub returns : goal.returns
returns c has =
    let g = c.args.design.now.grid in
    let ps = c.args.tree.now in
    let p = c.args.share.now.party in
    let w = c.args.width in
    let same : c.as_slice.result.now ≡ c.add_load.new.loads = grind (arith, common_steps, c.add_load.auto.loads) in
    let edges : (e : ℕ) → net_load g w ps e ≤ share_at e p =
    λ e. omega (arith, c.add_load.ensures.value e, c.has_all.ensures has e, ap (λ (xs : List ℕ). slice_index xs e) same) in
    let number : 2 * c.vertices-edges.result ≡ edge_numbers g = ap (λ (v : ℕ). 2 * v) (c.vertices-edges.ensures ∙ ap vertices c.size.ensures) in
    let last : length ps ≤ share_at (edge_numbers g) p = omega (arith, c.if-share_of-wirelength.false, c.share_of.ensures.amount, ap (λ (e : ℕ). share_at e p) number, ap length c.pieces.ensures.listed) in
    record {
      pieces = λ k d within. Allows-IsPiece g WithChoked (get_or ps k d) (c.inside.ensures.0 c.if-not-inside.false k d within);
      had = λ r. ⊎_elim
          (λ (here : edge_numbers g ≡ r). subst (λ (e : ℕ). tree_load g w ps e ≤ share_at e p) here (omega (arith, tree_load-last g w ps, last)))
          (λ (other : edge_numbers g ≡ r → ⊥). omega (arith, edges r, tree_load-edge g w ps r other))
          (cases_eq (edge_numbers g) r);
    }
