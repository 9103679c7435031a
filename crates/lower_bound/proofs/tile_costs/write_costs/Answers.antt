use Rattle.std.proofs.Common.{◌≡◌, ◌*◌, ◌<◌, ℕ, length, set, refl, sym, subst, ◌∙◌, ⊎_elim, arith, length-set, get_or-set_other}
use Rattle.std.proofs.lemmas.Bool.{cases_eq}
use Rattle.std.proofs.lemmas.Grind.{get_or-set_at}
use Rattle.grid_base.specs.declared.size.Size.{Size}
use Rattle.grid_base.specs.Numbers.{cols, rows, layers}
use Rattle.grid_graph.specs.Flat.{tiles}
use Rattle.lower_bound.specs.TileCosts.{IsLeastOn}
use Rattle.lower_bound.proofs.tile_costs.write_costs.Goals as goal

per_layer : (cols_is rows_is : ℕ) (s : Size) → cols_is ≡ cols s → rows_is ≡ rows s → cols_is * rows_is ≡ tiles s
per_layer cols_is rows_is s first second = rw (first, second) refl

pub loop-e-preserved : goal.loop-e-preserved
loop-e-preserved g c =
    let s = c.args.size in
    let pieces = g.W.Weights.pieces c.args.weights.now in
    let before = c.loop-e.invariant in
    let costs = c.loop-e.costs in
    let e = c.loop-e.e in
    let x = c.least_over.result in
    let P : ℕ → ℕ → Type 0 = λ k n. IsLeastOn s pieces k (layers s) n in
    let new = set costs e x in
    let inside : e < length costs = omega (arith, before.long, c.loop-e-test.true, per_layer c.cols.result c.rows.result s (c.cols.ensures) (c.rows.ensures)) in
    record {
      long = length-set costs e x ∙ before.long;
      each = λ k low. ⊎_elim
          (λ here. subst (P k) (sym (get_or-set_at costs e k x 0 here inside)) (subst (λ j. P j x) (sym here) c.least_over.ensures))
          (λ other. subst (P k) (sym (get_or-set_other costs e k x 0 other)) (before.each k (omega (arith, low, other))))
          (cases_eq k e);
    }

pub returns : goal.returns
returns g c = record {
  long = c.loop-e.invariant.long;
  each = λ e low. c.loop-e.invariant.each e (omega (arith, low, c.loop-e-test.false, per_layer c.cols.result c.rows.result c.args.size (c.cols.ensures) (c.rows.ensures)));
}
