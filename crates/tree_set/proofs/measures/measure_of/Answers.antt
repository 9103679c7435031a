use Rattle.std.proofs.Common.{◌≡◌, ℕ, slice_index, List, ◌∙◌, ap, arith}
use Rattle.std.proofs.lemmas.Grind.{common_steps}
use Rattle.tree_set.specs.Loads.{load}
use Rattle.tree_set.proofs.measures.measure_of.Goals as goal

summed : (c : goal.After-drop-loads) → (e : ℕ) → slice_index c.as_slice.result.now e ≡ load c.args.design.now.grid c.args.design.now.nets c.args.trees.now e
summed c e =
    let same : c.as_slice.result.now ≡ c.add_all.new.loads = grind (arith, common_steps, c.add_all.auto.loads) in
    ap (λ (xs : List ℕ). slice_index xs e) same ∙ c.add_all.ensures.value e

pub returns-clause-overflow : goal.returns-clause-overflow
returns-clause-overflow c = c.measure_of_loads.ensures.overflow (load c.args.design.now.grid c.args.design.now.nets c.args.trees.now) (summed c)

pub returns-clause-peak : goal.returns-clause-peak
returns-clause-peak c = c.measure_of_loads.ensures.peak (load c.args.design.now.grid c.args.design.now.nets c.args.trees.now) (summed c)
