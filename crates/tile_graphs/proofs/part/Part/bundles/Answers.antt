use Rattle.std.proofs.Common.{◌≡◌, ◌<◌, ◌/◌, ◌^◌, List, Vec, Global, sym, subst}
use Rattle.std.specs.Prelude.{IsPermutation}
use Rattle.std.proofs.lemmas.Result.{IfOk-weaker}
use Rattle.tile_graphs.specs.declared.bundles.Bundle.{Bundle}
use Rattle.tile_graphs.specs.Bundles.{AreTight, CostAlike, demand_of_bundles, much_of}
use Rattle.tile_graphs.specs.Fullness.{in_word}
use Rattle.std.proofs.lemmas.List.Sorted.{sum_by-IsPermutation}
use Rattle.tile_graphs.proofs.Merging.{alike_in_order}
use Rattle.tile_graphs.proofs.part.Part.bundles.Goals as goal

pub returns-clause-bundled : goal.returns-clause-bundled
returns-clause-bundled c =
    let nets = c.args.self.now.nets.items in
    let sorted = c.as_slice.result.now in
    let order = subst (λ (xs : List Bundle). IsPermutation nets xs) (sym c.as_slice.ensures.value) c.sort_unstable.ensures.permutation in
    IfOk-weaker c.merged.result (λ (bundles : Vec Bundle Global). demand_of_bundles sorted < 2 ^ 64 → CostAlike bundles.items sorted)
    (λ (bundles : Vec Bundle Global). demand_of_bundles nets < 2 ^ 64 → CostAlike bundles.items nets)
    (λ bundles alike. alike_in_order bundles.items sorted nets order alike) c.merged.ensures.alike

pub returns-clause-tight : goal.returns-clause-tight
returns-clause-tight c =
    let nets = c.args.self.now.nets.items in
    let sorted = c.as_slice.result.now in
    let order = subst (λ (xs : List Bundle). IsPermutation nets xs) (sym c.as_slice.ensures.value) c.sort_unstable.ensures.permutation in
    let same : demand_of_bundles nets ≡ demand_of_bundles sorted = sym (sum_by-IsPermutation (λ b. b.demand) nets sorted order) in
    IfOk-weaker c.merged.result (λ (bundles : Vec Bundle Global). AreTight (much_of sorted) bundles.items)
    (λ (bundles : Vec Bundle Global). AreTight (much_of nets) bundles.items)
    (λ bundles tight. subst (λ n. AreTight (in_word n / 1000) bundles.items) (sym same) tight) c.merged.ensures.tight
