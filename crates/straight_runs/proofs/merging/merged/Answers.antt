use Rattle.std.proofs.Common.{All, Global, List, Result, Ok, Err, Vec, sym, subst}
use Rattle.std.specs.List.Sorted.{IsNonDecreasingBy, IsPermutation}
use Rattle.std.specs.Prelude.{IfOk}
use Rattle.std.proofs.lemmas.List.Sorted.{All-permutation}
use Rattle.grid_base.specs.declared.no_memory.NoMemory.{NoMemory}
use Rattle.grid_base.specs.declared.size.Size.{Size}
use Rattle.straight_runs.specs.declared.run.Run.{Run}
use Rattle.straight_runs.specs.Merging.{AreMerged}
use Rattle.straight_runs.specs.Runs.{IsStraightRun, run_number}
use Rattle.straight_runs.proofs.Merges.{merged_in_order}
use Rattle.straight_runs.proofs.merging.merged.Goals as goal

pub join_neighbours-requires-clause-runs : goal.join_neighbours-requires-clause-runs
join_neighbours-requires-clause-runs c =
    subst (λ runs. All (IsStraightRun c.args.size) runs) (sym c.as_slice.ensures.value)
    (All-permutation (IsStraightRun c.args.size) c.args.runs.items c.in_ok-sorted.sorted.items c.in_ok-sorted.ensures.same c.requires.runs)

pub join_neighbours-requires-clause-sorted : goal.join_neighbours-requires-clause-sorted
join_neighbours-requires-clause-sorted c =
    subst (λ runs. IsNonDecreasingBy (run_number c.args.size) runs) (sym c.as_slice.ensures.value) c.in_ok-sorted.ensures.sorted

ordered : (s : Size) (given sorted : List Run) (result : Result (Vec Run Global) NoMemory) → IsPermutation given sorted → IfOk result (λ kept. AreMerged s sorted kept.items) → IfOk result (λ kept. AreMerged s given kept.items)
ordered s given sorted (Ok kept) moves merged = merged_in_order s given sorted kept.items moves merged
ordered s given sorted (Err e) moves merged = tt

pub returns : goal.returns
returns c =
    ordered c.args.size c.args.runs.items c.in_ok-sorted.sorted.items c.join_neighbours.result c.in_ok-sorted.ensures.same
    (subst (λ runs. IfOk c.join_neighbours.result (λ kept. AreMerged c.args.size runs kept.items)) c.as_slice.ensures.value c.join_neighbours.ensures)
