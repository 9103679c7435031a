use Rattle.std.proofs.Common.{◌≡◌, ◌<◌, ℕ, List, Result, Ok, Err, All, length, slice_index, sym, subst, arith}
use Rattle.std.specs.Prelude.{IfOk}
use Rattle.grid_base.specs.declared.no_memory.NoMemory.{NoMemory}
use Rattle.grid_base.specs.declared.size.Size.{Size}
use Rattle.grid_base.specs.Walks.{InPieces, WalkBetween}
use Rattle.groups.specs.declared.union_find.Groups.{Groups}
use Rattle.straight_runs.specs.declared.run.Run.{Run}
use Rattle.straight_runs.specs.Runs.{IsStraightRun, pieces_of}
use Rattle.straight_runs.specs.Touching.{AreGroups, first_of}
use Rattle.straight_runs.proofs.Chained.{walk_alone}
use Rattle.straight_runs.proofs.linking.single_runs.Goals as goal

alone : (s : Size) (runs : List Run) (result : Result Groups NoMemory) → All (IsStraightRun s) runs → IfOk result (λ groups. length groups.parents.items ≡ length runs) → IfOk result (λ groups. (i : ℕ) → i < length runs → slice_index groups.parents.items i ≡ i) → IfOk result (λ groups. AreGroups s runs groups)
alone s runs (Err e) all long own = tt
alone s runs (Ok groups) all long own = record {
  long = long;
  chained = λ i within.
      let inside : i < length runs = omega (arith, within, long) in
      subst (λ n. WalkBetween s (InPieces (pieces_of s runs)) (first_of runs i) (first_of runs n)) (sym (own i inside)) (walk_alone s runs i all inside);
}

pub returns : goal.returns
returns c = alone c.args.size c.args.runs.now c.single.result c.requires c.single.ensures.long c.single.ensures.own
