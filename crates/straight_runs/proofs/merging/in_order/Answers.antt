use Rattle.std.proofs.Common.{◌≡◌, ℕ, Global, List, Result, Ok, Err, Vec, map, sym, ◌∙◌, ap, subst, rules}
use Rattle.std.specs.List.Sorted.{IsNonDecreasingBy, IsPermutation}
use Rattle.std.specs.Prelude.{IfOk}
use Rattle.std.proofs.lemmas.List.Sorted.{IsNonDecreasingBy-from_sort_by_key}
use Rattle.grid_base.specs.declared.no_memory.NoMemory.{NoMemory}
use Rattle.grid_base.specs.declared.size.Size.{Size}
use Rattle.straight_runs.specs.declared.run.Run.{Run}
use Rattle.straight_runs.specs.Runs.{numbered, run_number}
use Rattle.straight_runs.proofs.Numbered.{run_of, runs_moved, numbers_stay, runs_sorted}
use Rattle.straight_runs.proofs.merging.in_order.Goals as goal

-- what holds of these runs holds of an answer that is them
carried : (P : List Run → Type 0) (runs : List Run) (result : Result (Vec Run Global) NoMemory) → P runs → IfOk result (λ made. made.items ≡ runs) → IfOk result (λ made. P made.items)
carried P runs (Ok made) held is = subst P (sym is) held
carried P runs (Err e) held is = tt

pairs_moved : (s : Size) (given : List Run) (pairs sorted : List (ℕ × Run)) → pairs ≡ map (numbered s) given → IsPermutation pairs sorted → IsPermutation (map (numbered s) given) sorted
pairs_moved s given pairs sorted are moves = subst (λ ps. IsPermutation ps sorted) are moves

pub returns-clause-same : goal.returns-clause-same
returns-clause-same c =
    let s = c.args.size in
    let given = c.args.runs.items in
    let sorted = c.sort_unstable_by_key.new.self.items in
    let are : c.in_ok-pairs.pairs.items ≡ map (numbered s) given = c.in_ok-pairs.ensures ∙ ap (λ runs. map (numbered s) runs) c.as_slice.ensures.value in
    let moves = pairs_moved s given c.in_ok-pairs.pairs.items sorted are c.sort_unstable_by_key.ensures.permutation in
    carried (IsPermutation given) (map run_of sorted) c.runs_of.result (runs_moved s given sorted moves)
    (subst (λ pairs. IfOk c.runs_of.result (λ made. made.items ≡ map run_of pairs)) c.as_slice-2.ensures.value c.runs_of.ensures)

pub returns-clause-sorted : goal.returns-clause-sorted
returns-clause-sorted c =
    let s = c.args.size in
    let given = c.args.runs.items in
    let sorted = c.sort_unstable_by_key.new.self.items in
    let are : c.in_ok-pairs.pairs.items ≡ map (numbered s) given = c.in_ok-pairs.ensures ∙ ap (λ runs. map (numbered s) runs) c.as_slice.ensures.value in
    let moves = pairs_moved s given c.in_ok-pairs.pairs.items sorted are c.sort_unstable_by_key.ensures.permutation in
    let up = IsNonDecreasingBy-from_sort_by_key (λ (pair : ℕ × Run). pair.0) _ c.sort_unstable_by_key.ensures.sorted (λ a r q k. search rules) in
    carried (IsNonDecreasingBy (run_number s)) (map run_of sorted) c.runs_of.result (runs_sorted s sorted (numbers_stay s given sorted moves) up)
    (subst (λ pairs. IfOk c.runs_of.result (λ made. made.items ≡ map run_of pairs)) c.as_slice-2.ensures.value c.runs_of.ensures)
