-- The turns of one worker in one phase.
use Rattle.std.proofs.Common.{◌≡◌, ℕ, ◌+◌, ◌<◌, ◌≤◌, List, [], ◌∷◌, length, take, sym, ◌∙◌, ap, subst, arith, None, ◌++◌}
use Rattle.std.proofs.Common.{⊎_elim}
use Rattle.std.proofs.lemmas.Bool.{cases_lt}
use Rattle.std.proofs.lemmas.Option.{slice_get_within, get_or_from_slice_get}
use Rattle.std.proofs.lemmas.List.{take-append-le, take_all, length-append}
use Rattle.std.proofs.lemmas.List.Elements.{All-cons, All-nil}
use Rattle.std.proofs.Math.Seq.{take-append_seam}
use Rattle.grid_base.proofs.Lists.{At-push_cases}
use Rattle.grid_base.specs.declared.piece.Piece.{Piece}
use Rattle.grid_graph.specs.declared.design.Design.{Design}
use Rattle.grid_graph.specs.declared.net_spec.NetSpec.{NetSpec}
use Rattle.grid_base.specs.Lists.{At}
use Rattle.edge_prices.specs.Vectors.{IsLoadList}
use Rattle.tree_set.specs.Loads.{load_between, load_list}
use Rattle.even_parts.proofs.PartStarts.{first_start}
use Rattle.sharing_runs.specs.Parts.{part_start, stretch_start, IsInPart}
use Rattle.sharing_runs.specs.SharingRuns.{IsTurn, IsSharingRun}
use Rattle.sharing_runs.specs.NetSteps.{IsStep}
use Rattle.sharing_runs.proofs.Between.{load_on-between, load_on-first, load_list-at, take-none}

-- a stretch begins at its nets or before them
pub stretch_start-le : (part position : ℕ) → part ≤ position → stretch_start part position ≤ position
stretch_start-le part position behind = omega arith

-- what stands in a list of one element is that element, at the first place
at_one-place : {X : Type 0} (k : ℕ) (x y : X) → At (x ∷ []) k y → k ≡ 0
at_one-place k x y at = omega (arith, slice_get_within (x ∷ []) k y at)

at_one-is : {X : Type 0} (k : ℕ) (x y : X) → At (x ∷ []) k y → x ≡ y
at_one-is k x y at =
    get_or_from_slice_get (x ∷ []) 0 y x (subst (λ place. At (x ∷ []) place y) (at_one-place k x y at) at)

-- every net's set is a step from the load of the sets before it
pub record AreStepsInTurn (d : Design) (trees : List (List Piece)) : Type 0 where
  pub loads : (k : ℕ) → IsLoadList d.grid (load_list d.grid d.nets (take k trees))
  pub steps : (k : ℕ) (n : NetSpec) (tree : List Piece) → At d.nets k n → At trees k tree
      → IsStep d.grid n (load_list d.grid d.nets (take k trees)) 1 None tree

-- the turn of the net at a position, where a worker alone sees the load of all sets before it
turn_alone : (d : Design) (trees : List (List Piece)) (position : ℕ) → AreStepsInTurn d trees
    → IsTurn d 1 None [] trees 0 position (load_list d.grid d.nets (take position trees))
    (load_list d.grid d.nets (take (stretch_start (part_start 1 (length d.nets) 0) position) trees))
turn_alone d trees position turns =
    let start : ℕ = stretch_start (part_start 1 (length d.nets) 0) position in
    let behind : start ≤ position = stretch_start-le (part_start 1 (length d.nets) 0) position
    (omega (arith, first_start 1 (length d.nets))) in
    record {
      step = turns.steps position;
      loads = turns.loads position;
      since = λ r within. load_list-at d.grid d.nets (take position trees) r within
          ∙ load_on-between d.grid d.nets trees start position r behind
          ∙ ap (λ before. before + load_between d.grid d.nets trees start position r)
          (sym (load_list-at d.grid d.nets (take start trees) r within));
      alone = λ one r within. load_list-at d.grid d.nets (take position trees) r within
          ∙ load_on-first d.grid d.nets trees position r
          ∙ ap (λ first. load_between d.grid d.nets trees first position r) (sym (first_start 1 (length d.nets)))
          ∙ omega arith;
      beside = λ more. omega (arith, more);
    }

-- the turn of the net at a position in the one phase that there is
turn_in_phase : (d : Design) (trees others : List (List Piece)) (phase position worker : ℕ) → AreStepsInTurn d trees
    → At (trees ∷ []) phase others → IsInPart 1 (length d.nets) worker position
    → IsTurn d 1 None (take phase (trees ∷ [])) others worker position (load_list d.grid d.nets (take position trees))
    (load_list d.grid d.nets (take (stretch_start (part_start 1 (length d.nets) worker) position) trees))
turn_in_phase d trees others phase position worker turns at part =
    let only : worker ≡ 0 = omega (arith, part.worker_exists) in
    subst (λ (k : ℕ). IsTurn d 1 None (take k (trees ∷ [])) others worker position
    (load_list d.grid d.nets (take position trees))
    (load_list d.grid d.nets (take (stretch_start (part_start 1 (length d.nets) worker) position) trees)))
    (sym (at_one-place phase trees others at))
    (subst (λ (sets : List (List Piece)). IsTurn d 1 None [] sets worker position
    (load_list d.grid d.nets (take position trees))
    (load_list d.grid d.nets (take (stretch_start (part_start 1 (length d.nets) worker) position) trees)))
    (at_one-is phase trees others at)
    (subst (λ (w : ℕ). IsTurn d 1 None [] trees w position (load_list d.grid d.nets (take position trees))
    (load_list d.grid d.nets (take (stretch_start (part_start 1 (length d.nets) w) position) trees))) (sym only)
    (turn_alone d trees position turns)))

-- they are a sharing run
pub run_of_steps : (d : Design) (trees : List (List Piece)) → length trees ≡ length d.nets → AreStepsInTurn d trees
    → IsSharingRun d 1 None (trees ∷ [])
run_of_steps d trees long turns = record {
  some = omega arith;
  each = All-cons (λ (ts : List (List Piece)). length ts ≡ length d.nets) trees [] long
      (All-nil (λ (ts : List (List Piece)). length ts ≡ length d.nets));
  read = λ phase start. load_list d.grid d.nets (take start trees);
  read_loads = λ phase start. turns.loads start;
  seen = λ phase position. load_list d.grid d.nets (take position trees);
  turns = λ phase position worker others at part. turn_in_phase d trees others phase position worker turns at part;
}

-- no net was routed yet
pub AreStepsInTurn-none : (d : Design) → IsLoadList d.grid (load_list d.grid d.nets []) → AreStepsInTurn d []
AreStepsInTurn-none d loaded = record {
  loads = λ k. subst (λ (sets : List (List Piece)). IsLoadList d.grid (load_list d.grid d.nets sets))
      (sym (take-none k)) loaded;
  steps = λ k n tree at stands. absurd (omega (arith, slice_get_within [] k tree stands));
}

-- a step more
pub AreStepsInTurn-push : (d : Design) (trees : List (List Piece)) (tree : List Piece) → AreStepsInTurn d trees
    → IsLoadList d.grid (load_list d.grid d.nets (trees ++ tree ∷ []))
    → ((n : NetSpec) → At d.nets (length trees) n → IsStep d.grid n (load_list d.grid d.nets trees) 1 None tree)
    → AreStepsInTurn d (trees ++ tree ∷ [])
AreStepsInTurn-push d trees tree before loaded step =
    let all : List (List Piece) = trees ++ tree ∷ [] in
    let Loaded : List (List Piece) → Type 0 = λ sets. IsLoadList d.grid (load_list d.grid d.nets sets) in
    let StepAfter : List (List Piece) → NetSpec → List Piece
    → Type 0 = λ sets n t. IsStep d.grid n (load_list d.grid d.nets sets) 1 None t in
    record {
      loads = λ k. ⊎_elim
          (λ (within : k < length trees + 1). subst Loaded (sym (take-append-le k trees (tree ∷ []) (omega (arith, within))))
          (before.loads k))
          (λ (beyond : length trees + 1 ≤ k). subst Loaded
          (sym (take_all k all (omega (arith, beyond, length-append trees (tree ∷ []))))) loaded)
          (cases_lt k (length trees + 1));
      steps = λ k n t at stands. ⊎_elim
          (λ old. subst (λ sets. StepAfter sets n t)
          (sym (take-append-le k trees (tree ∷ []) (omega (arith, slice_get_within trees k t old))))
          (before.steps k n t at old))
          (λ last.
          subst (λ j. StepAfter (take j all) n t) (sym last.0)
          (subst (λ sets. StepAfter sets n t) (sym (take-append_seam trees (tree ∷ [])))
          (subst (λ u. StepAfter trees n u) (sym last.1) (step n (subst (λ j. At d.nets j n) last.0 at)))))
          (At-push_cases trees tree t k stands);
    }
