-- One phase after another.
use Rattle.std.proofs.Common.{◌≡◌, ℕ, ◌+◌, ◌-◌, ◌≤◌, ◌<◌, List, [], ◌∷◌, ◌++◌, length, get_or, take, slice_range}
use Rattle.std.proofs.Common.{replicate, Option, All, refl, sym, ◌∙◌, ap, arith, ⊎_elim}
use Rattle.std.specs.List.{range_with_len, sum_by}
use Rattle.std.proofs.Math.Seq.{take-append_seam}
use Rattle.std.proofs.lemmas.List.{take_all, take-append-le, length-append, length-replicate, drop-replicate, take-replicate}
use Rattle.std.proofs.lemmas.List.Elements.{All-push, All-nil, All-head, All-tail}
use Rattle.std.proofs.lemmas.List.Sums.{sum_by-cons, sum_by-append}
use Rattle.std.proofs.lemmas.Option.{slice_get_within}
use Rattle.std.proofs.lemmas.Slice.Zip.{AllZip-long}
use Rattle.grid_base.proofs.Lists.{At-push_cases, AllZip-from_places}
use Rattle.grid_base.specs.declared.piece.Piece.{Piece}
use Rattle.grid_graph.specs.declared.design.Design.{Design}
use Rattle.grid_graph.specs.Grids.{entries}
use Rattle.edge_prices.specs.Vectors.{IsLoadList}
use Rattle.load_core.specs.Parties.{share_at, first_party}
use Rattle.load_core.proofs.Entries.{zeros}
use Rattle.atomic_table.specs.Seated.{TableId}
use Rattle.load_table.specs.Holdings.{Holding, held}
use Rattle.tree_set.specs.Loads.{load_on, load_between}
use Rattle.sharing_runs.specs.Parts.{part_start, stretch_start, IsInPart}
use Rattle.sharing_runs.specs.SharingRuns.{IsTurn}
use Rattle.sharing_runs.proofs.Between.{load_on-first}
use Rattle.tree_set.specs.Routings.{IsRoute, IsRouting}
use Rattle.routing_stages.specs.Phases.{phases_load}
use Rattle.even_parts.proofs.PartStarts.{all_parts, first_start, last_start}
use Rattle.routing_passes.specs.Histories.{parts_history}
use Rattle.routing_passes.specs.Passes.{AreSets, IsPass, Pass, ServesTurns, all_load, old_load, old_sets, pass_nets}
use Rattle.routing_passes.specs.Passes.{staying_load, turns_start}
use Rattle.routing_passes.specs.PassTurns.{HadTurns, IsPassTurn, load_in_turns, new_load, start_of}
use Rattle.routing_passes.proofs.Parts.{find_part, in_design}
use Rattle.routing_passes.proofs.PartSteps.{routing_pieces}
use Rattle.routing_passes.proofs.Positions.{at_positions-all}
use Rattle.routing_passes.proofs.Ranges.{flat_map-more, flat_map-same, until, until-below, until-from, until-all}
use Rattle.routing_passes.proofs.Sums.{no_load}
use Rattle.routing_passes.proofs.TurnSteps.{first_turn}
use Rattle.routing_passes.proofs.WorkerSteps.{zeros_are_loads}
use Rattle.sharing_phases.specs.Histories.{run_history, IsRecordedRun}
use Rattle.sharing_phases.specs.PhaseWords.{IsRunSoFar, empty_sets}

-- routings are sets for all nets
pub routings_are_sets : (d : Design) (phases : List (List (List Piece))) → All (IsRouting d.grid d.nets) phases
    → All (AreSets d) phases
routings_are_sets d phases routings k e short = record {
  long = AllZip-long (IsRoute d.grid) d.nets (get_or phases k e) (routings k e short);
  pieces = routing_pieces d.grid d.nets (get_or phases k e) (routings k e short);
}

-- sums whose terms are the same
sum_by-same : {X : Type 0} (P : X → Type 0) (f g : X → ℕ) (xs : List X) → All P xs → ((x : X) → P x → f x ≡ g x)
    → sum_by f xs ≡ sum_by g xs
sum_by-same P f g [] all same = refl
sum_by-same P f g (x ∷ xs) all same =
    rw (sum_by-cons f, sum_by-cons g, same x (All-head P x xs all), sum_by-same P f g xs (All-tail P x xs all) same)

-- the load of one phase more
phases_load-more : (d : Design) (phases : List (List (List Piece))) (sets : List (List Piece)) (r : ℕ)
    → phases_load d.grid d.nets (phases ++ sets ∷ []) r ≡ phases_load d.grid d.nets phases r + load_on d.grid d.nets sets r
phases_load-more d phases sets r =
    sum_by-append (λ trees. load_on d.grid d.nets trees r) phases (sets ∷ [])
    ∙ omega (arith, sum_by-cons (λ trees. load_on d.grid d.nets trees r) sets [])

-- the readings of a phase more
run_history-more : (workers nets : ℕ) (f : ℕ → ℕ → List ℕ) (g : ℕ → List ℕ) (phases : ℕ)
    → run_history workers nets (until phases f (λ k. g)) (phases + 1)
    ≡ run_history workers nets f phases ++ parts_history workers nets g 0 workers
run_history-more workers nets f g phases =
    let both : ℕ → ℕ → List ℕ = until phases f (λ k. g) in
    let last : both (0 + phases) ≡ g = until-from phases f (λ k. g) (0 + phases) (omega arith) in
    let before : run_history workers nets both phases ≡ run_history workers nets f phases =
    flat_map-same (λ phase. parts_history workers nets (both phase) 0 workers)
    (λ phase. parts_history workers nets (f phase) 0 workers) 0 phases
    (λ i low high. rw (until-below phases f (λ k. g) i (omega (arith, high)))) in
    rw (flat_map-more, last, before)

-- a pass over all nets, whose old sets are empty
pub record IsPhase (p : Pass) : Type 0 where
  pub pass : IsPass p
  pub all : p.positions ≡ range_with_len 0 (length p.design.nets)
  pub none : p.before ≡ empty_sets (length p.design.nets)
  pub scale : p.scale ≡ 1

module _ {p : Pass} (phase : IsPhase p) where
  -- its nets are those of the design
  phase_nets : pass_nets p ≡ p.design.nets
  phase_nets = rw (phase.all, at_positions-all p.design.nets (length p.design.nets) refl)

  starts_at : turns_start p 0 ≡ 0
  starts_at = first_start p.workers (length (pass_nets p))

  ends_at : turns_start p p.workers ≡ length p.design.nets
  ends_at = last_start p.workers (length (pass_nets p)) phase.pass.some ∙ ap length phase_nets

  -- the old sets have no load
  no_old_load : (a b r : ℕ) → b ≤ length p.design.nets → old_load p a b r ≡ 0
  no_old_load a b r most =
      let n : ℕ = length p.design.nets in
      let none : List (List Piece) = empty_sets n in
      let olds : old_sets p ≡ none = rw (phase.none, phase.all, at_positions-all none n (length-replicate n [])) in
      let part : slice_range none a b ≡ replicate (b - a) [] =
      ap (take (b - a)) (drop-replicate a n []) ∙ take-replicate (b - a) (n - a) [] (omega (arith, most)) in
      rw (olds, part) (no_load p.design.grid (slice_range (pass_nets p) a b) (b - a) r)

  -- the load of the sets that stay is that of the earlier phases
  earlier_load : (a b r : ℕ)
      → staying_load p a b r ≡ sum_by (λ trees. load_between p.design.grid (pass_nets p) trees a b r) p.earlier
  earlier_load a b r = sum_by-same (AreSets p.design) _ _ p.earlier phase.pass.earlier
      (λ trees sets. rw (phase.all, at_positions-all trees (length p.design.nets) sets.long))

  -- between the first position and the last it is all of it
  earlier_load-whole : (r : ℕ)
      → sum_by (λ trees. load_between p.design.grid p.design.nets trees 0 (length p.design.nets) r) p.earlier
      ≡ phases_load p.design.grid p.design.nets p.earlier r
  earlier_load-whole r = sum_by-same (AreSets p.design) _ _ p.earlier phase.pass.earlier
      (λ trees sets. rw (← load_on-first, take_all (length p.design.nets) trees (omega (arith, sets.long))))

  -- before the phase there is no other load
  all_is_earlier : (r : ℕ) → all_load p r ≡ phases_load p.design.grid p.design.nets p.earlier r
  all_is_earlier r = rw (phase.none, no_load) (omega arith)

  -- the turn of a net in a phase
  phase_turn : {trees : List (List Piece)} {worker position : ℕ} {seen read : List ℕ}
      → IsInPart p.workers (length p.design.nets) worker position → IsPassTurn p trees worker position seen read
      → IsTurn p.design p.workers p.budget p.earlier trees worker position seen read
  phase_turn {trees} {worker} {position} part turn =
      let d : Design = p.design in
      let n : ℕ = length d.nets in
      let within : position + 1 ≤ n = omega (arith, in_design phase.pass.some part) in
      record {
        step = λ m tree stands has. rw phase.scale at (turn.step m tree (rw phase_nets stands) has);
        loads = turn.loads;
        since = λ r inside. rw (← phase_nets)
            (omega (arith, turn.since r inside, no_old_load (start_of p worker position) (position + 1) r within));
        alone = λ one r inside.
            let first : part_start p.workers n worker ≡ 0 = first_turn one part in
            let only : worker + 1 ≡ p.workers = omega (arith, one, part.worker_exists) in
            let load : load_in_turns p trees 0 position r ≡ load_between d.grid d.nets trees 0 position r = rw phase_nets in
            rw (first, only, last_start p.workers n phase.pass.some, earlier_load-whole r)
            (omega (arith, turn.alone one r inside, no_old_load 0 (position + 1) r within, all_is_earlier r, load));
        beside = λ more r inside. rw (← phase_nets) (omega (
          arith,
          turn.beside more r inside,
          earlier_load (turns_start p worker) (turns_start p (worker + 1)) r,
        ));
      }

  -- the one share serves all workers of the phase
  pub serves_all : {share : Holding} → IsRunSoFar p.design p.workers p.budget p.table share p.earlier
      → ServesTurns p 0 p.workers share
  serves_all run = record {
    table = run.of_table;
    allot = omega (arith, phase.pass.workers, run.allot);
    whole = λ one. run.allot;
    alone = λ one r within. run.loads r within ∙ sym (all_is_earlier r);
    loads = λ r within.
        let olds : old_load p 0 (length p.design.nets) r ≡ 0 = no_old_load 0 (length p.design.nets) r (omega arith) in
        let stay = earlier_load 0 (length p.design.nets) r in
        rw (starts_at, ends_at, olds, stay, phase_nets, earlier_load-whole r) (omega (arith, run.loads r within));
    few = λ r. omega (arith, run.few r, phase.pass.lists);
  }

-- a phase, whose workers have had their turns
module _ {p : Pass} {old new : Holding} {sets : List (List Piece)} (phase : IsPhase p)
    (had : HadTurns p 0 p.workers old new sets) where
  long : length sets ≡ length p.design.nets
  long = had.turns.long ∙ omega (arith, starts_at phase, ends_at phase)

  turns : (position worker : ℕ) → IsInPart p.workers (length p.design.nets) worker position
      → IsTurn p.design p.workers p.budget p.earlier sets worker position (had.seen position)
      (had.read (stretch_start (part_start p.workers (length p.design.nets) worker) position))
  turns position worker part =
      let within : position < length p.design.nets = in_design phase.pass.some part in
      let whole : slice_range sets (turns_start p 0) (turns_start p p.workers) ≡ sets =
      all_parts p.workers (length (pass_nets p)) sets phase.pass.some (long ∙ sym (ap length (phase_nets phase))) in
      rw (phase_nets phase) at (phase_turn phase part (had.turns.turns sets position worker whole
      (omega (arith, starts_at phase)) (omega (arith, within, ends_at phase)) (rw (phase_nets phase) part)))

  routing : IsRouting p.design.grid p.design.nets sets
  routing = AllZip-from_places (IsRoute p.design.grid) p.design.nets sets long
      (λ k m tree at stands.
      let nets : ℕ = length p.design.nets in
      let within : k < part_start p.workers nets p.workers =
      omega (arith, slice_get_within p.design.nets k m at, last_start p.workers nets phase.pass.some) in
      let found = find_part p.workers nets k p.workers (omega arith) within in
      ((turns k found.0 found.1).step m tree at stands).route)

  -- a recorded run of one phase more
  recorded_more : IsRecordedRun p.design p.workers p.budget p.earlier old.party.history
      → IsRecordedRun p.design p.workers p.budget (p.earlier ++ sets ∷ []) new.party.history
  recorded_more before =
      let phases : List (List (List Piece)) = p.earlier in
      let k : ℕ = length phases in
      let count : length (phases ++ sets ∷ []) ≡ k + 1 = length-append phases (sets ∷ []) in
      let all : p.workers - 0 ≡ p.workers = omega arith in
      let histories = run_history-more p.workers (length p.design.nets) before.run.read had.read k in
      record {
        run = record {
          some = phase.pass.some;
          each = All-push (λ (trees : List (List Piece)). length trees ≡ length p.design.nets) phases sets before.run.each long;
          read = until k before.run.read (λ j. had.read);
          read_loads = until-all (λ (reads : ℕ → List ℕ). (start : ℕ) → IsLoadList p.design.grid (reads start)) k before.run.read
              (λ j. had.read) before.run.read_loads (λ j. had.turns.read_loads);
          seen = until k before.run.seen (λ j. had.seen);
          turns = λ j position w trees at part. ⊎_elim
              (λ first.
              let early : j < k = slice_get_within phases j trees first in
              let same : take j (phases ++ sets ∷ []) ≡ take j phases =
              take-append-le j phases (sets ∷ []) (omega (arith, early)) in
              rw (same, until-below k before.run.seen (λ i. had.seen) j early)
              (rw (until-below k before.run.read (λ i. had.read) j early) (before.run.turns j position w trees first part)))
              (λ last.
              let now : k ≤ j = omega (arith, last.0) in
              rw (until-from k before.run.seen (λ i. had.seen) j now, until-from k before.run.read (λ i. had.read) j now)
              (rw (last.0, last.1, take-append_seam phases (sets ∷ [])) (turns position w part)))
              (At-push_cases phases sets trees j at);
        };
        recorded = rw (count, histories, had.history, before.recorded, phase_nets phase, all);
      }

  -- a phase more
  pub IsRunSoFar-push : IsRunSoFar p.design p.workers p.budget p.table old p.earlier
      → IsRunSoFar p.design p.workers p.budget p.table new (p.earlier ++ sets ∷ [])
  IsRunSoFar-push before =
      let d : Design = p.design in
      let count : length (p.earlier ++ sets ∷ []) ≡ length p.earlier + 1 = length-append p.earlier (sets ∷ []) in
      let olds : (r : ℕ) → old_load p (turns_start p 0) (turns_start p p.workers) r ≡ 0 =
      λ r. no_old_load phase (turns_start p 0) (turns_start p p.workers) r (omega (arith, ends_at phase)) in
      let news : (r : ℕ) → new_load p (turns_start p 0) sets r ≡ load_on d.grid d.nets sets r =
      λ r. rw (starts_at phase, phase_nets phase) in
      record {
        recorded = recorded_more before.recorded;
        routings = All-push (IsRouting d.grid d.nets) p.earlier sets before.routings routing;
        of_table = had.table ∙ before.of_table;
        allot = had.allot ∙ before.allot;
        loads = λ r within. omega
            (arith, had.shares r, olds r, before.loads r within, news r, phases_load-more d p.earlier sets r);
        few = λ r. omega (arith, had.shares r, before.few r, had.few r, long, count, d.limits.count);
      }

-- before the first phase
pub run_begins : {d : Design} {workers : ℕ} {budget : Option ℕ} {table : TableId} {share : Holding} (words : ℕ) → 1 ≤ workers
    → share ≡ held table (first_party words) → IsRunSoFar d workers budget table share []
run_begins {d} words some first = record {
  recorded = record {
    run = record {
      some = some;
      each = All-nil (λ (trees : List (List Piece)). length trees ≡ length d.nets);
      read = λ phase k. replicate (entries d.grid) 0;
      read_loads = λ phase k. zeros_are_loads d.grid;
      seen = λ phase k. replicate (entries d.grid) 0;
      turns = λ phase k w trees at part. absurd (omega (arith, slice_get_within [] phase trees at));
    };
    recorded = ap (λ (h : Holding). h.party.history) first;
  };
  routings = All-nil (IsRouting d.grid d.nets);
  of_table = ap (λ (h : Holding). h.table) first;
  allot = ap (λ (h : Holding). h.party.allot) first;
  loads = λ r within. ap (λ (h : Holding). share_at r h.party) first ∙ zeros words r;
  few = λ r. omega (arith, ap (λ (h : Holding). share_at r h.party) first, zeros words r);
}
