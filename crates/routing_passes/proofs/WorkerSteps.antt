-- A worker in its turns: what a reading and the turn of a net make of it.
use Rattle.std.proofs.Common.{◌≡◌, ◌≢◌, ℕ, ◌+◌, ◌-◌, ◌%◌, ◌≤◌, ◌<◌, ◌==◌, true, false, List, [], ◌∷◌, ◌++◌, length, drop}
use Rattle.std.proofs.Common.{replicate, slice_index, slice_range, sym, ◌∙◌, ap, subst, arith, ⊎_elim, eq-eqb, ne_eqb}
use Rattle.std.proofs.Math.ListN.{drop_of_length-le}
use Rattle.std.proofs.Math.Nat.{sub_self}
use Rattle.std.proofs.Math.Seq.{set-append_seam}
use Rattle.std.proofs.lemmas.Bool.{cases_eq, cases_lt}
use Rattle.std.proofs.lemmas.List.{append_assoc, append-nil, length-replicate, drop-append-le, length-append, length-drop}
use Rattle.std.proofs.lemmas.List.FromFn.{length-map-range_with_len}
use Rattle.std.proofs.lemmas.Option.{same_Some}
use Rattle.grid_base.specs.declared.piece.Piece.{Piece}
use Rattle.grid_base.specs.Lists.{At}
use Rattle.grid_graph.specs.declared.grid.Grid.{Grid}
use Rattle.grid_graph.specs.declared.net_spec.NetSpec.{NetSpec}
use Rattle.grid_graph.specs.Grids.{entries, size_of, IsNetWidth}
use Rattle.grid_graph.specs.Limits.{max_nets}
use Rattle.edge_prices.specs.Vectors.{IsLoadList}
use Rattle.load_core.specs.declared.party.Party.{Party}
use Rattle.load_core.specs.Parties.{share_at}
use Rattle.load_core.proofs.Entries.{zeros}
use Rattle.atomic_table.specs.Seated.{TableId}
use Rattle.load_table.specs.Holdings.{Holding}
use Rattle.tree_set.specs.Loads.{max_tree_load, tree_load}
use Rattle.tree_set.specs.Routings.{ArePieces}
use Rattle.sharing_runs.specs.NetSteps.{IsStep}
use Rattle.sharing_runs.specs.Parts.{nets_per_reading, IsInPart}
use Rattle.sharing_runs.proofs.Between.{load_on-none}
use Rattle.price_workers.specs.declared.worker.Worker.{Worker}
use Rattle.price_workers.specs.Readings.{after_reading, AreCloseTo}
use Rattle.price_workers.specs.TreeLoads.{without_tree, HoldsTree}
use Rattle.price_workers.specs.Workers.{party_of, trees_of, held_share, seen_loads, worked_grid, worked_scale, worked_budget}
use Rattle.price_workers.specs.Workers.{KeepsWork, MayRoute, IsRepriced, IsUnchanged, WorksOn}
use Rattle.price_workers.proofs.NetLoads.{tree_load-beyond}
use Rattle.price_workers.proofs.Taken.{without_tree-at}
use Rattle.price_workers.proofs.TurnFacts.{route_pieces}
use Rattle.routing_passes.specs.Histories.{nets_history}
use Rattle.routing_passes.specs.Passes.{Pass, HasRead, ServesTurns, all_load, old_load, old_sets, pass_nets, turns_start}
use Rattle.routing_passes.specs.PassTurns.{AreTurns, HadTurns, IsMidway, IsPassTurn, IsWithinPart}
use Rattle.routing_passes.specs.PassTurns.{load_in_turns, new_load, start_of}
use Rattle.routing_passes.proofs.Ranges.{until, until-below, until-from, until-all}
use Rattle.routing_passes.proofs.Readings.{nets_history-begins, nets_history-goes_on, parts_history-one}
use Rattle.routing_passes.proofs.Slices.{At-seam, slice-cons, slice-first, slice-last, slice-rest}
use Rattle.routing_passes.proofs.Sums.{load_between-here, load_between-next, load_between-none, load_between-split}
use Rattle.routing_passes.proofs.Sums.{load_on-behind_push}
use Rattle.routing_passes.proofs.TreeLimits.{tree_load-within}
use Rattle.routing_passes.proofs.TurnSteps.{AreTurns-none, AreTurns-push, AreTurns-reread, first_turn}

-- what a worker sees are loads of its grid
seen_are_loads : {g : Grid} {table : TableId} {w : Worker} → WorksOn g table w → IsLoadList g (seen_loads w)
seen_are_loads {w} works = subst (λ (h : Grid). IsLoadList h (seen_loads w)) works.on_grid w.kept.kept.loaded

works-kept : {g : Grid} {table : TableId} {old new : Worker} → KeepsWork old new → WorksOn g table old → WorksOn g table new
works-kept kept works = record { on_grid = kept.grid ∙ works.on_grid; on_table = kept.table ∙ works.on_table }

-- a reading of zeros
pub zeros_are_loads : (g : Grid) → IsLoadList g (replicate (entries g) 0)
zeros_are_loads g = record { long = length-replicate (entries g) 0; within = λ r. omega (arith, zeros (entries g) r) }

-- the loads without a set are loads
without_loads : {g : Grid} (width : ℕ) (before : List Piece) (loads : List ℕ) → IsLoadList g loads
    → IsLoadList g (without_tree g width before loads)
without_loads {g} width before loads are = record {
  long = length-map-range_with_len (λ r. slice_index loads r - tree_load g width before r) 0 (length loads) ∙ are.long;
  within = λ r. omega (arith, without_tree-at g width before loads r, are.within r);
}

-- what a worker sees without the set of a net
abbrev seen_without : Pass → NetSpec → List Piece → Worker → List ℕ
seen_without p n before w = without_tree p.design.grid n.width before (seen_loads w)

-- a worker before a turn, and when it has read where it has to
module _ {p : Pass} {worker turn : ℕ} {first : Holding} {old new : Worker} (kept : KeepsWork old new)
    (w : IsWithinPart p worker first turn turn old) where
  -- of its party the history alone may differ, and the last reading
  after_read : (party : Party) (read : ℕ → List ℕ)
      → party_of new ≡ record (party_of old) { last = party.last; history = party.history }
      → party.history ≡ first.party.history ++ nets_history read (turns_start p worker) (turn + 1 - turns_start p worker)
      → trees_of new ≡ trees_of old → AreTurns p (turns_start p worker) turn w.sets read w.seen
      → IsMidway p (turns_start p worker) read turn w.sets new → IsWithinPart p worker first turn (turn + 1) new
  after_read party read same history trees turns midway = record {
    sets = w.sets;
    read = read;
    seen = w.seen;
    turns = turns;
    trees = trees ∙ w.trees;
    history = ap (λ (q : Party). q.history) same ∙ history;
    allot = ap (λ (q : Party). q.allot) same ∙ w.allot;
    shares = λ r. ap (λ (q : Party). share_at r q + old_load p (turns_start p worker) turn r) same ∙ w.shares r;
    few = w.few;
    works = works-kept kept w.works;
    scale = kept.scale ∙ w.scale;
    budgeted = kept.budget ∙ w.budgeted;
    midway = λ inside. midway;
  }

  -- it has read where a stretch begins
  read_where_due : (turn - turns_start p worker) % nets_per_reading ≡ 0 → HasRead p.table old new
      → IsWithinPart p worker first turn (turn + 1) new
  read_where_due due has =
      let a : ℕ = turns_start p worker in
      let now : List ℕ = seen_loads new in
      let read : ℕ → List ℕ = until turn w.read (λ k. now) in
      let here : start_of p worker turn ≡ turn = omega (arith, due, w.turns.before) in
      let latest : read turn ≡ now = until-from turn w.read (λ k. now) turn (omega arith) in
      let nothing : drop (turn - a) w.sets ≡ [] = drop_of_length-le w.sets {i = turn - a} (omega (arith, w.turns.long)) in
      let none : (r : ℕ) → old_load p turn turn r ≡ 0 = load_between-none p.design.grid (pass_nets p) (old_sets p) turn in
      after_read (after_reading (party_of old) now) read (ap (λ (h : Holding). h.party) has.reading)
      (rw (w.history, nets_history-begins w.read a turn now w.turns.before due, append_assoc)) has.trees
      (AreTurns-reread (λ s low. until-below turn w.read (λ k. now) s low)
      (until-all (λ (l : List ℕ). IsLoadList p.design.grid l) turn w.read (λ k. now) w.turns.read_loads
      (λ k. seen_are_loads (works-kept kept w.works))) w.turns)
      (record {
        refreshed = has.refreshed;
        since = has.since ∙ sym due;
        sees = λ r. rw (here, latest, none r, nothing, load_on-none);
      })

  -- it needs no reading in the middle of one
  read_where_not_due : (turn - turns_start p worker) % nets_per_reading ≢ 0 → IsUnchanged old new
      → IsWithinPart p worker first turn (turn + 1) new
  read_where_not_due midway same =
      let a : ℕ = turns_start p worker in
      let mid : IsMidway p a w.read turn w.sets old = w.midway (omega (arith, midway, w.turns.before)) in
      after_read (party_of old) w.read (ap (λ (h : Holding). h.party) same.share)
      (rw (nets_history-goes_on w.read a turn w.turns.before midway) w.history) same.trees w.turns
      (record {
        refreshed = same.refreshed ∙ mid.refreshed;
        since = same.since ∙ mid.since;
        sees = λ r. rw same.seen (mid.sees r);
      })

  -- whether or not a reading was due
  pub read_either : ((turn - turns_start p worker) % nets_per_reading == 0 ≡ true → HasRead p.table old new)
      → ((turn - turns_start p worker) % nets_per_reading == 0 ≡ false → IsUnchanged old new)
      → IsWithinPart p worker first turn (turn + 1) new
  read_either read same =
      let over : ℕ = (turn - turns_start p worker) % nets_per_reading in
      ⊎_elim (λ (due : over ≡ 0). read_where_due due (read (eq-eqb over 0 due)))
      (λ (other : over ≡ 0 → ⊥). read_where_not_due other (same (ne_eqb over 0 other))) (cases_eq over 0)

-- the net of a turn, and the set that it had
pub record IsTurnOf (p : Pass) (worker turn : ℕ) (n : NetSpec) (before : List Piece) : Type 0 where
  pub part : IsInPart p.workers (length (pass_nets p)) worker turn
  pub net : At (pass_nets p) turn n
  pub had : At (old_sets p) turn before
  pub width : IsNetWidth p.design.grid n.width
  pub pieces : ArePieces (size_of p.design.grid) before

-- the turn of a net, for which its worker has read
module _ {p : Pass} {worker turn : ℕ} {first : Holding} {n : NetSpec} {before : List Piece} {w : Worker}
    (serves : ServesTurns p worker (worker + 1) first) (of : IsTurnOf p worker turn n before)
    (within : IsWithinPart p worker first turn (turn + 1) w) where
  mid : IsMidway p (turns_start p worker) within.read turn within.sets w
  mid = within.midway (omega (arith, within.turns.before))

  close : AreCloseTo (party_of w) (seen_loads w)
  close = w.working.close mid.refreshed

  -- where the worker has the old set of the net, and among what stands behind it
  at_own_place : trees_of w ≡ within.sets ++ before ∷ slice_range (old_sets p) (turn + 1) (turns_start p (worker + 1))
  at_own_place = within.trees
      ∙ ap (λ l. within.sets ++ l) (slice-cons (old_sets p) turn (turns_start p (worker + 1)) before of.had of.part.before)

  pub own_set : At (trees_of w) (turn - turns_start p worker) before
  own_set = rw (at_own_place, ← within.turns.long)
      (At-seam within.sets before (slice_range (old_sets p) (turn + 1) (turns_start p (worker + 1))))

  -- the load of the old sets, with that of the turn
  old_load-next : (a r : ℕ) → a ≤ turn
      → old_load p a (turn + 1) r ≡ old_load p a turn r + tree_load p.design.grid n.width before r
  old_load-next a r low = load_between-next p.design.grid (pass_nets p) (old_sets p) a turn n before r of.net of.had low

  -- and of the new ones
  new_load-push : (a : ℕ) (sets : List (List Piece)) (tree : List Piece) (r : ℕ) → a ≤ turn → length sets ≡ turn - a
      → new_load p a (sets ++ tree ∷ []) r ≡ new_load p a sets r + tree_load p.design.grid n.width tree r
  new_load-push a sets tree r low long = load_on-behind_push p.design.grid (pass_nets p) a turn sets n tree r of.net low long

  -- that of the old sets of the part, with that of the turn between those before it and those behind it
  old_load-parted : (r : ℕ) → old_load p (turns_start p worker) (turns_start p (worker + 1)) r
      ≡ old_load p (turns_start p worker) turn r + tree_load p.design.grid n.width before r
      + old_load p (turn + 1) (turns_start p (worker + 1)) r
  old_load-parted r =
      let a : ℕ = turns_start p worker in
      let b : ℕ = turns_start p (worker + 1) in
      load_between-split p.design.grid (pass_nets p) (old_sets p) a (turn + 1) b r (omega (arith, within.turns.before))
      (omega (arith, of.part.before))
      ∙ ap (λ load. load + old_load p (turn + 1) b r) (old_load-next a r within.turns.before)

  -- the load of the old set is still in the share
  pub still_had : HoldsTree p.design.grid n.width before (party_of w)
  still_had = record {
    pieces = of.pieces;
    had = λ r. ⊎_elim
        (λ (inside : r < entries p.design.grid). omega (arith, within.shares r, serves.loads r inside, old_load-parted r))
        (λ (beyond : entries p.design.grid ≤ r).
        rw (tree_load-beyond p.design.grid n.width before r of.pieces beyond) (omega arith))
        (cases_lt r (entries p.design.grid));
  }

  -- without it less is seen
  less : (r : ℕ)
      → slice_index (seen_without p n before w) r + tree_load p.design.grid n.width before r ≡ slice_index (seen_loads w) r
  less r = omega (arith, without_tree-at p.design.grid n.width before (seen_loads w) r, still_had.had r, close r)

  -- the turn, by what is seen then
  seen_turn : (all : List (List Piece)) (tree : List Piece)
      → IsStep p.design.grid n (seen_without p n before w) (worked_scale w) (worked_budget w) tree
      → slice_range all (turns_start p worker) (turn + 1) ≡ within.sets ++ tree ∷ []
      → IsPassTurn p all worker turn (seen_without p n before w) (within.read (start_of p worker turn))
  seen_turn all tree step here =
      let g : Grid = p.design.grid in
      let nets : List NetSpec = pass_nets p in
      let a : ℕ = turns_start p worker in
      let start : ℕ = start_of p worker turn in
      let sets : List (List Piece) = within.sets in
      let now : List ℕ = seen_without p n before w in
      let low : a ≤ turn = within.turns.before in
      let from : a ≤ start = omega (arith, low) in
      let to : start ≤ turn = omega (arith, low) in
      let front : slice_range all a turn ≡ sets =
      slice-first all sets (tree ∷ []) a turn (turn + 1) here within.turns.long (omega arith) in
      let rest : slice_range all start turn ≡ drop (start - a) sets =
      slice-rest all a start turn from to ∙ ap (drop (start - a)) front in
      let fronts : (r : ℕ) → load_in_turns p all a turn r ≡ new_load p a sets r =
      λ r. load_between-here g nets all sets a turn r front in
      record {
        step = λ m t at stands.
            let net : m ≡ n = same_Some m n (sym at ∙ of.net) in
            let set : tree ≡ t = slice-last all sets tree t a turn here within.turns.long low stands in
            rw (net, ← set, ← within.scale, ← within.budgeted) step;
        loads = without_loads n.width before (seen_loads w) (seen_are_loads within.works);
        since = λ r inside. rw (load_between-here g nets all (drop (start - a) sets) start turn r rest)
            (omega (arith, less r, mid.sees r, old_load-next start r to));
        alone = λ one r inside.
            let none : a ≡ 0 = first_turn one of.part in
            subst (λ k. slice_index now r + old_load p k (turn + 1) r ≡ all_load p r + load_in_turns p all k turn r) none
            (rw (fronts r) (omega (arith, less r, close r, serves.alone one r inside, within.shares r, old_load-next a r low)));
        beside = λ more r inside. rw (fronts r)
            (omega (arith, less r, close r, within.shares r, serves.loads r inside, old_load-parted r));
      }

  -- after the turn
  pub reprice_in_part : {at : ℕ} {new : Worker} → 0 < p.workers → at ≡ turn - turns_start p worker
      → IsRepriced p.design.grid n at before w new → KeepsWork w new → IsWithinPart p worker first (turn + 1) (turn + 1) new
  reprice_in_part {at} {new} some place priced kept =
      let g : Grid = p.design.grid in
      let a : ℕ = turns_start p worker in
      let low : a ≤ turn = within.turns.before in
      let tree : List Piece = priced.tree in
      let sets : List (List Piece) = within.sets in
      let party : party_of new ≡ record (party_of w) { shares = (party_of new).shares } = priced.counted.party in
      let most : (r : ℕ) → tree_load g n.width tree r ≤ max_tree_load =
      λ r. tree_load-within g n.width tree r of.width priced.step.set (route_pieces g n tree priced.step.route) in
      let gained : (r : ℕ) → slice_index (seen_loads new) r + tree_load g n.width before r
      ≡ slice_index (seen_loads w) r + tree_load g n.width tree r = λ r. omega (arith, priced.seen r, less r) in
      let shared : (r : ℕ) → share_at r (party_of new) + tree_load g n.width before r
      ≡ share_at r (party_of w) + tree_load g n.width tree r =
      λ r. omega (arith, priced.share r, without_tree-at g n.width before (party_of w).shares r, still_had.had r) in
      let pushed : (r : ℕ) → new_load p a (sets ++ tree ∷ []) r ≡ new_load p a sets r + tree_load g n.width tree r =
      λ r. new_load-push a sets tree r low within.turns.long in
      record {
        sets = sets ++ tree ∷ [];
        read = within.read;
        seen = until turn within.seen (λ k. seen_without p n before w);
        turns = AreTurns-push tree (seen_without p n before w) some of.part (λ all here. seen_turn all tree priced.step here)
            within.turns;
        trees = rw (priced.trees, at_own_place, place, ← within.turns.long, set-append_seam, append_assoc);
        history = ap (λ (q : Party). q.history) party ∙ within.history;
        allot = ap (λ (q : Party). q.allot) party ∙ within.allot;
        shares = λ r. omega (arith, shared r, within.shares r, old_load-next a r low, pushed r);
        few = λ r. omega (arith, within.few r, pushed r, length-append sets (tree ∷ []), most r);
        works = works-kept kept within.works;
        scale = kept.scale ∙ within.scale;
        budgeted = kept.budget ∙ within.budgeted;
        midway = λ inside.
            let s : ℕ = start_of p worker turn in
            let from : a ≤ s = omega (arith, low) in
            let to : s ≤ turn = omega (arith, low) in
            let going : (turn + 1 - a) % nets_per_reading ≢ 0 = λ ends. omega (arith, low, inside, ends) in
            let same : start_of p worker (turn + 1) ≡ s = omega (arith, low, going) in
            let few : s - a ≤ length sets = omega (arith, within.turns.long, from, to) in
            let later = λ (r : ℕ). new_load-push s (drop (s - a) sets) tree r to
            (length-drop (s - a) sets ∙ omega (arith, within.turns.long, from, to)) in
            record {
              refreshed = priced.counted.refreshed;
              since = priced.counted.since ∙ omega (arith, mid.since, going, low);
              sees = λ r. rw (same, drop-append-le (s - a) sets (tree ∷ []) few)
                  (omega (arith, gained r, mid.sees r, old_load-next s r to, later r));
            };
      }

  -- the turn may be
  pub may_repair : (most : ℕ) → turn < most → most ≤ max_nets → MayRoute w
  may_repair most inside few = record {
    refreshed = mid.refreshed;
    few = omega (arith, mid.since);
    room = λ r.
        omega (arith, within.shares r, within.few r, serves.few r, serves.allot, within.allot, within.turns.long, inside, few);
  }

-- before the first turn of its part
pub begins_turns : {p : Pass} {worker : ℕ} {first : Holding} {w : Worker}
    → held_share w ≡ first → first.table ≡ p.table
    → trees_of w ≡ slice_range (old_sets p) (turns_start p worker) (turns_start p (worker + 1))
    → worked_grid w ≡ p.design.grid → worked_scale w ≡ p.scale → worked_budget w ≡ p.budget
    → IsWithinPart p worker first (turns_start p worker) (turns_start p worker) w
begins_turns {p} {worker} held on_table olds grid scale budgeted =
    let a : ℕ = turns_start p worker in
    let g : Grid = p.design.grid in
    let read : ℕ → List ℕ = λ k. replicate (entries g) 0 in
    let nothing : (r : ℕ) → new_load p a [] r ≡ 0 = load_on-none g (drop a (pass_nets p)) in
    record {
      sets = [];
      read = read;
      seen = read;
      turns = AreTurns-none p a read (λ k. zeros_are_loads g);
      trees = olds;
      history = ap (λ (h : Holding). h.party.history) held ∙ rw (sub_self a, append-nil);
      allot = ap (λ (h : Holding). h.party.allot) held;
      shares = λ r. rw (load_between-none g (pass_nets p) (old_sets p) a r, nothing r)
          (ap (λ (h : Holding). share_at r h.party + 0) held);
      few = λ r. omega (arith, nothing r);
      works = record { on_grid = grid; on_table = ap (λ (h : Holding). h.table) held ∙ on_table };
      scale = scale;
      budgeted = budgeted;
      midway = λ within. absurd (omega (arith, within));
    }

-- when all nets of its part had their turns
pub ends_turns : {p : Pass} {worker : ℕ} {first : Holding} {w : Worker} → first.table ≡ p.table
    → IsWithinPart p worker first (turns_start p (worker + 1)) (turns_start p (worker + 1)) w
    → HadTurns p worker (worker + 1) first (held_share w) (trees_of w)
ends_turns {p} {worker} {w} on_table within =
    let b : ℕ = turns_start p (worker + 1) in
    let one : worker + 1 - worker ≡ 1 = omega arith in
    let all : trees_of w ≡ within.sets = within.trees ∙ rw (sub_self b, append-nil) in
    record {
      read = within.read;
      seen = within.seen;
      turns = rw all within.turns;
      history = rw (one, parts_history-one p.workers (length (pass_nets p)) within.read worker) within.history;
      table = within.works.on_table ∙ sym on_table;
      allot = within.allot;
      shares = λ r. rw (← all) at (within.shares r);
      few = λ r. rw all (within.few r);
    }
