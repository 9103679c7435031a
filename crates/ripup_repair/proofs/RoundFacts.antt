-- A round of repair as a whole: what its workers begin with, and what they leave.
use Rattle.std.proofs.Common.{◌≡◌, ℕ, ◌+◌, ◌-◌, ◌≤◌, ◌<◌, List, [], ◌++◌, length, replicate, take, drop, get_or, slice_range, All}
use Rattle.std.proofs.Common.{sym, ◌∙◌, ap, subst, arith, ⊎_elim}
use Rattle.ripup_repair.proofs.Common.{take-append_seam, cases_lt, get_or_past, length-replicate, All-nil, get_or_from_slice_get}
use Rattle.ripup_repair.proofs.Common.{slice_get-get_or, slice_get_within, AllZip-long, Piece, Design, entries, Holding}
use Rattle.ripup_repair.proofs.Common.{load_on, IsRising, IsRoute, IsRouting, IsRepairTurn, nets_to_repair, repair_scale}
use Rattle.ripup_repair.proofs.Common.{load_between-here, no_load, with_elements, IsPass, Pass, ServesTurns, AreSets, old_load}
use Rattle.ripup_repair.proofs.Common.{old_sets, pass_nets, positions_load, turns_start, HasLoadOf, IsRoundDone, AreWithin}
use Rattle.ripup_repair.proofs.Common.{at_positions-at, at_positions-long, routing_pieces, sets_within}
use Rattle.grid_graph.specs.Grounds.{AreGrounds}
use Rattle.edge_prices.specs.Limits.{IsBudget}
use Rattle.routing_stages.specs.Limits.{max_workers}
use Rattle.sharing_runs.specs.Parts.{IsInPart}
use Rattle.routing_passes.specs.Histories.{parts_history}
use Rattle.even_parts.proofs.PartStarts.{all_parts, first_start, last_start}
use Rattle.routing_passes.proofs.Parts.{find_part}
use Rattle.routing_stages.specs.Phases.{phases_load}
use Rattle.routing_passes.specs.PassTurns.{HadTurns, IsPassTurn, start_of}
use Rattle.ripup_repair.proofs.Exchanges.{load_on-with, load_on-within, routing-with}
use Rattle.ripup_repair.proofs.RepairNets.{repair-few, repair-rising, repair-within}
use Rattle.ripup_repair.proofs.Positions.{AreRising, at_positions-with, with_elements-long, with_elements-other}
use Rattle.routing_passes.proofs.PassSplits.{turns_start-le}

-- the sets at some positions have no more load than all
pub load_on-part : (p : Pass) (r : ℕ) → IsPass p → AreRising p.positions
    → load_on p.design.grid (pass_nets p) (old_sets p) r ≤ load_on p.design.grid p.design.nets p.before r
load_on-part p r round rising =
    let none : List (List Piece) = replicate (length p.positions) [] in
    omega (
      arith,
      load_on-with p.design.grid p.design.nets p.before p.positions none r round.before.long round.nets rising
          (length-replicate (length p.positions) []),
      no_load p.design.grid (pass_nets p) (length p.positions) r,
    )

-- the load of the old sets of all turns
old_whole : (p : Pass) (r : ℕ) → IsPass p
    → old_load p (turns_start p 0) (turns_start p p.workers) r ≡ load_on p.design.grid (pass_nets p) (old_sets p) r
old_whole p r round =
    let n : ℕ = length (pass_nets p) in
    let long : length (old_sets p) ≡ n = at_positions-long p.before p.positions (sets_within p round)
    ∙ sym (at_positions-long p.design.nets p.positions round.nets) in
    load_between-here p.design.grid (pass_nets p) (old_sets p) (old_sets p) (turns_start p 0) (turns_start p p.workers) r
    (all_parts p.workers n (old_sets p) round.some long)
    ∙ ap (λ k. load_on p.design.grid (drop k (pass_nets p)) (old_sets p) r) (first_start p.workers n)

-- a pass that is a round: no other sets are in the table, and the nets that are to be repaired get new ones, at prices of the
-- scale of repair
pub record IsRound (p : Pass) : Type 0 where
  pub alone : p.earlier ≡ []
  pub positions : p.positions ≡ nets_to_repair p.design p.before
  pub scale : p.scale ≡ repair_scale

pub round_rising : (p : Pass) → IsRound p → AreRising p.positions
round_rising p its = rw its.positions (repair-rising p.design p.before)

pub round_within : (p : Pass) → IsRound p → AreWithin p.before p.positions
round_within p its = rw its.positions (repair-within p.design p.before)

-- the one share serves all workers of a round
pub serves_all : (p : Pass) (share : Holding) → IsPass p → IsRound p → IsRouting p.design.grid p.design.nets p.before
    → HasLoadOf p.design p.table p.before share → length share.party.shares ≡ entries p.design.grid → All IsRising p.before
    → ServesTurns p 0 p.workers share
serves_all p share pass its routing has wide rising =
    let d : Design = p.design in
    let a : ℕ = turns_start p 0 in
    let b : ℕ = turns_start p p.workers in
    record {
      table = has.of_table;
      allot = omega (arith, has.allot, pass.workers);
      whole = λ one. has.allot;
      alone = λ one r within. omega (
        arith,
        has.loads r within,
        ap (λ (lists : List (List (List Piece))). phases_load d.grid d.nets lists r) its.alone,
      );
      loads = λ r within. omega (
        arith,
        ap (λ (lists : List (List (List Piece))). positions_load d lists p.positions a b r) its.alone,
        old_whole p r pass,
        load_on-part p r pass (round_rising p its),
        has.loads r within,
      );
      few = λ r. ⊎_elim
          (λ (within : r < entries d.grid).
          omega (
            arith,
            has.loads r within,
            load_on-within d.grid d.nets p.before r (λ k n at. (d.limits.net k n at).width)
                (λ k t at. subst IsRising (get_or_from_slice_get p.before k t t at)
                (rising k t (slice_get_within p.before k t at))) routing,
            d.limits.count,
          ))
          (λ (beyond : entries d.grid ≤ r). omega (arith, get_or_past share.party.shares r 0 (omega (arith, beyond, wide))))
          (cases_lt r (entries d.grid));
    }

-- the nets that are to be repaired make a pass
pub begins_round : (p : Pass) → IsRound p → AreGrounds p.design.grid p.design.nets p.grounds
    → p.table.words ≡ entries p.design.grid → (1 ≤ p.workers) × (p.workers ≤ max_workers) → IsBudget p.budget
    → IsRouting p.design.grid p.design.nets p.before → IsPass p
begins_round p its are words some within routing =
    let long : length p.before ≡ length p.design.nets = AllZip-long (IsRoute p.design.grid) p.design.nets p.before routing in
    record {
      grounds = are;
      words = words;
      some = some.0;
      workers = some.1;
      scale = rw its.scale (omega arith, omega arith);
      budget = within;
      earlier = rw its.alone (All-nil (AreSets p.design));
      lists = rw its.alone (omega arith);
      before = record { long = long; pieces = routing_pieces p.design.grid p.design.nets p.before routing };
      nets = λ k e short. omega (arith, round_within p its k e short, long);
      few = omega (arith, ap length its.positions, repair-few p.design p.before, long, p.design.limits.count);
    }

-- as many nets had their turns as are to be repaired
pub as_many : {p : Pass} {old new : Holding} {sets : List (List Piece)} → IsPass p → HadTurns p 0 p.workers old new sets
    → length sets ≡ length p.positions
as_many {p = p} pass had =
    let n : ℕ = length (pass_nets p) in
    had.turns.long ∙ omega (
      arith,
      first_start p.workers n,
      last_start p.workers n pass.some,
      at_positions-long p.design.nets p.positions pass.nets,
    )

-- a whole list was written over another
pub written_over : {X : Type 0} (n : ℕ) (xs ys : List X) → n ≡ length xs → take n (xs ++ drop (length xs) ys) ≡ xs
written_over n xs ys long = ap (λ k. take k (xs ++ drop (length xs) ys)) long ∙ take-append_seam xs (drop (length xs) ys)

-- the turn of a net in a round
repair_turn : (p : Pass) (sets : List (List Piece)) (worker turn : ℕ) (seen read : List ℕ) → IsRound p
    → IsPassTurn p sets worker turn seen read
    → IsRepairTurn p.design.grid p.workers p.budget (load_on p.design.grid p.design.nets p.before) (pass_nets p) (old_sets p) sets
    worker turn seen read
repair_turn p sets worker turn seen read its had = record {
  step = rw (← its.scale) had.step;
  loads = had.loads;
  since = had.since;
  alone = λ one r within. omega (
    arith,
    had.alone one r within,
    ap (λ (lists : List (List (List Piece))). phases_load p.design.grid p.design.nets lists r) its.alone,
  );
  beside = λ more r within. omega (arith, had.beside more r within);
}

-- all nets that are to be repaired had their turns
pub round_done : {p : Pass} {old new : Holding} {sets : List (List Piece)} → IsPass p → IsRound p
    → IsRouting p.design.grid p.design.nets p.before → HasLoadOf p.design p.table p.before old
    → HadTurns p 0 p.workers old new sets
    → IsRoundDone p.design p.workers p.budget p.table old new p.before (with_elements p.before p.positions sets)
round_done {p = p} {old = old} {new = new} {sets = sets} pass its routed has had =
    let d : Design = p.design in
    let ks : List ℕ = p.positions in
    let before : List (List Piece) = p.before in
    let n : ℕ = length (pass_nets p) in
    let many : n ≡ length ks = at_positions-long d.nets ks pass.nets in
    let first : turns_start p 0 ≡ 0 = first_start p.workers n in
    let last : turns_start p p.workers ≡ n = last_start p.workers n pass.some in
    let even : length sets ≡ length ks = as_many pass had in
    let whole : slice_range sets (turns_start p 0) (turns_start p p.workers) ≡ sets =
    all_parts p.workers n sets pass.some (even ∙ sym many) in
    let at_turn : (turn worker : ℕ) → IsInPart p.workers n worker turn
    → IsRepairTurn d.grid p.workers p.budget (load_on d.grid d.nets before) (pass_nets p) (old_sets p) sets worker turn
    (had.seen turn) (had.read (start_of p worker turn)) =
    λ turn worker part. repair_turn p sets worker turn (had.seen turn) (had.read (start_of p worker turn)) its
    (had.turns.turns sets turn worker whole (omega (arith, first)) (omega
    (arith, part.before, turns_start-le p (worker + 1) p.workers pass.some (omega (arith, part.worker_exists)))) part) in
    let all_workers : p.workers - 0 ≡ p.workers = omega arith in
    record {
      read = had.read;
      read_loads = had.turns.read_loads;
      seen = had.seen;
      round = record {
        long = with_elements-long before ks sets;
        others = rw (← its.positions) (λ position other. with_elements-other before ks sets position []
            (λ i e short same. other (
              i,
              short,
              get_or_from_slice_get ks i (get_or ks i e) position
                  (slice_get-get_or ks i e short) ∙ same,
            )));
        turns = rw (← its.positions, at_positions-with before ks sets (round_within p its) (round_rising p its) even)
            (λ turn worker. at_turn turn worker);
      };
      routing = routing-with d.grid d.nets before ks sets routed pass.nets
          (λ i k m y at net here.
          let found = find_part p.workers n i p.workers (omega arith) (omega (arith, slice_get_within ks i k at, many, last)) in
          ((at_turn i found.0 found.1).step m y (at_positions-at d.nets ks i k m pass.nets at net) here).route);
      share = record {
        of_table = had.table ∙ has.of_table;
        allot = had.allot ∙ has.allot;
        loads = λ r within. omega (
          arith,
          had.shares r,
          has.loads r within,
          old_whole p r pass,
          ap (λ k. load_on d.grid (drop k (pass_nets p)) sets r) first,
          load_on-with d.grid d.nets before ks sets r pass.before.long pass.nets (round_rising p its) even,
        );
      };
      history = had.history
          ∙ ap (λ k. old.party.history ++ parts_history p.workers n had.read 0 k) all_workers
          ∙ ap (λ k. old.party.history ++ parts_history p.workers k had.read 0 p.workers) (many ∙ ap length its.positions);
    }
