-- The sets of a run are rising lists: each is a step of some turn.
use Rattle.std.proofs.Common.{◌≡◌, ℕ, zero, suc, ◌+◌, ◌<◌, ◌≤◌, Bool, true, false, List, [], length, get_or, All, Contains, sym, ◌∙◌, subst, ⊎_elim, arith}
use Rattle.std.specs.Prelude.{slice_index_or, Option}
use Rattle.std.specs.List.{range_with_len}
use Rattle.std.proofs.lemmas.Bool.{cases_Bool, cases_lt, both_ways}
use Rattle.std.proofs.lemmas.List.{get_or_past}
use Rattle.std.proofs.lemmas.List.Elements.{All-map}
use Rattle.std.proofs.lemmas.List.FromFn.{length-range_with_len, get_or-range_with_len, length-map-range_with_len}
use Rattle.std.proofs.lemmas.Option.{same_Some, slice_get_within, slice_get-get_or, get_or_from_slice_get}
use Rattle.grid_base.specs.declared.piece.Piece.{Piece}
use Rattle.grid_base.specs.Lists.{At}
use Rattle.grid_base.proofs.Chosen.{Contains-filter, left_by_filter}
use Rattle.grid_base.proofs.Lists.{At-from_member}
use Rattle.grid_graph.specs.declared.design.Design.{Design}
use Rattle.grid_graph.proofs.Grounds.{at_place}
use Rattle.routing_stages.specs.declared.settings.Settings.{Settings}
use Rattle.rounding_pick.specs.ChosenRoutings.{set_in_phase, chosen_routing}
use Rattle.rounding_pick.specs.Picks.{pick}
use Rattle.routing_passes.proofs.Positions.{AreWithin, at_positions-at, at_positions-long}
use Rattle.ripup_repair.proofs.RepairNets.{repair-within}
use Rattle.even_parts.proofs.PartStarts.{last_start}
use Rattle.routing_passes.proofs.Parts.{find_part}
use Rattle.sharing_runs.specs.Parts.{part_start}
use Rattle.sharing_runs.specs.RepairRuns.{at_positions, holds_overfull, nets_to_repair, IsRepairRound, IsRepairRun}
use Rattle.sharing_runs.specs.SharingRuns.{IsSharingRun}
use Rattle.tree_set.specs.Loads.{load}
use Rattle.tree_set.specs.Order.{IsRising}
use Rattle.tree_set.proofs.Order.{empty-IsRising}
use Rattle.router_cli.specs.RouterRuns.{IsRouterRun, workers_on}

-- one rising list for each net
record AreSets (d : Design) (trees : List (List Piece)) : Type 0 where
  long : length trees ≡ length d.nets
  rising : All IsRising trees

-- ---- phases and picks

-- where there are workers, each position is in the part of one
part_of : (workers nets position : ℕ) → 1 ≤ workers → position < nets → position < part_start workers nets workers
part_of workers nets position some inside = omega (arith, inside, last_start workers nets some)

phase_rises : (d : Design) (workers : ℕ) (budget : Option ℕ) (phases : List (List (List Piece))) (phase position : ℕ) → IsSharingRun d workers budget phases
    → position < length d.nets → phase < length phases → IsRising (slice_index_or (slice_index_or phases phase []) position [])
phase_rises d workers budget phases phase position run inside some =
    let trees = slice_index_or phases phase [] in
    let at_phase : At phases phase trees = slice_get-get_or phases phase [] some in
    let long : length trees ≡ length d.nets = run.each phase [] some in
    let tree = slice_index_or trees position [] in
    let at_tree : At trees position tree = slice_get-get_or trees position [] (omega (arith, inside, long)) in
    let net = at_place d.nets position inside in
    let part = find_part workers (length d.nets) position workers (omega arith) (part_of workers (length d.nets) position run.some inside) in
    let turn = run.turns phase position part.0 trees at_phase part.1 in
    (turn.step net.0 tree net.1 at_tree).set

picked_rises : (d : Design) (workers : ℕ) (budget : Option ℕ) (phases : List (List (List Piece))) (phase position : ℕ) → IsSharingRun d workers budget phases
    → position < length d.nets → IsRising (set_in_phase phases phase position)
picked_rises d workers budget phases phase position run inside =
    ⊎_elim
    (λ (some : phase < length phases). phase_rises d workers budget phases phase position run inside some)
    (λ (past : length phases ≤ phase).
    let none : slice_index_or phases phase [] ≡ [] = get_or_past phases phase [] past in
    subst (λ trees. IsRising (slice_index_or trees position [])) (sym none) empty-IsRising)
    (cases_lt phase (length phases))

picked_are_sets : (d : Design) (workers : ℕ) (budget : Option ℕ) (seed : ℕ) (phases : List (List (List Piece))) → IsSharingRun d workers budget phases
    → AreSets d (chosen_routing seed phases (length d.nets))
picked_are_sets d workers budget seed phases run =
    let n = length d.nets in
    let f : ℕ → List Piece = λ position. set_in_phase phases (pick seed position (length phases)) position in
    record {
      long = length-map-range_with_len f 0 n;
      rising = All-map IsRising f (range_with_len 0 n) (λ k e below.
          let position = get_or (range_with_len 0 n) k e in
          let inside : position < n = omega (arith, below, length-range_with_len 0 n, get_or-range_with_len 0 n k e (omega (arith, below, length-range_with_len 0 n))) in
          picked_rises d workers budget phases (pick seed position (length phases)) position run inside);
    }

-- ---- rounds of repair

repaired_rises : (d : Design) (workers : ℕ) (budget : Option ℕ) (before after : List (List Piece)) (read seen : ℕ → List ℕ) (position : ℕ) (tree : List Piece) → 1 ≤ workers
    → length before ≡ length d.nets → IsRepairRound d workers budget before after read seen → At after position tree → Contains (nets_to_repair d before) position → IsRising tree
repaired_rises d workers budget before after read seen position tree some long round at due =
    let ks = nets_to_repair d before in
    let within_nets : AreWithin d.nets ks = λ k e below. omega (arith, long, repair-within d before k e below) in
    let within_after : AreWithin after ks = λ k e below. omega (arith, round.long, repair-within d before k e below) in
    let turn = At-from_member ks position due in
    let net = at_place d.nets position (omega (arith, slice_get_within after position tree at, round.long, long)) in
    let at_net = at_positions-at d.nets ks turn.0 position net.0 within_nets turn.2 net.1 in
    let at_tree = at_positions-at after ks turn.0 position tree within_after turn.2 at in
    let count = length (at_positions d.nets ks) in
    let inside : turn.0 < count = omega (arith, turn.1, at_positions-long d.nets ks within_nets) in
    let part = find_part workers count turn.0 workers (omega arith) (part_of workers count turn.0 some inside) in
    ((round.turns turn.0 part.0 part.1).step net.0 tree at_net at_tree).set

kept_rises : (d : Design) (workers : ℕ) (budget : Option ℕ) (before after : List (List Piece)) (read seen : ℕ → List ℕ) (position : ℕ) (tree : List Piece)
    → AreSets d before → IsRepairRound d workers budget before after read seen → At after position tree → ¬ Contains (nets_to_repair d before) position → IsRising tree
kept_rises d workers budget before after read seen position tree sets round at kept =
    let inside : position < length before = omega (arith, slice_get_within after position tree at, round.long) in
    let same : tree ≡ slice_index_or before position [] = sym (get_or_from_slice_get after position tree [] at) ∙ round.others position kept in
    subst IsRising (sym same) (sets.rising position [] inside)

round_keeps_sets : (d : Design) (workers : ℕ) (budget : Option ℕ) (before after : List (List Piece)) (read seen : ℕ → List ℕ) → 1 ≤ workers
    → AreSets d before → IsRepairRound d workers budget before after read seen → AreSets d after
round_keeps_sets d workers budget before after read seen some sets round =
    let due : ℕ → Bool = λ position. holds_overfull d.grid (load d.grid d.nets before) (slice_index_or before position []) in
    let positions = range_with_len 0 (length before) in
    record {
      long = round.long ∙ sets.long;
      rising = λ k e below.
          let tree = get_or after k e in
          let at : At after k tree = slice_get-get_or after k e below in
          let inside : k < length before = omega (arith, below, round.long) in
          let place : get_or positions k k ≡ k = omega (arith, get_or-range_with_len 0 (length before) k k inside) in
          let listed : Contains positions k = (k, omega (arith, inside, length-range_with_len 0 (length before)), place) in
          ⊎_elim
          (λ (is : due k ≡ true). repaired_rises d workers budget before after read seen k tree some sets.long round at (Contains-filter due positions k is listed))
          (λ (not : due k ≡ false). kept_rises d workers budget before after read seen k tree sets round at (λ held. both_ways (due k) not (left_by_filter due positions k held).1))
          (cases_Bool (due k));
    }

routings_are_sets : (d : Design) (workers : ℕ) (budget : Option ℕ) (rounds : ℕ) (routings : List (List (List Piece))) (first : List (List Piece))
    → IsRepairRun d workers budget rounds routings → At routings 0 first → AreSets d first → (k : ℕ) (trees : List (List Piece)) → At routings k trees → AreSets d trees
routings_are_sets d workers budget rounds routings first run begins sets zero trees at = subst (AreSets d) (same_Some first trees (sym begins ∙ at)) sets
routings_are_sets d workers budget rounds routings first run begins sets (suc k) trees at =
    let before = at_place routings k (omega (arith, slice_get_within routings (suc k) trees at)) in
    let next : suc k ≡ k + 1 = omega arith in
    let round = run.each k before.0 trees before.1 (subst (λ (j : ℕ). At routings j trees) next at) in
    round_keeps_sets d workers budget before.0 trees (run.read k) (run.seen k) run.some (routings_are_sets d workers budget rounds routings first run begins sets k before.0 before.1) round

-- ---- the run

-- the sets of a run of the router are rising lists
pub run_rises : (d : Design) (s : Settings) (trees : List (List Piece)) (prices : List ℕ) (rounded rounds : ℕ) → IsRouterRun d s trees prices rounded rounds → All IsRising trees
run_rises d s trees prices rounded rounds run =
    let workers = workers_on d s in
    let picked : AreSets d run.picked = subst (AreSets d) (sym run.picks) (picked_are_sets d workers s.budget s.seed run.phases run.sharing) in
    (routings_are_sets d workers s.budget s.rounds run.routings run.picked run.repairs run.begins picked run.result.round trees run.result.stands).rising
