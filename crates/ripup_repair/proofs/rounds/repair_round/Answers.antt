use Rattle.std.proofs.Common.{◌≡◌, ◌++◌, ℕ, List, length, take, drop, refl, ◌∙◌, ap, arith}
use Rattle.ripup_repair.proofs.Common.{TableId, Piece, at_positions, repair_scale, with_elements, IsPass, Pass, pass_of}
use Rattle.ripup_repair.proofs.Common.{at_positions-long}
use Rattle.ripup_repair.proofs.Positions.{with_elements-back, with_elements-long}
use Rattle.ripup_repair.proofs.RoundFacts.{IsRound, as_many, begins_round, round_done, round_rising, round_within, serves_all}
use Rattle.ripup_repair.proofs.RoundFacts.{written_over}
use Rattle.ripup_repair.proofs.rounds.repair_round.Goals.{After-as_slice}
use Rattle.ripup_repair.proofs.rounds.repair_round.Goals as goal

-- the pass of the plan, which is a round
abbrev planned : (g : _) (c : After-as_slice g) → Pass
planned g c = pass_of c.args.design.now c.args.grounds.now c.args.routing.table c.as_slice.result.now
    c.args.routing.trees.items (record {
      positions = c.in_ok-positions.positions;
      scale = repair_scale;
      workers = c.args.left.workers;
      budget = c.args.left.budget;
    })

is_round : (g : _) (c : After-as_slice g) → IsRound (planned g c)
is_round g c = record {
  alone = c.as_slice.ensures.value ∙ c.new-others.ensures.items;
  positions = rw c.as_slice-before.ensures.value at c.in_ok-positions.ensures.positions;
  scale = refl;
}

is_pass : (g : _) (c : After-as_slice g) → IsPass (planned g c)
is_pass g c = begins_round (planned g c) (is_round g c) c.requires.grounds c.requires.words c.requires.workers c.requires.budget
    c.requires.routing

pub route_parts-requires-clause-pass : goal.route_parts-requires-clause-pass
route_parts-requires-clause-pass g c κs within =
    rw c.as_slice-before.ensures.value (is_pass g (goal.at.route_parts-requires-clause-pass g c).After-as_slice)

pub route_parts-requires-clause-share : goal.route_parts-requires-clause-share
route_parts-requires-clause-share g c κs within =
    let at = (goal.at.route_parts-requires-clause-share g c).After-as_slice in
    rw c.as_slice-before.ensures.value (serves_all (planned g at) c.args.routing.share (is_pass g at) (is_round g at)
    c.requires.routing c.requires.share
    (c.allotment.ensures.share.wide.shares ∙ ap (λ (t : TableId). t.words) c.requires.share.of_table ∙ c.requires.words)
    (rw c.as_slice-before.ensures.value at c.in_ok-positions.ensures.rising))

pub exchange-requires : goal.exchange-requires
exchange-requires g c =
    let at = (goal.at.exchange-requires g c).After-as_slice in
    rw (c.deref.ensures.value, c.deref_mut.ensures.value, c.deref_mut-2.ensures.value) (record {
      positions = round_within (planned g at) (is_round g at);
      rising = round_rising (planned g at) (is_round g at);
      long = as_many (is_pass g at) (rw c.as_slice-before.ensures.value at c.in_ok-share.ensures.turns);
    })

pub returns : goal.returns
returns g c =
    let trees : List (List Piece) = c.args.routing.trees.items in
    let sets : List (List Piece) = c.in_ok-share.sets.items in
    let ks : List ℕ = c.in_ok-positions.positions.items in
    let at = (goal.at.returns g c).After-as_slice in
    let put : take c.args.routing.trees.len (c.exchange.new.trees ++ drop (length c.exchange.new.trees) trees)
    ≡ with_elements trees ks sets =
    written_over _ _ _ (omega (arith, c.exchange.auto.trees, c.deref_mut.ensures.len))
    ∙ rw (c.deref.ensures.value, c.deref_mut.ensures.value, c.deref_mut-2.ensures.value) at c.exchange.ensures.trees in
    let taken : take c.in_ok-share.sets.len (c.exchange.new.sets ++ drop (length c.exchange.new.sets) sets)
    ≡ at_positions trees ks =
    written_over _ _ _ (omega (arith, c.exchange.auto.sets, c.deref_mut-2.ensures.len))
    ∙ rw (c.deref.ensures.value, c.deref_mut.ensures.value) at c.exchange.ensures.sets in
    let within = round_within (planned g at) (is_round g at) in
    let rising = round_rising (planned g at) (is_round g at) in
    let turns = rw c.as_slice-before.ensures.value at c.in_ok-share.ensures.turns in
    record {
      done = rw put (round_done (is_pass g at) (is_round g at) c.requires.routing c.requires.share turns);
      kept = (refl, refl);
      positions = (rw (put, with_elements-long trees ks sets) within, rising);
      sets = ap length taken ∙ at_positions-long trees ks within;
      back = rw (put, taken) (with_elements-back trees ks sets within rising (as_many (is_pass g at) turns));
    }
