use Rattle.std.proofs.Common.{◌≡◌, ◌<◌, ◌+◌, ◌*◌, ◌∷◌, [], ℕ, List, length, refl, ◌∙◌, ap, arith}
use Rattle.std.proofs.lemmas.List.{length-append, length-replicate}
use Rattle.std.proofs.lemmas.List.Elements.{All-nil, All-replicate}
use Rattle.std.proofs.lemmas.List.FromFn.{get_or-range_with_len, length-range_with_len}
use Rattle.grid_base.specs.declared.piece.Piece.{Piece}
use Rattle.grid_base.specs.Numbers.{IsPiece, vertices}
use Rattle.grid_graph.specs.Grids.{size_of}
use Rattle.tree_set.specs.Routings.{ArePieces}
use Rattle.routing_passes.specs.Passes.{pass_of}
use Rattle.sharing_phases.specs.PhaseWords.{IsRunSoFar, empty_sets}
use Rattle.sharing_phases.proofs.Phased.{IsPhase, IsRunSoFar-push, routings_are_sets, run_begins, serves_all}
use Rattle.sharing_phases.proofs.sharing.route_phases.Goals as goal
use Rattle.sharing_phases.proofs.sharing.route_phases.Goals.{After-as_slice-in-loop}

-- in each round of the loop the pass is a phase
phase_here : (g : _) (c : After-as_slice-in-loop g) → IsPhase (pass_of c.args.design.now c.args.grounds.now
    c.in_ok-opened.opened c.as_slice.result.now c.as_slice-in-loop.result.now c.args.plan.now)
phase_here g c =
    let d = c.args.design.now in
    let n : ℕ = length d.nets in
    let are : List Piece → Type 0 = ArePieces (size_of d.grid) in
    let all = c.requires.plan.positions in
    let none : c.as_slice-in-loop.result.now ≡ empty_sets n = c.as_slice-in-loop.ensures.value ∙ c.in_ok-none.ensures.sets
    ∙ ap (λ ns. empty_sets (length ns)) c.list.ensures.items in
    let phases = ap length c.as_slice.ensures.value ∙ c.loop.invariant.count in
    record {
      pass = record {
        grounds = c.requires.grounds;
        words = c.in_ok-opened.ensures.words ∙ omega (arith, c.vertices.ensures, ap (λ s. vertices s) c.size.ensures);
        some = c.requires.workers.0;
        workers = c.requires.workers.1;
        scale = (omega (arith, c.requires.plan.scale), omega (arith, c.requires.plan.scale));
        budget = c.requires.budget;
        earlier = rw c.as_slice.ensures.value (routings_are_sets d c.loop.phases.items c.loop.invariant.run.routings);
        lists = omega (arith, phases, c.loop-test.true, c.loop.auto.counter-end, c.requires.count);
        before = record {
          long = ap length none ∙ length-replicate n [];
          pieces = rw none (All-replicate are n [] (All-nil (IsPiece (size_of d.grid))));
        };
        nets = rw all (λ i e short.
            let within : i < n = omega (arith, short, length-range_with_len 0 n) in
            omega (arith, get_or-range_with_len 0 n i e within, within));
        few = omega (arith, ap length all, length-range_with_len 0 n, d.limits.count);
      };
      all = all;
      none = none;
      scale = c.requires.plan.scale;
    }

-- behind the run of the phases so far
run_here : (g : _) (c : After-as_slice-in-loop g) → IsRunSoFar c.args.design.now c.args.plan.now.workers
    c.args.plan.now.budget c.in_ok-opened.opened c.loop.share c.as_slice.result.now
run_here g c = rw c.as_slice.ensures.value c.loop.invariant.run

pub loop-init : goal.loop-init
loop-init g c =
    let begins = run_begins (2 * c.vertices.result + 1) c.requires.workers.0 c.in_ok-opened.ensures.share in
    rw c.new-phases.ensures.items (record { run = begins; count = refl })

pub route_parts-requires-clause-pass : goal.route_parts-requires-clause-pass
route_parts-requires-clause-pass g c κs within = (phase_here g c).pass

pub route_parts-requires-clause-share : goal.route_parts-requires-clause-share
route_parts-requires-clause-share g c κs within = serves_all (phase_here g c) (run_here g c)

pub loop-preserved : goal.loop-preserved
loop-preserved g c =
    let here = (goal.at.loop-preserved g c).After-as_slice-in-loop in
    let more = IsRunSoFar-push (phase_here g here) c.in_ok-next.ensures.turns (run_here g here) in
    rw (c.in_ok-push.ensures.items, c.of.ensures) (record {
      run = rw c.as_slice.ensures.value at more;
      count = length-append c.loop.phases.items (c.in_ok-next.sets.items ∷ []) ∙ omega (arith, c.loop.invariant.count);
    })
