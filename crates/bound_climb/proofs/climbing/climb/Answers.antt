use Rattle.std.proofs.Common.{◌≡◌, ◌+◌, List, [], ◌∷◌, ◌++◌, length, map, refl, sym, ◌∙◌, ap, subst, arith}
use Rattle.std.specs.List.{AllZip}
use Rattle.std.proofs.lemmas.List.{map_push, length_push}
use Rattle.std.proofs.lemmas.Slice.Zip.{AllZip-long}
use Rattle.rayon.proofs.ListFacts.{AllZip-weaken}
use Rattle.grid_base.specs.declared.piece.Piece.{Piece}
use Rattle.grid_graph.specs.declared.design.Design.{Design}
use Rattle.grid_graph.specs.declared.grid.Grid.{Grid}
use Rattle.grid_graph.specs.declared.net_spec.NetSpec.{NetSpec}
use Rattle.grid_graph.specs.Grids.{edge_numbers}
use Rattle.edge_prices.specs.declared.kept_prices.KeptPrices.{KeptPrices}
use Rattle.edge_prices.specs.Budgets.{most_of}
use Rattle.edge_prices.specs.KeptLists.{scale_of, budget_of, loads_of}
use Rattle.sharing_runs.specs.NetSteps.{IsStep}
use Rattle.bound_climb.specs.declared.climbed.Climbed.{Climbed}
use Rattle.tree_set.specs.Order.{IsRising}
use Rattle.tree_set.specs.Routings.{IsRoute}
use Rattle.bound_climb.specs.Climbs.{steps_of, AreClimbSteps}
use Rattle.bound_climb.specs.ClimbTurns.{AreSetsFor, GainsSets}
use Rattle.bound_climb.proofs.ClimbOffers.{best_first, best_priced, best_pushed}
use Rattle.bound_climb.proofs.ClimbSteps.{more_steps, no_steps}
use Rattle.bound_climb.proofs.ClimbStates.{climbs_on, keeps_given, keeps_more, room_for_turn, steps_taken, KeepsLoads}
use Rattle.bound_climb.proofs.climbing.climb.Goals as goal

pub loop-turn-init : goal.loop-turn-init
loop-turn-init g c =
    let d = c.args.design.now in
    let budget = c.args.budget in
    let loads = c.args.loads.now in
    let first = c.in_ok-climbed.climbed in
    let sight = c.in_ok-sight.sight in
    let o = c.in_ok-offer_turn.ensures.offered in
    let made = c.in_ok-sight.ensures in
    let none : steps_of first ≡ [] = ap (λ trees. map (λ v. v.items) trees) c.in_ok-climbed.ensures.none in
    let keeps : KeepsLoads d (most_of budget) loads [] sight.kept =
    keeps_given d (most_of budget) loads sight.kept c.requires.loads (made.sight.grid ∙ ap (λ (e : Design). e.grid) made.design) made.scale (made.budget ∙ c.most_kept.ensures.value) made.loads in
    let here : KeepsLoads d (most_of budget) loads (steps_of first) sight.kept = subst (λ (ss : List (List (List Piece))). KeepsLoads d (most_of budget) loads ss sight.kept) (sym none) keeps in
    let best = best_first d c.args.prices.now budget loads first c.in_ok-climbed.ensures.bound c.in_ok-climbed.ensures.best in
    let steps = subst (λ (ss : List (List (List Piece))). AreClimbSteps d (most_of budget) loads 1 ss) (sym none) (no_steps d (most_of budget) loads) in
    record {
      ready = made.sight;
      on = made.design;
      keeps = subst (λ (ss : List (List (List Piece))). KeepsLoads d (most_of budget) loads ss sight.kept) (ap (λ v. map (λ trees. trees.items) v.items) (sym o.steps)) here;
      climbing = climbs_on d c.args.prices.now budget loads 0 1 sight first c.offer_turn.new.climbed made.design refl (ap length none) here steps best c.in_ok-climbed.ensures.bounds o;
    }

-- the steps that are found are steps on the design
abbrev IsStepKept : Grid → KeptPrices → NetSpec → List Piece → Type 0
IsStepKept g kept n tree = IsStep g n (loads_of kept) (scale_of kept) (budget_of kept) tree

pub notice-requires-clause-sets : goal.notice-requires-clause-sets
notice-requires-clause-sets g c =
    let sight = c.loop-turn.sight in
    let d = sight.design.now in
    subst (AreSetsFor d) (sym c.as_slice.ensures.value)
    (AllZip-weaken (IsStepKept d.grid sight.kept) (λ n tree. IsRoute d.grid n tree × IsRising tree) (λ n tree step. (step.route, step.set)) d.nets c.in_ok-trees.trees.items c.in_ok-trees.ensures.steps)

pub notice-requires-clause-room : goal.notice-requires-clause-room
notice-requires-clause-room g c =
    let sight = c.loop-turn.sight in
    let d = sight.design.now in
    let before = c.loop-turn.invariant in
    room_for_turn c.args.design.now (most_of c.args.budget) c.args.loads.now (steps_of c.loop-turn.climbed) sight.kept (length c.as_slice.result.now)
    (omega (arith, before.climbing.steps.long, c.loop-turn-test.true, c.requires.turns))
    (ap length c.as_slice.ensures.value ∙ AllZip-long (IsStepKept d.grid sight.kept) d.nets c.in_ok-trees.trees.items c.in_ok-trees.ensures.steps ∙ ap (λ (e : Design). length e.nets) before.on)
    before.keeps

pub offer_turn-requires-in-loop-turn-clause-long : goal.offer_turn-requires-in-loop-turn-clause-long
offer_turn-requires-in-loop-turn-clause-long g c κs within =
    let before = c.loop-turn.invariant in
    (best_priced c.args.design.now c.args.prices.now c.args.budget c.args.loads.now c.loop-turn.turn c.loop-turn.climbed c.requires.prices before.climbing.best).edges.long
    ∙ ap (λ (e : Design). edge_numbers e.grid) (sym (ap (λ b. b.now) c.notice.ensures.same.design ∙ before.on))

pub loop-turn-preserved : goal.loop-turn-preserved
loop-turn-preserved g c =
    let d = c.args.design.now in
    let budget = c.args.budget in
    let most = most_of budget in
    let loads = c.args.loads.now in
    let before = c.loop-turn.invariant in
    let climbed = c.loop-turn.climbed in
    let turn = c.loop-turn.turn in
    let sight = c.loop-turn.sight in
    let now = c.notice.new.self in
    let trees = c.in_ok-trees.trees.items in
    let steps = steps_of climbed in
    let new : Climbed = record climbed { steps = c.push.new.self } in
    let o = c.in_ok-offer_turn-2.ensures.offered in
    let seen : AllZip (IsStepKept d.grid sight.kept) d.nets trees =
    subst (λ (e : Design). AllZip (IsStepKept e.grid sight.kept) e.nets trees) before.on c.in_ok-trees.ensures.steps in
    let taken = steps_taken d most loads steps trees sight.kept before.keeps seen in
    let gains : GainsSets d.grid d.nets trees (loads_of sight.kept) (loads_of now.kept) =
    subst (λ (ts : List (List Piece)). GainsSets d.grid d.nets ts (loads_of sight.kept) (loads_of now.kept)) c.as_slice.ensures.value
    (subst (λ (e : Design). GainsSets e.grid e.nets c.as_slice.result.now (loads_of sight.kept) (loads_of now.kept)) before.on c.notice.ensures.loads) in
    let keeps = keeps_more d most loads steps trees sight.kept now.kept (AllZip-long (IsStepKept d.grid sight.kept) d.nets trees seen) gains c.notice.ensures.same.setting before.keeps in
    let pushed : steps_of new ≡ steps ++ trees ∷ [] = ap (λ ts. map (λ v. v.items) ts) c.in_ok-push.ensures.items ∙ map_push (λ v. v.items) climbed.steps.items c.in_ok-trees.trees in
    let here : KeepsLoads d most loads (steps_of new) now.kept = subst (λ (ss : List (List (List Piece))). KeepsLoads d most loads ss now.kept) (sym pushed) keeps in
    let sets : AreClimbSteps d most loads (turn + 1) (steps_of new) =
    subst (λ (ss : List (List (List Piece))). AreClimbSteps d most loads (turn + 1) ss) (sym pushed) (more_steps d most loads turn steps trees before.climbing.steps taken) in
    let best = best_pushed d c.args.prices.now budget loads turn climbed new trees pushed refl refl refl refl (omega (arith, before.climbing.steps.long)) before.climbing.best in
    let on : now.design.now ≡ d = ap (λ b. b.now) c.notice.ensures.same.design ∙ before.on in
    record {
      ready = c.notice.ensures.sight;
      on = on;
      keeps = subst (λ (ss : List (List (List Piece))). KeepsLoads d most loads ss now.kept) (ap (λ v. map (λ ts. ts.items) v.items) (sym o.steps)) here;
      climbing = climbs_on d c.args.prices.now budget loads turn (turn + 1) now new c.offer_turn-in-loop-turn.new.climbed on refl
          (ap length pushed ∙ length_push steps trees ∙ before.climbing.steps.long) here sets best before.climbing.bounds o;
    }

pub returns-clause-prices : goal.returns-clause-prices
returns-clause-prices g c =
    best_priced c.args.design.now c.args.prices.now c.args.budget c.args.loads.now c.loop-turn.turn c.loop-turn.climbed c.requires.prices c.loop-turn.invariant.climbing.best
