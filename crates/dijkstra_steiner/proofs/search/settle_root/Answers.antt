use Rattle.std.proofs.Common.{◌≡◌, ◌∙◌, ◌-◌, ◌<◌, ◌≤◌, get_or, length, sym, ap, subst, arith}
use Rattle.std.proofs.lemmas.Bool.{eqb-false, eqb-true}
use Rattle.std.proofs.lemmas.Option.{slice_get-get_or}
use Rattle.grid_base.specs.declared.size.Size.{Size}
use Rattle.grid_base.specs.declared.vertex.Vertex.{Vertex}
use Rattle.grid_base.specs.Numbers.{IsVertex, Connects}
use Rattle.grid_base.specs.Spots.{IsSpot, spot_at}
use Rattle.grid_base.proofs.Spots.{spot_at-is}
use Rattle.label_search.specs.declared.found.Found.{Found}
use Rattle.label_search.specs.Rows.{number_in, IsLeastWaiting}
use Rattle.label_search.specs.Runs.{IsSearch}
use Rattle.label_search.specs.Stamped.{far, max_key}
use Rattle.steiner_tables.specs.Masks.{rooted_masks, all_but_root}
use Rattle.dijkstra_steiner.specs.MaskSearches.{IsMaskSearch, mask_number}
use Rattle.dijkstra_steiner.specs.Stacks.{IsStackOf, on_stack, rest_on}
use Rattle.dijkstra_steiner.proofs.Settling.{IsTaken, IsStep, IsForRoot, taken_masks, settling_as, settling_step, taken_mask, taken_at}
use Rattle.dijkstra_steiner.proofs.Settling.{root_on, taken_least, idle_apart}
use Rattle.dijkstra_steiner.proofs.Starting.{last_room}
use Rattle.dijkstra_steiner.proofs.search.settle_root.Goals as goal
use Rattle.dijkstra_steiner.proofs.search.settle_root.Goals.{After-all_but_root_of-last, After-is_waiting, After-take-from}
use Rattle.dijkstra_steiner.proofs.search.settle_root.Goals.{After-under-at}

none : Vertex
none = record { 0 = 0 }

pub spot-requires-clause-at : goal.spot-requires-clause-at
unfolding none
spot-requires-clause-at g c =
    let flat = c.args.rest.now.stack.flat in
    let terminals = c.args.terminals.now in
    let root = get_or terminals (length terminals - 1) none in
    let vertex : IsVertex flat root.0 = subst (λ (x : Size). IsVertex x root.0) (sym c.requires.flat)
    (c.requires.vertices (length terminals - 1) none (omega (arith, c.requires.two))) in
    let is = subst (λ (x : Size). c.of-root.result ≡ spot_at x root.0) c.flat.ensures c.of-root.ensures in
    subst (IsSpot flat) (sym is) (spot_at-is flat root.0 vertex)

pub loop-goal-init : goal.loop-goal-init
loop-goal-init g c = record {
  size = c.requires.size;
  settling = settling_as (g.W.Weights.size c.args.weights.now) c.args.rest.now.stack.flat (g.W.Weights.pieces c.args.weights.now)
      c.args.terminals.now (g.F.Family.terminals c.args.rest.now.family.now) (g.F.Family.low c.args.rest.now.family.now)
      _ c.all_but_root_of-last.result c.spot.result.vertex.0 c.args.row.now (sym c.requires.flat) (sym c.requires.terminals)
      (sym c.all_but_root_of-last.ensures) (record {
        masks = c.requires.masks c.spot.result.vertex.0;
        started = c.requires.started;
        settled = c.requires.settled;
      });
}

for_root : (g : _) (c : After-is_waiting g) → IsForRoot (g.W.Weights.size c.args.weights.now) (g.W.Weights.pieces c.args.weights.now)
    c.args.terminals.now (g.F.Family.low c.args.rest.now.family.now)
    (get_or c.args.terminals.now (length c.args.terminals.now - 1) none) c.spot.result.vertex.0 c.loop-goal.row
unfolding none
for_root g c =
    let s = g.W.Weights.size c.args.weights.now in
    let stack = c.args.rest.now.stack in
    let terminals = c.args.terminals.now in
    let last = c.all_but_root_of-last.result in
    let root = get_or terminals (length terminals - 1) none in
    let inside : length terminals - 1 < length terminals = omega (arith, c.requires.two) in
    let before = c.loop-goal.invariant in
    record {
      family = c.requires.family;
      two = c.requires.two;
      few = c.requires.few;
      stack = subst (λ (x : Size). IsStackOf x s) (sym before.size)
          (subst (λ (x : Size). IsStackOf stack.size x) c.requires.flat stack.is);
      last = slice_get-get_or terminals (length terminals - 1) none inside;
      vertex = c.requires.vertices (length terminals - 1) none inside;
      is = root_on c.flat.result stack.flat s last (all_but_root terminals) root.0 c.spot.result.vertex.0 c.of-root.result
          c.of-root.ensures c.spot.ensures.vertex c.requires.flat c.all_but_root_of-last.ensures;
      settling = settling_as stack.flat s (g.W.Weights.pieces c.args.weights.now)
          (g.F.Family.terminals c.args.rest.now.family.now) terminals (g.F.Family.low c.args.rest.now.family.now)
          last _ c.spot.result.vertex.0 c.loop-goal.row c.requires.flat c.requires.terminals c.all_but_root_of-last.ensures
          before.settling;
    }

pub returns-then-eq-clause-least : goal.returns-then-eq-clause-least
returns-then-eq-clause-least g c =
    let row = c.loop-goal.row in
    let end = c.spot.result.vertex.0 in
    let here : c.take-from.result.vertex.0 ≡ end = eqb-true c.take-from.result.vertex.0 end (sym c.eq.ensures ∙ c.if-eq.true) in
    taken_least (g.W.Weights.size c.args.weights.now) (g.W.Weights.pieces c.args.weights.now) c.args.terminals.now
    (g.F.Family.low c.args.rest.now.family.now) _ end row c.number.result
    (for_root g (goal.at.returns-then-eq-clause-least g c).After-is_waiting)
    (subst (IsLeastWaiting row) here c.take-from.ensures.least) (omega (arith, c.number.ensures.number, c.take-from.ensures.numbers end))

is_taken : (g : _) (c : After-take-from g) → IsTaken c.loop-goal.row c.take-from.new.self c.take-from.result.vertex.0
is_taken g c =
    let taken = c.take-from.ensures in
    record { found = taken.found; numbers = taken.numbers; kept = taken.kept; only = taken.only }

mask_room : (g : _) (c : After-all_but_root_of-last g) → c.all_but_root_of-last.result ≤ rooted_masks
mask_room g c = omega (arith, c.all_but_root_of-last.ensures, last_room c.args.terminals.now c.requires.few)

mask_within : (g : _) (c : After-under-at g) → c.mask-mask.result ≤ c.all_but_root_of-last.result
mask_within g c =
    let rest = c.args.rest.now in
    taken_mask rest.stack.size rest.stack.flat (g.W.Weights.pieces c.args.weights.now) (g.F.Family.terminals rest.family.now)
    (g.F.Family.low rest.family.now) c.all_but_root_of-last.result c.spot.result.vertex.0 c.take-from.result.vertex.0
    c.mask-mask.result c.loop-goal.row c.loop-goal.invariant.size c.loop-goal.invariant.settling.masks c.take-from.ensures.least
    c.mask-mask.ensures.mask

has_number : (g : _) (c : After-under-at g)
    → mask_number c.args.rest.now.stack.flat c.take-from.new.self c.mask-mask.result c.under-at.result.vertex.0 < far
has_number g c =
    let stack = c.args.rest.now.stack in
    let taken = c.take-from.ensures in
    let w = c.take-from.result.vertex.0 in
    let vertex : IsVertex stack.size w = subst (λ (x : Size). IsVertex x w) c.loop-goal.invariant.size taken.spot.vertex in
    let here = taken_at stack.size stack.flat w c.mask-mask.result c.under-at.result.vertex.0 stack.is vertex
    c.mask-mask.ensures.mask c.under-at.ensures.vertex in
    omega (
      arith,
      ap (number_in c.take-from.new.self) here,
      taken.numbers w,
      c.loop-goal.invariant.settling.masks.search.numbered w taken.least.key taken.least.waits,
    )

sets_taken : (g : _) (c : After-under-at g) → IsTaken c.loop-goal.row c.take-from.new.self c.take-from.result.vertex.0
    → IsMaskSearch c.args.rest.now.stack.flat (g.W.Weights.pieces c.args.weights.now)
    (g.F.Family.terminals c.args.rest.now.family.now) (g.F.Family.low c.args.rest.now.family.now) c.all_but_root_of-last.result
    c.spot.result.vertex.0 c.take-from.new.self
sets_taken g c is =
    let rest = c.args.rest.now in
    let w = c.take-from.result.vertex.0 in
    let end = c.spot.result.vertex.0 in
    taken_masks rest.stack.flat (g.W.Weights.pieces c.args.weights.now) (g.F.Family.terminals rest.family.now)
    (g.F.Family.low rest.family.now) c.all_but_root_of-last.result end c.loop-goal.row c.take-from.new.self w
    c.loop-goal.invariant.settling.masks is (eqb-false w end (sym c.eq.ensures ∙ c.if-eq.false))

pub merge-requires-clause-mask : goal.merge-requires-clause-mask
merge-requires-clause-mask g c = mask_within g (goal.at.merge-requires-clause-mask g c).After-under-at

pub merge-requires-clause-last : goal.merge-requires-clause-last
merge-requires-clause-last g c = mask_room g (goal.at.merge-requires-clause-last g c).After-all_but_root_of-last

pub merge-requires-clause-here : goal.merge-requires-clause-here
merge-requires-clause-here g c = has_number g (goal.at.merge-requires-clause-here g c).After-under-at

pub merge-requires-clause-search : goal.merge-requires-clause-search
merge-requires-clause-search g c =
    let rest = c.args.rest.now in
    let taken = c.take-from.new.self in
    let at = goal.at.merge-requires-clause-search g c in
    subst (λ (x : Size). IsSearch (rest_on x (g.F.Family.terminals rest.family.now) (g.F.Family.low rest.family.now)) max_key taken)
    (ap (λ (f : Found). f.size) c.take-from.ensures.found ∙ c.loop-goal.invariant.size)
    (sets_taken g at.After-under-at (is_taken g at.After-take-from)).search

pub relax-requires-clause-mask : goal.relax-requires-clause-mask
relax-requires-clause-mask g c = mask_within g (goal.at.relax-requires-clause-mask g c).After-under-at

pub relax-requires-clause-last : goal.relax-requires-clause-last
relax-requires-clause-last g c = mask_room g (goal.at.relax-requires-clause-last g c).After-all_but_root_of-last

pub relax-requires-clause-here : goal.relax-requires-clause-here
relax-requires-clause-here g c =
    omega (
      arith,
      has_number g (goal.at.relax-requires-clause-here g c).After-under-at,
      c.merge.ensures.proceeds.falls (on_stack c.args.rest.now.stack.flat c.mask-mask.result c.under-at.result.vertex.0),
    )

pub loop-goal-preserved : goal.loop-goal-preserved
loop-goal-preserved g c =
    let rest = c.args.rest.now in
    let s = g.W.Weights.size c.args.weights.now in
    let pieces = g.W.Weights.pieces c.args.weights.now in
    let last = c.all_but_root_of-last.result in
    let end = c.spot.result.vertex.0 in
    let mask = c.mask-mask.result in
    let v = c.under-at.result.vertex.0 in
    let before = c.loop-goal.invariant in
    let merged = c.merge.ensures in
    let relaxed = c.relax.ensures in
    let at = goal.at.loop-goal-preserved g c in
    let step : IsStep rest.stack.size rest.stack.flat pieces last mask v c.take-from.result.vertex.0 c.loop-goal.row
    c.take-from.new.self c.merge.new.row c.relax.new.row =
    record {
      is_stack = rest.stack.is;
      room = mask_room g at.After-all_but_root_of-last;
      masked = c.mask-mask.ensures.mask;
      under = c.under-at.ensures.vertex;
      takes = is_taken g at.After-take-from;
      first = merged.proceeds;
      second = relaxed.proceeds;
      sums = merged.merged;
      steps = λ p k u weighs connects. relaxed.relaxed p k u weighs (subst (λ (x : Size). Connects x p v u) c.requires.flat connects);
    } in
    record {
      size = relaxed.proceeds.found.size ∙ merged.proceeds.found.size ∙ ap (λ (f : Found). f.size) c.take-from.ensures.found
          ∙ before.size;
      settling = settling_step rest.stack.size rest.stack.flat pieces (g.F.Family.terminals rest.family.now)
          (g.F.Family.low rest.family.now) last end mask v c.take-from.result.vertex.0 c.loop-goal.row c.take-from.new.self
          c.merge.new.row c.relax.new.row step
          (relaxed.masks end (merged.masks pieces end (sets_taken g at.After-under-at step.takes))) before.settling;
    }

pub returns-clause-none : goal.returns-clause-none
returns-clause-none g c is =
    idle_apart (g.W.Weights.size c.args.weights.now) (g.W.Weights.pieces c.args.weights.now) c.args.terminals.now
    (g.F.Family.low c.args.rest.now.family.now) _ c.spot.result.vertex.0 c.loop-goal.row
    (for_root g (goal.at.returns-clause-none g c).After-is_waiting) (c.is_waiting.ensures.none c.loop-goal-test.false)
    (g.met.W.Weights.once c.args.weights.now) (g.met.W.Weights.small c.args.weights.now)
