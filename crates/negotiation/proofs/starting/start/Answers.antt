use Rattle.std.proofs.Common.{◌≡◌, ◌≤◌, ◌<◌, ◌+◌, ◌-◌, ◌++◌, ℕ, List, [], length, take, drop, refl, sym, ◌∙◌, ap, subst, arith}
use Rattle.std.specs.List.{slice_range}
use Rattle.std.proofs.Math.Seq.{take-add}
use Rattle.std.proofs.lemmas.List.{take_all}
use Rattle.std.proofs.lemmas.List.Elements.{All-drop, All-take}
use Rattle.std.specs.List.Sorted.{IsPermutation}
use Rattle.std.proofs.lemmas.List.Sorted.{All-permutation, Contains-permutation, IsPermutation-sym}
use Rattle.grid_graph.specs.declared.design.Design.{Design}
use Rattle.routing_state.specs.States.{trees_of}
use Rattle.negotiation.specs.Kept.{AreKeptBut}
use Rattle.negotiation.specs.Searches.{ArePlaces}
use Rattle.negotiation.specs.Steps.{IsRenewed}
use Rattle.negotiation.proofs.Kept.{kept_both, kept_same, kept_within}
use Rattle.negotiation.proofs.Steps.{renewed_fewer, renewed_none, renewed_then}
use Rattle.negotiation.proofs.starting.start.Goals as goal

-- what stands before a place and from there up to another
front_more : (xs : List ℕ) (at end : ℕ) → at ≤ end → take at xs ++ slice_range xs at end ≡ take end xs
front_more xs at end order =
    let both : at + (end - at) ≡ end = omega (arith, order) in
    sym (take-add at (end - at) xs) ∙ ap (λ (k : ℕ). take k xs) both

pub batches-init : goal.batches-init
batches-init g c = record { renewed = renewed_none c.args.design.now c.args.state.now c.requires.state; kept = kept_same [] (trees_of c.args.state.now) (trees_of c.args.state.now) refl; tools = c.requires.tools; within = omega arith }

-- the nets of the order are those at the missing places
ordered_places : (d : Design) (missing order : List ℕ) (at end : ℕ) → IsPermutation missing order → ArePlaces d missing → ArePlaces d (take (end - at) (drop at order))
ordered_places d missing order at end same are =
    All-take (λ (k : ℕ). k < length d.nets) (end - at) (drop at order)
    (All-drop (λ (k : ℕ). k < length d.nets) at order (All-permutation (λ (k : ℕ). k < length d.nets) missing order same are))

pub search-requires-clause-nets : goal.search-requires-clause-nets
search-requires-clause-nets g c κs within =
    subst (λ (xs : List ℕ). ArePlaces c.args.design.now (take (c.min-end.result - c.batches.at) (drop c.batches.at xs))) (sym c.deref.ensures.value)
    (ordered_places c.args.design.now c.args.missing.now c.in_ok-order.order.items c.batches.at c.min-end.result c.in_ok-order.ensures.same c.requires.missing)

pub put_routes-requires-clause-nets : goal.put_routes-requires-clause-nets
put_routes-requires-clause-nets g c =
    subst (λ (xs : List ℕ). ArePlaces c.args.design.now (take (c.min-end.result - c.batches.at) (drop c.batches.at xs))) (sym c.deref.ensures.value)
    (ordered_places c.args.design.now c.args.missing.now c.in_ok-order.order.items c.batches.at c.min-end.result c.in_ok-order.ensures.same c.requires.missing)

pub batches-preserved : goal.batches-preserved
batches-preserved g c =
    let d = c.args.design.now in
    let order : List ℕ = c.in_ok-order.order.items in
    let at = c.batches.at in
    let end = c.min-end.result in
    let low : at ≤ end = omega (arith, c.min-end.ensures, c.saturating_add.ensures, c.batches-test.true) in
    let batch : IsRenewed d (slice_range order at end) c.batches.state c.put_routes.new.state =
    subst (λ (xs : List ℕ). IsRenewed d (slice_range xs at end) c.batches.state c.put_routes.new.state) c.deref.ensures.value c.in_ok-put_routes.ensures.renewed in
    record {
      renewed = subst (λ (ks : List ℕ). IsRenewed d ks c.args.state.now c.put_routes.new.state) (front_more order at end low)
          (renewed_then d (take at order) (slice_range order at end) c.args.state.now c.batches.state c.put_routes.new.state c.batches.invariant.renewed batch);
      kept = subst (λ (ks : List ℕ). AreKeptBut ks (trees_of c.args.state.now) (trees_of c.put_routes.new.state)) (front_more order at end low)
          (kept_both (take at order) (slice_range order at end) (trees_of c.args.state.now) (trees_of c.batches.state) (trees_of c.put_routes.new.state) c.batches.invariant.kept
          (subst (λ (xs : List ℕ). AreKeptBut (slice_range xs at end) (trees_of c.batches.state) (trees_of c.put_routes.new.state)) c.deref.ensures.value c.in_ok-put_routes.ensures.kept));
      tools = c.search.ensures.tools;
      within = omega (arith, c.min-end.ensures, c.in_ok-order.order.ok.0);
    }

pub returns-clause-renewed : goal.returns-clause-renewed
returns-clause-renewed g c =
    let d = c.args.design.now in
    let order : List ℕ = c.in_ok-order.order.items in
    let over : length order ≤ c.batches.at = omega (arith, c.batches-test.false, c.in_ok-order.order.ok.0) in
    renewed_fewer d order c.args.missing.now c.args.state.now c.batches.state (λ k. Contains-permutation c.args.missing.now order k c.in_ok-order.ensures.same)
    (subst (λ (ks : List ℕ). IsRenewed d ks c.args.state.now c.batches.state) (take_all c.batches.at order over) c.batches.invariant.renewed)

pub returns-clause-kept : goal.returns-clause-kept
returns-clause-kept g c =
    let order : List ℕ = c.in_ok-order.order.items in
    let missing : List ℕ = c.args.missing.now in
    let over : length order ≤ c.batches.at = omega (arith, c.batches-test.false, c.in_ok-order.order.ok.0) in
    kept_within order missing (trees_of c.args.state.now) (trees_of c.batches.state) (λ k. Contains-permutation order missing k (IsPermutation-sym missing order c.in_ok-order.ensures.same))
    (subst (λ (ks : List ℕ). AreKeptBut ks (trees_of c.args.state.now) (trees_of c.batches.state)) (take_all c.batches.at order over) c.batches.invariant.kept)
