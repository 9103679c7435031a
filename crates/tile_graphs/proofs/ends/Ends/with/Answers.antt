use Rattle.std.proofs.Common.{ℕ, ◌≢◌, List, slice_index, slice_set, ap, subst, sym, ◌∙◌, inl, inr, arith}
use Rattle.std.specs.Prelude.{IsPermutation}
use Rattle.std.proofs.lemmas.List.Sorted.{IsNonDecreasingBy-from_sort}
use borrow.Author.Count.{below_more}
use Rattle.tile_graphs.specs.Bundles.{AreOthersBefore, no_end}
use Rattle.tile_graphs.proofs.EndPlaces.{not_new, one_place}
use Rattle.tile_graphs.proofs.ends.Ends.with.Goals as goal

pub returns-then-nodes-place-clause-new : goal.returns-then-nodes-place-clause-new
returns-then-nodes-place-clause-new c = λ other within others none some.
    let place = c.loop-place.place in
    let first = subst (λ (ns : List ℕ). AreOthersBefore ns c.args.node place) c.loop-place.invariant.same c.loop-place.invariant.others in
    let met = ap (λ (ns : List ℕ). slice_index ns place) (sym c.loop-place.invariant.same) ∙ c.if-nodes-place.true in
    absurd (not_new c.args.self.nodes c.args.node place other first others met none some)

pub returns-then-nodes-place-clause-rising : goal.returns-then-nodes-place-clause-rising
returns-then-nodes-place-clause-rising c = λ other within others none some.
    let place = c.loop-place.place in
    let first = subst (λ (ns : List ℕ). AreOthersBefore ns c.args.node place) c.loop-place.invariant.same c.loop-place.invariant.others in
    let met = ap (λ (ns : List ℕ). slice_index ns place) (sym c.loop-place.invariant.same) ∙ c.if-nodes-place.true in
    absurd (not_new c.args.self.nodes c.args.node place other first others met none some)

pub returns-then-nodes-place-2-clause-known : goal.returns-then-nodes-place-2-clause-known
returns-then-nodes-place-2-clause-known c = λ other within others met.
    let place = c.loop-place.place in
    let first = subst (λ (ns : List ℕ). AreOthersBefore ns c.args.node place) c.loop-place.invariant.same c.loop-place.invariant.others in
    let none = ap (λ (ns : List ℕ). slice_index ns place) (sym c.loop-place.invariant.same) ∙ c.if-nodes-place-2.true in
    let here = one_place c.args.self.nodes c.args.node place other first others (inr none) (inl met) in
    absurd (c.if-nodes-place.false
    (ap (λ (ns : List ℕ). slice_index ns place) c.loop-place.invariant.same ∙ ap (λ (k : ℕ). slice_index c.args.self.nodes k) here ∙ met))

pub returns-then-nodes-place-2-clause-full : goal.returns-then-nodes-place-2-clause-full
returns-then-nodes-place-2-clause-full c = λ others.
    let place = c.loop-place.place in
    let none = ap (λ (ns : List ℕ). slice_index ns place) (sym c.loop-place.invariant.same) ∙ c.if-nodes-place-2.true in
    absurd ((others place (omega arith)).1 none)

pub returns-then-nodes-place-2-clause-new : goal.returns-then-nodes-place-2-clause-new
returns-then-nodes-place-2-clause-new c = λ other within others there some.
    let place = c.loop-place.place in
    let first = subst (λ (ns : List ℕ). AreOthersBefore ns c.args.node place) c.loop-place.invariant.same c.loop-place.invariant.others in
    let none = ap (λ (ns : List ℕ). slice_index ns place) (sym c.loop-place.invariant.same) ∙ c.if-nodes-place-2.true in
    let here = one_place c.args.self.nodes c.args.node place other first others (inr none) (inr there) in
    subst (λ (ns : List ℕ). IsPermutation (slice_set ns other c.args.node) c.sort_unstable.new.self) c.loop-place.invariant.same
    (subst (λ (k : ℕ). IsPermutation (slice_set c.loop-place.nodes k c.args.node) c.sort_unstable.new.self) here c.sort_unstable.ensures.permutation)

pub returns-then-nodes-place-2-clause-rising : goal.returns-then-nodes-place-2-clause-rising
returns-then-nodes-place-2-clause-rising c = λ other within others there some.
    IsNonDecreasingBy-from_sort (λ (x : ℕ). x) c.sort_unstable.new.self c.sort_unstable.ensures.sorted

pub loop-place-preserved : goal.loop-place-preserved
loop-place-preserved c = record {
  same = c.loop-place.invariant.same;
  others = below_more (λ (k : ℕ). (slice_index c.loop-place.nodes k ≢ c.args.node) × (slice_index c.loop-place.nodes k ≢ no_end)) c.loop-place.place
      c.loop-place.invariant.others (c.if-nodes-place.false, c.if-nodes-place-2.false);
}
