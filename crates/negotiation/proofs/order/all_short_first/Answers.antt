use Rattle.std.proofs.Common.{◌<◌, ℕ, List, [], ◌∷◌, ◌++◌, length, ap, sym, ◌∙◌, subst}
use Rattle.std.specs.List.Sorted.{IsPermutation}
use Rattle.std.proofs.lemmas.List.Elements.{All-append, All-cons, All-nil}
use Rattle.std.proofs.lemmas.List.Sorted.{All-permutation}
use Rattle.negotiation.proofs.Chosen.{all_more}
use Rattle.negotiation.proofs.order.all_short_first.Goals as goal

pub loop-net-preserved : goal.loop-net-preserved
loop-net-preserved c =
    let net = c.loop-net.net in
    let IsPlace : ℕ → Type 0 = λ k. k < length c.args.extents.now in
    record {
      places = rw c.in_ok-push.ensures.items (All-append IsPlace c.loop-net.nets.items (net ∷ []) c.loop-net.invariant.places (All-cons IsPlace net [] c.loop-net-test.true (All-nil IsPlace)));
      all = c.in_ok-push.ensures.items ∙ (ap (λ xs. xs ++ net ∷ []) c.loop-net.invariant.all ∙ sym (all_more net));
    }

pub returns-clause-nets : goal.returns-clause-nets
returns-clause-nets c =
    let order = c.in_ok-order.order.items in
    let moved = subst (λ (xs : List ℕ). IsPermutation xs order) c.deref.ensures.value c.in_ok-order.ensures.same in
    All-permutation (λ (k : ℕ). k < length c.args.extents.now) c.loop-net.nets.items order moved c.loop-net.invariant.places
