use Rattle.std.proofs.Common.{◌≡◌, ℕ, List, map, sym, ◌∙◌, ap, subst, arith}
use Rattle.std.specs.List.Sorted.{IsPermutation}
use Rattle.std.proofs.lemmas.List.{take_all}
use Rattle.std.proofs.lemmas.List.Sorted.{IsPermutation-map}
use Rattle.negotiation.specs.declared.order.Ranked.{Ranked}
use Rattle.negotiation.proofs.order.short_first.Goals as goal

pub returns : goal.returns
returns c =
    let net_of : Ranked → ℕ = λ x. x.net in
    let sorted : List Ranked = c.sort_unstable_by_key.new.self.items in
    let whole = take_all c.loop-x.x-index c.deref-x-items.result.now (omega (arith, c.loop-x-test.false)) in
    let listed : c.loop-x.order.items ≡ map net_of sorted = c.loop-x.invariant ∙ ap (map net_of) whole ∙ ap (map net_of) c.deref-x-items.ensures.value in
    let moved : IsPermutation (map net_of c.in_ok-ranked.ranked.items) (map net_of sorted) = IsPermutation-map net_of c.in_ok-ranked.ranked.items sorted c.sort_unstable_by_key.ensures.permutation in
    record {
      same = subst (λ (xs : List ℕ). IsPermutation c.args.nets.now xs) (sym listed)
          (subst (λ (xs : List ℕ). IsPermutation xs (map net_of sorted)) c.in_ok-ranked.ensures.same moved);
    }
