-- Nets in bundles cost what they cost alone.
use Rattle.std.proofs.Common.{ℕ, ◌≡◌, ◌<◌, ◌≤◌, ◌+◌, ◌-◌, ◌*◌, ◌^◌, List, [], ◌∷◌, ◌++◌, Option, Some, None, length, get_or, take, min, refl, ap, sym, subst, ◌∙◌, arith}
use Rattle.std.specs.Prelude.{IsPermutation}
use Rattle.std.specs.List.{sum_by}
use Rattle.std.specs.Option.{option_to_list}
use Rattle.std.proofs.Math.Nat.{mul-add}
use Rattle.std.proofs.lemmas.List.{append-nil}
use Rattle.std.proofs.lemmas.List.Sorted.{sum_by-IsPermutation}
use Rattle.std.proofs.lemmas.List.Sums.{sum_by-append, sum_by-cons, sum_by_more, sum_by_more_le_part}
use Rattle.tile_graphs.specs.declared.bundles.Bundle.{Bundle}
use Rattle.tile_graphs.specs.declared.ends.Ends.{Ends}
use Rattle.tile_graphs.specs.Bundles.{CostAlike, demand_of_bundles}

-- what a bundle costs
abbrev cost_of : (Ends → ℕ) → Bundle → ℕ
cost_of cost bundle = cost bundle.ends * bundle.demand

-- one bundle more behind the others
one_more : (f : Bundle → ℕ) (bundles : List Bundle) (bundle : Bundle) → sum_by f (bundles ++ bundle ∷ []) ≡ sum_by f bundles + f bundle
one_more f bundles bundle = omega (arith, sum_by-append f bundles (bundle ∷ []), sum_by-cons f bundle [])

-- the next net is a bundle of its own
alike_apart : (bundles singles : List Bundle) (i : ℕ) (d single : Bundle) → i < length singles → single ≡ get_or singles i d
    → CostAlike bundles (take i singles) → CostAlike (bundles ++ single ∷ []) (take (i + 1) singles)
alike_apart bundles singles i d single within is alike cost =
    let f = cost_of cost in
    let same : f single ≡ f (get_or singles i d) = ap f is in
    omega (arith, one_more f bundles single, alike cost, sum_by_more f singles i d within, same)

-- the demands of a bundle and of the next net have room
demands_fit : (done singles : List Bundle) (i : ℕ) (d last : Bundle) → i < length singles → demand_of_bundles singles < 2 ^ 64
    → CostAlike (done ++ last ∷ []) (take i singles) → last.demand + (get_or singles i d).demand < 2 ^ 64
demands_fit done singles i d last within fits alike =
    let f = cost_of (λ _. 1) in
    let most : sum_by f (take i singles) + (get_or singles i d).demand ≤ demand_of_bundles singles =
    sum_by_more_le_part f (λ b. b.demand) singles i d within (λ b. omega arith) in
    omega (arith, most, fits, alike (λ _. 1), one_more f done last)

-- the next net joins a bundle with the same ends
alike_joined : (done singles : List Bundle) (i : ℕ) (d last single joined : Bundle) → i < length singles → single ≡ get_or singles i d
    → demand_of_bundles singles < 2 ^ 64 → CostAlike (done ++ last ∷ []) (take i singles) → last.ends ≡ single.ends → joined.ends ≡ last.ends
    → joined.demand ≡ min (last.demand + single.demand) (2 ^ 64 - 1) → CostAlike (done ++ joined ∷ []) (take (i + 1) singles)
alike_joined done singles i d last single joined within is fits alike ends kept sum cost =
    let f = cost_of cost in
    let next : f single ≡ f (get_or singles i d) = ap f is in
    let demand : single.demand ≡ (get_or singles i d).demand = ap (λ (b : Bundle). b.demand) is in
    let whole : joined.demand ≡ last.demand + single.demand = omega (arith, sum, demand, demands_fit done singles i d last within fits alike) in
    let both : f joined ≡ cost last.ends * (last.demand + single.demand) = ap (λ e. cost e * joined.demand) kept ∙ ap (λ n. cost last.ends * n) whole in
    let apart : cost last.ends * (last.demand + single.demand) ≡ f last + cost last.ends * single.demand = mul-add (cost last.ends) last.demand single.demand in
    let other : cost last.ends * single.demand ≡ f single = ap (λ e. cost e * single.demand) ends in
    omega (arith, one_more f done joined, one_more f done last, alike cost, sum_by_more f singles i d within, next, both, apart, other)

-- one step, with the last bundle apart: the net joins it
pub step_joined : (now bundles : List Bundle) (last after : Option Bundle) (singles : List Bundle) (i : ℕ) (d bundle : Bundle) (n : ℕ)
    → i < length singles → demand_of_bundles singles < 2 ^ 64 → CostAlike (bundles ++ option_to_list last) (take i singles)
    → last ≡ Some bundle → now ≡ bundles → after ≡ Some (record { ends = bundle.ends; demand = n })
    → bundle.ends.nodes ≡ (get_or singles i d).ends.nodes → n ≡ min (bundle.demand + (get_or singles i d).demand) (2 ^ 64 - 1)
    → CostAlike (now ++ option_to_list after) (take (i + 1) singles)
step_joined now bundles last after singles i d bundle n within fits alike was kept becomes same sum =
    let before = subst (λ (o : Option Bundle). CostAlike (bundles ++ option_to_list o) (take i singles)) was alike in
    let ends : bundle.ends ≡ (get_or singles i d).ends = ap (λ (ns : List ℕ). let e : Ends = record { nodes = ns } in e) same in
    let step = alike_joined bundles singles i d bundle (get_or singles i d) (record { ends = bundle.ends; demand = n }) within refl fits before ends refl sum in
    subst (λ (o : Option Bundle). CostAlike (now ++ option_to_list o) (take (i + 1) singles)) (sym becomes)
    (subst (λ (xs : List Bundle). CostAlike (xs ++ record { ends = bundle.ends; demand = n } ∷ []) (take (i + 1) singles)) (sym kept) step)

-- one step: the last bundle is put to the others, and the net begins a new one
pub step_apart : (now bundles : List Bundle) (last after : Option Bundle) (singles : List Bundle) (i : ℕ) (d bundle : Bundle)
    → i < length singles → CostAlike (bundles ++ option_to_list last) (take i singles)
    → last ≡ Some bundle → now ≡ bundles ++ bundle ∷ [] → after ≡ Some (get_or singles i d)
    → CostAlike (now ++ option_to_list after) (take (i + 1) singles)
step_apart now bundles last after singles i d bundle within alike was more becomes =
    let before = subst (λ (o : Option Bundle). CostAlike (bundles ++ option_to_list o) (take i singles)) was alike in
    let step = alike_apart (bundles ++ bundle ∷ []) singles i d (get_or singles i d) within refl before in
    subst (λ (o : Option Bundle). CostAlike (now ++ option_to_list o) (take (i + 1) singles)) (sym becomes)
    (subst (λ (xs : List Bundle). CostAlike (xs ++ get_or singles i d ∷ []) (take (i + 1) singles)) (sym more) step)

-- one step: the first net begins a bundle
pub step_first : (now bundles : List Bundle) (last after : Option Bundle) (singles : List Bundle) (i : ℕ) (d : Bundle)
    → i < length singles → CostAlike (bundles ++ option_to_list last) (take i singles) → last ≡ None → now ≡ bundles → after ≡ Some (get_or singles i d)
    → CostAlike (now ++ option_to_list after) (take (i + 1) singles)
step_first now bundles last after singles i d within alike was kept becomes =
    let before = subst (λ (o : Option Bundle). CostAlike (bundles ++ option_to_list o) (take i singles)) was alike in
    let alone = subst (λ (xs : List Bundle). CostAlike xs (take i singles)) (append-nil bundles) before in
    let step = alike_apart bundles singles i d (get_or singles i d) within refl alone in
    subst (λ (o : Option Bundle). CostAlike (now ++ option_to_list o) (take (i + 1) singles)) (sym becomes)
    (subst (λ (xs : List Bundle). CostAlike (xs ++ get_or singles i d ∷ []) (take (i + 1) singles)) (sym kept) step)

-- nets in another order cost the same
pub alike_in_order : (bundles sorted nets : List Bundle) → IsPermutation nets sorted → (demand_of_bundles sorted < 2 ^ 64 → CostAlike bundles sorted)
    → demand_of_bundles nets < 2 ^ 64 → CostAlike bundles nets
alike_in_order bundles sorted nets order alike fits cost =
    alike (omega (arith, sum_by-IsPermutation (λ b. b.demand) nets sorted order, fits)) cost ∙ sum_by-IsPermutation (cost_of cost) nets sorted order
