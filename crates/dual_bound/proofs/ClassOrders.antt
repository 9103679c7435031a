-- Nets in the order of their classes, and the bounds that are written for them.
use Rattle.std.proofs.Common.{◌≡◌, ◌≢◌, ℕ, ◌+◌, ◌-◌, ◌<◌, ◌≤◌, List, [], ◌∷◌, ◌++◌, All, length, min, drop, get_or, Some, sym, ◌∙◌, ap, subst, ⊎_elim, arith}
use Rattle.std.specs.Prelude.{slice_set}
use Rattle.grid_base.specs.Lists.{At}
use Rattle.grid_base.proofs.Lists.{AllZip-from_places}
use Rattle.grid_graph.specs.declared.net_spec.NetSpec.{NetSpec}
use Rattle.std.proofs.lemmas.Bool.{cases_lt}
use Rattle.std.specs.List.{AllZip, slice_range}
use Rattle.std.proofs.lemmas.List.{get_or-set_other, get_or-take, get_or-drop, length-take, length-take-le, length-drop}
use Rattle.std.proofs.lemmas.Option.{slice_get-get_or, slice_get_within, get_or_from_slice_get}
use Rattle.std.proofs.lemmas.Grind.{get_or-set_at}
use Rattle.std.proofs.lemmas.List.Elements.{All-contains, Contains-push, Contains-append_left}
use Rattle.std.proofs.lemmas.List.Sorted.{Contains-permutation}
use Rattle.std.specs.List.Sorted.{IsPermutation}
use Rattle.dual_bound.specs.declared.class_order.ClassedNet.{ClassedNet}
use Rattle.dual_bound.specs.declared.priced.Priced.{Priced}
use Rattle.dual_bound.specs.ClassOrders.{HasEachPlace, HasBoundOf}
use Rattle.dual_bound.specs.DesignBounds.{IsBoundOfNet}
use Rattle.dual_bound.specs.Parts.{priced_grid, priced_nets}

-- one net more
pub placed_more : (from k : ℕ) (nets : List ClassedNet) (net : ClassedNet) → net.place ≡ k → HasEachPlace from k nets → HasEachPlace from (k + 1) (nets ++ net ∷ [])
placed_more from k nets net at whole j low high = ⊎_elim
    (λ (less : j < k). let old = whole j low less in (old.0, Contains-append_left nets (net ∷ []) old.0 old.1, old.2))
    (λ (more : k ≤ j). (net, Contains-push nets net, omega (arith, at, more, high)))
    (cases_lt j k)

-- in another order
pub placed_anew : (from to : ℕ) (nets sorted : List ClassedNet) → IsPermutation nets sorted → HasEachPlace from to nets → HasEachPlace from to sorted
placed_anew from to nets sorted moves whole j low high =
    let old = whole j low high in
    (old.0, Contains-permutation nets sorted old.0 moves old.1, old.2)

-- the bound of one net is written, beside which the others' are kept
pub bound_written : (p : Priced) (from : ℕ) (bounds : List ℕ) (net : ClassedNet) (b : ℕ) (other : ClassedNet) → from ≤ net.place → from ≤ other.place → net.place - from < length bounds
    → ((n : NetSpec) → At (priced_nets p) net.place n → IsBoundOfNet (priced_grid p) p.prices.now p.budget n b)
    → (other.place ≢ net.place → HasBoundOf p from bounds other) → HasBoundOf p from (slice_set bounds (net.place - from) b) other
bound_written p from bounds net b other low low' inside is kept n at =
    let i = net.place - from in
    let j = other.place - from in
    let Its : ℕ → Type 0 = IsBoundOfNet (priced_grid p) p.prices.now p.budget n in
    let apart : other.place ≢ net.place → Its (get_or (slice_set bounds i b) j 0) = λ differs.
    subst Its (sym (get_or-set_other bounds i j b 0 (λ same. differs (omega (arith, same, low, low'))))) (kept differs n at) in
    ⊎_elim
    (λ (less : other.place < net.place). apart (λ same. omega (arith, same, less)))
    (λ (more : net.place ≤ other.place). ⊎_elim
    (λ (above : net.place < other.place). apart (λ same. omega (arith, same, above)))
    (λ (most : other.place ≤ net.place).
    let same : other.place ≡ net.place = omega (arith, more, most) in
    let here : j ≡ i = omega (arith, same) in
    subst Its (sym (get_or-set_at bounds i j b 0 here inside)) (is n (subst (λ k. At (priced_nets p) k n) same at)))
    (cases_lt net.place other.place))
    (cases_lt other.place net.place)

-- what stands at a place of a part stands in the list behind the part's begin
in_part : {X : Type 0} (xs : List X) (from to k : ℕ) (x : X) → At (slice_range xs from to) k x → (k < to - from) × At xs (from + k) x
in_part xs from to k x at =
    let part = slice_range xs from to in
    let long : length part ≡ min (to - from) (length xs - from) = length-take (to - from) (drop from xs) ∙ ap (min (to - from)) (length-drop from xs) in
    let low : k < length part = slice_get_within part k x at in
    let value : get_or xs (from + k) x ≡ x =
    sym (get_or-drop from xs k x) ∙ sym (get_or-take (to - from) (drop from xs) k x (omega (arith, low, long))) ∙ get_or_from_slice_get part k x x at in
    (omega (arith, low, long), slice_get-get_or xs (from + k) x (omega (arith, low, long)) ∙ ap Some value)

behind : (from k : ℕ) → from + k - from ≡ k
behind from k = omega arith

-- where each net of a part has its bound, these are the bounds of the part
pub bounds_of_part : (p : Priced) (from to : ℕ) (bounds : List ℕ) (nets : List ClassedNet) → from ≤ to → to ≤ length (priced_nets p) → length bounds ≡ to - from → HasEachPlace from to nets
    → All (HasBoundOf p from bounds) nets → AllZip (IsBoundOfNet (priced_grid p) p.prices.now p.budget) (slice_range (priced_nets p) from to) bounds
bounds_of_part p from to bounds nets order inside long whole all =
    let part = slice_range (priced_nets p) from to in
    let Its : NetSpec → ℕ → Type 0 = IsBoundOfNet (priced_grid p) p.prices.now p.budget in
    let same : length bounds ≡ length part =
    long ∙ sym (length-take-le (to - from) (drop from (priced_nets p)) (omega (arith, order, inside, length-drop from (priced_nets p)))) in
    AllZip-from_places Its part bounds same (λ k n b at_n at_b.
    let here = in_part (priced_nets p) from to k n at_n in
    let net = whole (from + k) (omega arith) (omega (arith, here.0)) in
    let stands : At (priced_nets p) net.0.place n = subst (λ j. At (priced_nets p) j n) (sym net.2) here.1 in
    let value : get_or bounds (net.0.place - from) 0 ≡ b =
    ap (λ j. get_or bounds (j - from) 0) net.2 ∙ ap (λ j. get_or bounds j 0) (behind from k) ∙ get_or_from_slice_get bounds k b 0 at_b in
    subst (Its n) value (All-contains (HasBoundOf p from bounds) nets net.0 all net.1 n stands))
