-- The first key of a heap.
use Rattle.std.proofs.Common.{◌≡◌, ℕ, zero, suc, ◌<◌, ◌≤◌, List, get_or, ap, arith}
use Rattle.label_search.specs.Heaps.{parent, AreOrdered}

root_within : (ks : List ℕ) (len : ℕ) → AreOrdered ks len → (n j : ℕ) → j ≤ n → j < len → get_or ks 0 0 ≤ get_or ks j 0
root_within ks len ordered zero j near high = let root : j ≡ 0 = omega arith in omega (arith, ap (λ i. get_or ks i 0) root)
root_within ks len ordered (suc n) zero near high = omega arith
root_within ks len ordered (suc n) (suc j) near high =
    omega (arith, root_within ks len ordered n (parent (suc j)) (omega arith) (omega arith), ordered (suc j) (omega arith) high)

-- no key is below the first one
pub root_least : (ks : List ℕ) (len j : ℕ) → AreOrdered ks len → j < len → get_or ks 0 0 ≤ get_or ks j 0
root_least ks len j ordered high = root_within ks len ordered j j (omega arith) high
