-- How long runs of painted cells are.
use Rattle.std.proofs.Common.{◌≡◌, ℕ, zero, suc, ◌+◌, ◌-◌, ◌<◌, ◌≤◌, Bool, true, false, cond, ◌∙◌, ap, arith}
use Rattle.congestion_picture.specs.CellMaps.{painted_from}

painted_at : (is : ℕ → Bool) (at end : ℕ) → at < end
    → painted_from is at (end - at) ≡ cond (is at) (suc (painted_from is (suc at) (end - suc at))) zero
painted_at is at end inside =
    let left : end - at ≡ suc (end - suc at) = omega (arith, inside) in
    ap (painted_from is at) left

-- one more cell of a run
pub run_more : (is : ℕ → Bool) (first at end total : ℕ) → first ≤ at → at < end → is at ≡ true
    → total ≡ (at - first) + painted_from is at (end - at) → total ≡ (at + 1 - first) + painted_from is (at + 1) (end - (at + 1))
run_more is first at end total behind inside painted so_far =
    let step : painted_from is at (end - at) ≡ suc (painted_from is (suc at) (end - suc at)) =
    painted_at is at end inside ∙ ap (λ (b : Bool). cond b (suc (painted_from is (suc at) (end - suc at))) zero) painted in
    let next : suc at ≡ at + 1 = omega arith in
    let moved : painted_from is (suc at) (end - suc at) ≡ painted_from is (at + 1) (end - (at + 1)) =
    ap (λ (k : ℕ). painted_from is k (end - k)) next in
    omega (arith, so_far, step, moved, behind)

-- the run ends at an unpainted cell
pub run_ends : (is : ℕ → Bool) (first at end total : ℕ) → at < end → is at ≡ false
    → total ≡ (at - first) + painted_from is at (end - at) → total ≡ at - first
run_ends is first at end total inside unpainted so_far =
    let stop : painted_from is at (end - at) ≡ zero =
    painted_at is at end inside ∙ ap (λ (b : Bool). cond b (suc (painted_from is (suc at) (end - suc at))) zero) unpainted in
    omega (arith, so_far, stop)

-- or at the end of the row
pub run_whole : (is : ℕ → Bool) (first at end total : ℕ) → end ≤ at
    → total ≡ (at - first) + painted_from is at (end - at) → total ≡ at - first
run_whole is first at end total past so_far =
    let left : end - at ≡ zero = omega (arith, past) in
    let none : painted_from is at (end - at) ≡ zero = ap (painted_from is at) left in
    omega (arith, so_far, none)
