-- Parts of lists.
use Rattle.std.proofs.Common.{◌≡◌, ℕ, zero, suc, ◌+◌, ◌-◌, ◌≤◌, ◌<◌, List, [], ◌∷◌, ◌++◌, length, take, drop, slice_get}
use Rattle.std.proofs.Common.{slice_range, refl, sym, ◌∙◌, ap, arith}
use Rattle.std.proofs.Math.Seq.{take-append_seam, drop-append_seam, drop-cons, take-take, drop-drop}
use Rattle.std.proofs.lemmas.List.{drop-take, drop_more}
use Rattle.std.proofs.lemmas.Option.{slice_get_within, get_or_from_slice_get}
use Rattle.grid_base.specs.Lists.{At}

-- the first part of a slice
pub slice-first : {X : Type 0} (all s t : List X) (a m b : ℕ) → slice_range all a b ≡ s ++ t → length s ≡ m - a → m ≤ b
    → slice_range all a m ≡ s
slice-first all s t a m b whole long before =
    rw (← take-take (m - a) (b - a) (drop a all) (omega (arith, before)), whole, ← long, take-append_seam)

-- what is behind the first part of a slice
pub slice-rest : {X : Type 0} (all : List X) (a m b : ℕ) → a ≤ m → m ≤ b
    → slice_range all m b ≡ drop (m - a) (slice_range all a b)
slice-rest all a m b low high =
    ap (λ k. take (b - m) (drop k all)) (omega (arith, low))
    ∙ ap (take (b - m)) (sym (drop-drop (m - a) a all))
    ∙ sym (drop-take (m - a) (b - m) (drop a all))
    ∙ ap (λ k. drop (m - a) (take k (drop a all))) (omega (arith, low, high))

pub slice-second : {X : Type 0} (all s t : List X) (a m b : ℕ) → slice_range all a b ≡ s ++ t → length s ≡ m - a → a ≤ m → m ≤ b
    → slice_range all m b ≡ t
slice-second all s t a m b whole long low high = rw (slice-rest all a m b low high, whole, ← long, drop-append_seam)

-- what stands at a place behind others
pub slice_get-drop : {X : Type 0} (xs : List X) (a k : ℕ) → slice_get (drop a xs) k ≡ slice_get xs (a + k)
slice_get-drop xs zero k = ap (slice_get xs) (omega arith)
slice_get-drop [] (suc a) k = refl
slice_get-drop (x ∷ xs) (suc a) k =
    let next : suc a + k ≡ suc (a + k) = omega arith in
    slice_get-drop xs a k ∙ ap (slice_get (x ∷ xs)) (sym next)

-- what stands behind a first part comes next
pub At-seam : {X : Type 0} (xs : List X) (y : X) (ys : List X) → At (xs ++ y ∷ ys) (length xs) y
At-seam [] y ys = refl
At-seam (x ∷ xs) y ys = At-seam xs y ys

-- the element that stands at a place comes first behind those before it
pub take_one : {X : Type 0} (xs : List X) (k : ℕ) (x : X) → At xs k x → take 1 (drop k xs) ≡ x ∷ []
take_one xs k x at =
    ap (take 1) (drop-cons xs k x (slice_get_within xs k x at)) ∙ ap (λ y. y ∷ []) (get_or_from_slice_get xs k x x at)

-- and so it does in a slice
pub slice-cons : {X : Type 0} (xs : List X) (k end : ℕ) (x : X) → At xs k x → k < end
    → slice_range xs k end ≡ x ∷ slice_range xs (k + 1) end
slice-cons xs k end x at before =
    let many : end - k ≡ suc (end - (k + 1)) = omega (arith, before) in
    rw (many, drop_more xs k x (slice_get_within xs k x at), get_or_from_slice_get xs k x x at)

-- the last element of a slice is the one in its place
pub slice-last : {X : Type 0} (all s : List X) (y x : X) (a k : ℕ) → slice_range all a (k + 1) ≡ s ++ y ∷ [] → length s ≡ k - a
    → a ≤ k → At all k x → y ≡ x
slice-last all s y x a k whole long low at =
    cc (slice-second all s (y ∷ []) a k (k + 1) whole long low (omega arith), slice-cons all k (k + 1) x at (omega arith))
