-- The tile of a position.
use Rattle.std.proofs.Common.{◌≡◌, ℕ, ◌+◌, ◌*◌, ◌/◌, ◌≤◌, ◌<◌, true, false, Some, IfSome, ℤ, pos, negsuc, ◌+ℤ◌, ◌-ℤ◌, ◌≤ℤ◌, nat_abs, int_lt, ltb, eqb, refl, ⊎_elim, arith}
use Rattle.std.proofs.lemmas.Bool.{cases_Bool, lt-ltb}
use Rattle.std.proofs.lemmas.Bool.Decides.{nat_tests}
use Rattle.std.proofs.lemmas.Int.{ints}
use Rattle.std.proofs.lemmas.Nat.{div_below, div-mul-add, mul-add-lt}
use Rattle.grid_graph.specs.Tiles.{tile_index, written_position}

abs_positive : (t : ℤ) → pos 1 ≤ℤ t → 0 < nat_abs t
abs_positive (pos n) h = omega (arith, ints)
abs_positive (negsuc n) h = absurd (omega (arith, ints))

-- a position above the origin isn't below it
not_below : (origin : ℤ) (d : ℕ) → int_lt (origin +ℤ pos d) origin ≡ false
not_below origin d = grind (arith, ints)

half : (w : ℕ) → 0 < w → w / 2 < w
half w h = omega arith

-- the position written for a tile lies in that tile
pub tile_of_written : (origin tile : ℤ) (count i : ℕ) → pos 1 ≤ℤ tile → i < count → tile_index origin tile count (written_position origin tile i) ≡ Some i
tile_of_written origin tile count i wide below =
    let w = nat_abs tile in
    let d = i * w + w / 2 in
    let half_way : w / 2 < w = half w (abs_positive tile wide) in
    let apart : (origin +ℤ pos d) -ℤ origin ≡ pos d = omega (arith, ints) in
    let within : d < count * w = omega (arith, mul-add-lt i w (w / 2) count below half_way) in
    rw (not_below origin d, apart, lt-ltb d (count * w) within, div-mul-add i w (w / 2) half_way) refl

-- a tile is one of them
pub tile_below : (origin tile : ℤ) (count : ℕ) (x : ℤ) → pos 1 ≤ℤ tile → 1 ≤ count → IfSome (tile_index origin tile count x) (λ i. i < count)
tile_below origin tile count x wide some =
    let d = nat_abs (x -ℤ origin) in
    let w = nat_abs tile in
    let positive : 0 < w = abs_positive tile wide in
    ⊎_elim
    (λ (e : int_lt x origin ≡ true). rw e tt)
    (λ (e : int_lt x origin ≡ false). ⊎_elim
    (λ (f : ltb d (count * w) ≡ true). let lt : d < count * w = grind (arith, nat_tests) in rw (e, f) (div_below d w count positive lt))
    (λ (f : ltb d (count * w) ≡ false). ⊎_elim
    (λ (g : eqb d (count * w) ≡ true). rw (e, f, g) (omega arith))
    (λ (g : eqb d (count * w) ≡ false). rw (e, f, g) tt)
    (cases_Bool (eqb d (count * w))))
    (cases_Bool (ltb d (count * w))))
    (cases_Bool (int_lt x origin))
