-- Numbers within their limits.
use Rattle.std.proofs.Common.{◌≡◌, ℕ, ◌≤◌, true, false, ◌↔◌, Option, Some, None, IsSome, IfSome, ℤ, pos, negsuc, refl, sym, ap, ◌∙◌, ⊎_elim, arith}
use Rattle.std.specs.Option.{option_map}
use Rattle.std.proofs.lemmas.Bool.{cases_Bool}
use Rattle.std.proofs.lemmas.Bool.Decides.{nat_tests}
use Rattle.std.proofs.lemmas.Option.{none-some}
use Rattle.grid_base.specs.declared.size.Size.{Size}
use Rattle.grid_base.specs.Numbers.{cols, rows, layers}
use Rattle.grid_base.specs.Limits.{IsGridSize}
use Rattle.text_scan.specs.Within.{within}
use Rattle.ispd_reader.specs.Header.{Extent, is_size, natural, extent_of}
use Rattle.ispd_reader.specs.Views.{extent_of_size}

-- a number beyond them
pub within_none : (hi : ℕ) (z : ℤ) → within 1 hi z ≡ None → 1 ≤ natural z → natural z ≤ hi → ⊥
within_none hi (pos m) h low high = let t : within 1 hi (pos m) ≡ Some m = grind (arith, nat_tests) in none-some m (sym h ∙ t)
within_none hi (negsuc m) h low high = omega arith

-- the test of a size
size_from_test : (e : Extent) → is_size e ≡ true → IsGridSize e.cols e.rows e.layers
size_from_test e h = record {
  has_col = grind (arith, nat_tests);
  has_row = grind (arith, nat_tests);
  has_layer = grind (arith, nat_tests);
  layer_limit = grind (arith, nat_tests);
  vertex_limit = grind (arith, nat_tests);
}

test_of_size : (e : Extent) → IsGridSize e.cols e.rows e.layers → is_size e ≡ true
test_of_size e h =
    let a = h.has_col in
    let b = h.has_row in
    let c = h.has_layer in
    let d = h.layer_limit in
    let f = h.vertex_limit in
    grind (arith, nat_tests)

-- numbers that make no size
pub no_extent : (c r l : ℤ) → (IsGridSize (natural c) (natural r) (natural l) → ⊥) → extent_of c r l ≡ None
unfolding extent_of
no_extent c r l none =
    let e : Extent = record { cols = natural c; rows = natural r; layers = natural l } in
    ⊎_elim (λ (h : is_size e ≡ true). absurd (none (size_from_test e h))) (λ (h : is_size e ≡ false). rw h refl) (cases_Bool (is_size e))

-- and numbers that make one
extent_made : (n m k : ℕ) → IsGridSize n m k → extent_of (pos n) (pos m) (pos k) ≡ Some (record { cols = n; rows = m; layers = k })
unfolding extent_of
extent_made n m k s = let h : is_size (record { cols = n; rows = m; layers = k }) ≡ true = test_of_size (record { cols = n; rows = m; layers = k }) s in rw h refl

-- the size that three numbers make, if any
pub size_is : (n m k : ℕ) (result : Option Size) → (IsSome result ↔ IsGridSize n m k) → IfSome result (λ s. cols s ≡ n) → IfSome result (λ s. rows s ≡ m) → IfSome result (λ s. layers s ≡ k) →
    option_map extent_of_size result ≡ extent_of (pos n) (pos m) (pos k)
size_is n m k None limits has_cols has_rows has_layers = sym (no_extent (pos n) (pos m) (pos k) (λ s. absurd (let some = limits.1 s in cc)))
size_is n m k (Some s) limits has_cols has_rows has_layers =
    let same : extent_of_size s ≡ record { cols = n; rows = m; layers = k } = cc in
    ap (λ e. Some e) same ∙ sym (extent_made n m k (limits.0 refl))
