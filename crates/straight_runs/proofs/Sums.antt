-- Loads along lines by their differences.
use Rattle.std.proofs.Common.{◌≡◌, ◌≢◌, ℕ, ◌+◌, ◌*◌, ◌%◌, ◌^◌, ◌<◌, ◌≤◌, ◌==◌, cond, List, length, slice_index, slice_set, refl, sym, ◌∙◌, ap, subst, ⊎_elim, arith}
use Rattle.std.proofs.lemmas.Bool.{cases_eq}
use Rattle.std.proofs.lemmas.List.{get_or-set_same, get_or-set_other}
use Rattle.grid_base.specs.declared.axis.Axis.TheVariants.{X, Y}
use Rattle.grid_base.specs.declared.size.Size.{Size}
use Rattle.grid_base.specs.Lines.{stride}
use Rattle.grid_base.specs.Numbers.{vertices, edge_axis}
use Rattle.straight_runs.specs.Differences.{AreDifferences, edge_stride}

-- an even number more leaves the axis
pub same_axis : (e m : ℕ) → edge_axis (e + 2 * m) ≡ edge_axis e
same_axis e m = let rest : (e + 2 * m) % 2 ≡ e % 2 = omega arith in ap (λ r. cond (r == 0) X Y) rest

-- and so one back on the line
pub stride_before : (s : Size) (e before : ℕ) → e ≡ before + edge_stride s e → edge_stride s before ≡ edge_stride s e
stride_before s e before is =
    let same : edge_axis e ≡ edge_axis before = ap edge_axis is ∙ same_axis before (stride (edge_axis e) s) in
    ap (λ axis. 2 * stride axis s) (sym same)

-- the loads up to an edge number stand in the table, and from there on the differences
pub record IsSumming (s : Size) (differences : List ℕ) (upto : ℕ) (now : List ℕ) : Type 0 where
  pub done : (load : ℕ → ℕ) → AreDifferences s load differences → ((e : ℕ) → e < 2 * vertices s → load e < 2 ^ 64) → (e : ℕ) → e < upto → slice_index now e ≡ load e
  pub left : (e : ℕ) → upto ≤ e → slice_index now e ≡ slice_index differences e

pub none_summed : (s : Size) (differences : List ℕ) → IsSumming s differences 0 differences
none_summed s differences = record { done = λ load are small e none. absurd (omega (arith, none)); left = λ e past. refl }

small_rest : (n : ℕ) → n < 2 ^ 64 → n % 2 ^ 64 ≡ n
small_rest n small = omega arith

-- the first on a line
pub first_summed : (s : Size) (differences now : List ℕ) (at : ℕ) → at < 2 * vertices s → at < edge_stride s at → IsSumming s differences at now → IsSumming s differences (at + 1) now
first_summed s differences now at within first so_far = record {
  done = λ load are small e below. ⊎_elim
      (λ (here : e ≡ at). rw here (so_far.left at (omega arith) ∙ are.first at within first ∙ small_rest (load at) (small at within)))
      (λ (other : e ≢ at). so_far.done load are small e (omega (arith, below, other)))
      (cases_eq e at);
  left = λ e past. so_far.left e (omega (arith, past));
}

-- one with another before it
pub next_summed : (s : Size) (differences now : List ℕ) (at before : ℕ) → at < 2 * vertices s → at < length now → 0 < edge_stride s at → at ≡ before + edge_stride s at → IsSumming s differences at now → IsSumming s differences (at + 1) (slice_set now at ((slice_index now at + slice_index now before) % 2 ^ 64))
next_summed s differences now at before within inside some is so_far =
    let sum = (slice_index now at + slice_index now before) % 2 ^ 64 in
    let same : slice_index (slice_set now at sum) at ≡ sum = get_or-set_same now at sum 0 inside in
    let other : (e : ℕ) → e ≢ at → slice_index (slice_set now at sum) e ≡ slice_index now e = λ e apart. get_or-set_other now at e sum 0 apart in
    let on : at ≡ before + edge_stride s before = omega (arith, is, stride_before s at before is) in
    record {
      done = λ load are small e below. ⊎_elim
          (λ (here : e ≡ at).
          let step = are.next before (subst (λ n. n < 2 * vertices s) on within) in
          let here_step : (load before + slice_index differences at) % 2 ^ 64 ≡ load at % 2 ^ 64 = subst (λ n. (load before + slice_index differences n) % 2 ^ 64 ≡ load n % 2 ^ 64) (sym on) step in
          rw (here, same) (omega (arith, here_step, so_far.left at (omega arith), so_far.done load are small before (omega (arith, is, some)), small at within)))
          (λ (apart : e ≢ at). rw (other e apart) (so_far.done load are small e (omega (arith, below, apart))))
          (cases_eq e at);
      left = λ e past. let apart : e ≢ at = omega (arith, past) in rw (other e apart) (so_far.left e (omega (arith, past)));
    }
