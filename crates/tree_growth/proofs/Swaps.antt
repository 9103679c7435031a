-- Near targets first.
use Rattle.std.proofs.Common.{ℕ, List, Some, ◌≡◌, ◌<◌, ◌≤◌, ◌+◌, length, get_or, slice_get, swap, ap, sym, ◌∙◌, inl, inr, arith}
use Rattle.std.proofs.lemmas.Bool.{cases_eq, cases_lt}
use Rattle.std.proofs.lemmas.List.Edits.{swapped_from_swap, length-swap}
use Rattle.std.proofs.lemmas.Option.{slice_get_within, slice_get-get_or, get_or_from_slice_get}
use Rattle.net_search.specs.declared.target.Target.{Target}
use Rattle.tree_growth.specs.Nearest.{AreNearestFirst, IsNearestFrom}

-- what stands at a place now stood at another one before
moved : (old new : List Target) (k m : ℕ) (d x : Target) → slice_get new k ≡ Some x → m < length old → get_or new k d ≡ get_or old m d → slice_get old m ≡ Some x
moved old new k m d x found within same =
    slice_get-get_or old m d within ∙ ap (λ (y : Target). Some y) (sym same ∙ get_or_from_slice_get new k x d found)

-- what stands behind a place stood behind it before
behind : (old new : List Target) (place at : ℕ) → place ≤ at → at < length old → new ≡ swap old place at
    → (k : ℕ) (x : Target) → place ≤ k → slice_get new k ≡ Some x → (m : ℕ) × (place ≤ m) × (slice_get old m ≡ Some x)
behind old new place at order within swapped k x from found =
    let s = swapped_from_swap old new place at x (omega (arith, order, within)) within swapped in
    let long : length new ≡ length old = ap length swapped ∙ length-swap old place at in
    let there : k < length new = slice_get_within new k x found in
    elim (cases_eq k place) [
      | inl first ↦ (at, order, moved old new k at x x found within (ap (λ j. get_or new j x) first ∙ s.0))
      | inr other ↦ elim (cases_eq k at) [
        | inl last ↦ (place, omega arith, moved old new k place x x found (omega (arith, order, within)) (ap (λ j. get_or new j x) last ∙ s.1))
        | inr neither ↦ (k, from, moved old new k k x x found (omega (arith, there, long)) (s.2 k other neither))
      ]
    ]

-- and what stands before it, stood there
before : (old new : List Target) (place at : ℕ) → place ≤ at → at < length old → new ≡ swap old place at
    → (k : ℕ) (x : Target) → k < place → slice_get new k ≡ Some x → slice_get old k ≡ Some x
before old new place at order within swapped k x less found =
    let s = swapped_from_swap old new place at x (omega (arith, order, within)) within swapped in
    moved old new k k x x found (omega (arith, order, within, less)) (s.2 k (λ is. omega (arith, is, less)) (λ is. omega (arith, is, less, order)))

-- where the nearest one of those behind is brought forward, one more is in its place
pub nearest_more : (old new : List Target) (place at : ℕ) → place ≤ at → at < length old → new ≡ swap old place at
    → IsNearestFrom old place at → AreNearestFirst old place → AreNearestFirst new (place + 1)
nearest_more old new place at order within swapped nearest first i j near far below ordered at_i at_j = elim (cases_lt i place) [
  | inl less ↦ elim (cases_lt j place) [
    | inl short ↦ first i j near far less ordered (before old new place at order within swapped i near less at_i) (before old new place at order within swapped j far short at_j)
    | inr long ↦
        let there : (m : ℕ) × (place ≤ m) × (slice_get old m ≡ Some far) = behind old new place at order within swapped j far long at_j in
        first i there.0 near far less (omega (arith, less, there.1)) (before old new place at order within swapped i near less at_i) there.2
  ]
  | inr past ↦
      let s = swapped_from_swap old new place at near (omega (arith, order, within)) within swapped in
      let is : i ≡ place = omega (arith, past, below) in
      let there : (m : ℕ) × (place ≤ m) × (slice_get old m ≡ Some far) = behind old new place at order within swapped j far (omega (arith, past, ordered)) at_j in
      nearest there.0 near far there.1 (moved old new i at near near at_i within (ap (λ k. get_or new k near) is ∙ s.0)) there.2
]
