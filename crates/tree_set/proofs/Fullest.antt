-- The fullest of some edges, as one more edge is looked at.
use Rattle.std.proofs.Common.{◌≡◌, ◌≢◌, ℕ, ◌+◌, ◌*◌, ◌≤◌, ◌<◌, Bool, true, false, cond, ltb, Option, Some, None, refl, sym, subst, inl, inr, ◌⊎◌, ⊎_elim, arith}
use Rattle.std.proofs.lemmas.Bool.{ltb-true, cases_eq, cases_lt}
use Rattle.std.proofs.lemmas.List.{get_or_past}
use Rattle.grid_base.specs.declared.edge.Edge.{Edge}
use Rattle.grid_base.specs.Numbers.{vertices}
use Rattle.grid_graph.specs.declared.grid.Grid.{Grid}
use Rattle.grid_graph.specs.declared.kind.Kind.TheVariants.{Open, Choked, Wall}
use Rattle.grid_graph.specs.Grids.{kind, capacity, first_capacity, IsEdgeNumber, size_of}
use Rattle.tree_set.specs.Fullest.{IsFullest, IsFullestBelow}
use Rattle.fractions.specs.Fractions.{IsRatio}
use Rattle.tree_set.specs.Measures.{IsGreatest}
use Rattle.fractions.specs.declared.fraction.Fraction.{Fraction}
use Rattle.fractions.proofs.Ratios.{ratio-trans}

open_by_test : (has had : Bool) → cond has Open (cond had Choked Wall) ≡ Open → has ≡ true
open_by_test true had is = refl
open_by_test false true is = cc
open_by_test false false is = cc

-- an open edge has capacity
pub capacity-open : (g : Grid) (e : ℕ) → kind g e ≡ Open → 0 < capacity g e
capacity-open g e is = ltb-true 0 (capacity g e) (open_by_test (ltb 0 (capacity g e)) (ltb 0 (first_capacity g e)) is)

below_or_at : (e n : ℕ) → e < n + 1 → (e < n) ⊎ (e ≡ n)
below_or_at e n below = ⊎_elim (λ is. inr is) (λ other. inl (omega arith)) (cases_eq e n)

-- the edge at n is no open one, so the fullest stays
pub IsFullestBelow-shut : (g : Grid) (load : ℕ → ℕ) (n : ℕ) (fullest : Option Edge) → IsFullestBelow g load n fullest → kind g n ≢ Open → IsFullestBelow g load (n + 1) fullest
IsFullestBelow-shut g load n None before shut = λ e below. ⊎_elim (λ (less : e < n). before e less) (λ (is : e ≡ n). λ at. shut (subst (λ (x : ℕ). kind g x ≡ Open) is at)) (below_or_at e n below)
IsFullestBelow-shut g load n (Some edge) before shut = record {
  number = before.number;
  is_open = before.is_open;
  most = λ e below at. ⊎_elim (λ (less : e < n). before.most e less at) (λ (is : e ≡ n). absurd (shut (subst (λ (x : ℕ). kind g x ≡ Open) is at))) (below_or_at e n below);
}

-- the edge at n is open, and the fullest is at least as full
pub IsFullest-kept : (g : Grid) (load : ℕ → ℕ) (n edge : ℕ) → IsFullest g load n edge → load n * capacity g edge ≤ load edge * capacity g n → IsFullest g load (n + 1) edge
IsFullest-kept g load n edge before less = record {
  number = before.number;
  is_open = before.is_open;
  most = λ e below at. ⊎_elim
      (λ (earlier : e < n). before.most e earlier at)
      (λ (is : e ≡ n). subst (λ (x : ℕ). load x * capacity g edge ≤ load edge * capacity g x) (sym is) less)
      (below_or_at e n below);
}

-- the edge at n is open, and fuller than the fullest before
pub IsFullest-replaced : (g : Grid) (load : ℕ → ℕ) (n edge : ℕ) → IsFullest g load n edge → IsEdgeNumber g n → kind g n ≡ Open → load edge * capacity g n < load n * capacity g edge → IsFullest g load (n + 1) n
IsFullest-replaced g load n edge before number is_open more = record {
  number = number;
  is_open = is_open;
  most = λ e below at. ⊎_elim
      (λ (earlier : e < n). ratio-trans (load e) (capacity g e) (load edge) (capacity g edge) (load n) (capacity g n)
      (before.most e earlier at) (omega (arith, more)) (capacity-open g edge before.is_open))
      (λ (is : e ≡ n). subst (λ (x : ℕ). load x * capacity g n ≤ load n * capacity g x) (sym is) (omega arith))
      (below_or_at e n below);
}

-- the edge at n is open, and the first that is
pub IsFullest-first : (g : Grid) (load : ℕ → ℕ) (n : ℕ) → ((e : ℕ) → e < n → kind g e ≢ Open) → IsEdgeNumber g n → kind g n ≡ Open → IsFullest g load (n + 1) n
IsFullest-first g load n before number is_open = record {
  number = number;
  is_open = is_open;
  most = λ e below at. ⊎_elim
      (λ (earlier : e < n). absurd (before e earlier at))
      (λ (is : e ≡ n). subst (λ (x : ℕ). load x * capacity g n ≤ load n * capacity g x) (sym is) (omega arith))
      (below_or_at e n below);
}

-- a number without an edge isn't open
pub IsEdgeNumber-open : (g : Grid) (e : ℕ) → kind g e ≡ Open → IsEdgeNumber g e
IsEdgeNumber-open g e is =
    let has = capacity-open g e is in
    ⊎_elim (λ (inside : e < 2 * vertices (size_of g)). inside) (λ (past : 2 * vertices (size_of g) ≤ e). let none : capacity g e ≡ 0 = get_or_past g.capacities.items e 0 (rw g.table.long past) in absurd (omega arith)) (cases_lt e (2 * vertices (size_of g)))

-- the ratio of the fullest of all edges is the peak
pub IsGreatest-fullest : (g : Grid) (load : ℕ → ℕ) (n edge : ℕ) (f : Fraction) → IsFullest g load n edge → n ≡ 2 * vertices (size_of g) → IsRatio (load edge) (capacity g edge) f → IsGreatest g load f
IsGreatest-fullest g load n edge f fullest all ratio = record {
  edge = edge;
  is_open = fullest.is_open;
  reached = ratio;
  most = λ e at. ratio-trans (load e) (capacity g e) (load edge) (capacity g edge) f.num f.den
      (fullest.most e (rw all (IsEdgeNumber-open g e at)) at) (omega (arith, ratio)) (capacity-open g edge fullest.is_open);
}
