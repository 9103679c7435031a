-- Which sets nets have after several changes.
use Rattle.std.proofs.Common.{◌≡◌, ◌≢◌, ℕ, zero, suc, inl, inr, ⊎_elim, List, [], ◌∷◌, ◌++◌, slice_set, Contains, refl, sym, ◌∙◌, ap, subst, arith}
use Rattle.std.proofs.lemmas.Bool.{cases_eq}
use Rattle.std.proofs.lemmas.List.Elements.{Contains-append_cases}
use Rattle.std.proofs.lemmas.Option.{same_Some}
use Rattle.std.proofs.lemmas.List.{length-set}
use Rattle.grid_base.specs.declared.piece.Piece.{Piece}
use Rattle.grid_base.specs.Lists.{At}
use Rattle.grid_graph.specs.declared.design.Design.{Design}
use Rattle.grid_graph.specs.declared.grid.Grid.{Grid}
use Rattle.grid_graph.specs.declared.ground.Ground.{Ground}
use Rattle.grid_graph.specs.declared.ground.Ground.TheVariants.{Open, WithChoked}
use Rattle.grid_graph.specs.declared.net_spec.NetSpec.{NetSpec}
use Rattle.grid_graph.proofs.Grounds.{Allows-choked}
use Rattle.tree_set.specs.Routings.{IsRoute, KeepsTo}
use Rattle.routing_state.specs.declared.totals.Totals.{Totals}
use Rattle.routing_state.specs.Totals.{IsNoWorse}
use Rattle.negotiation.specs.Changes.{AreChanged, IsKeptOrRoute}

-- what keeps to a ground holds no wall
pub KeepsTo-no_wall : (g : Grid) (over : Ground) (tree : List Piece) → KeepsTo g over tree → KeepsTo g WithChoked tree
KeepsTo-no_wall g Open tree keeps = λ i d short. Allows-choked g _ (keeps i d short)
KeepsTo-no_wall g WithChoked tree keeps = keeps

-- nothing is in the empty list
pub none_in : {X : Type 0} (x : X) → ¬ Contains [] x
none_in x in_none = absurd (omega (arith, in_none.1))

-- the element that was set
At-set_same : {X : Type 0} (xs : List X) (k : ℕ) (y z : X) → At (slice_set xs k y) k z → z ≡ y
At-set_same [] k y z at = cc
At-set_same (x ∷ xs) zero y z at = sym (same_Some _ _ at)
At-set_same (x ∷ xs) (suc k) y z at = At-set_same xs k y z at

-- another one
At-set_other : {X : Type 0} (xs : List X) (k j : ℕ) (y z : X) → j ≢ k → At (slice_set xs k y) j z → At xs j z
At-set_other [] k j y z other at = at
At-set_other (x ∷ xs) zero zero y z other at = absurd (other refl)
At-set_other (x ∷ xs) zero (suc j) y z other at = at
At-set_other (x ∷ xs) (suc k) zero y z other at = at
At-set_other (x ∷ xs) (suc k) (suc j) y z other at = At-set_other xs k j y z (λ same. other (ap suc same)) at

-- nothing changed
pub unchanged : (d : Design) (xs : List (List Piece)) → AreChanged d [] xs xs
unchanged d xs = record { long = refl; each = λ k n tree at_n at. inl (at, none_in k) }

-- one change after another
pub changed_then : (d : Design) (a b : List ℕ) (xs ys zs : List (List Piece)) → AreChanged d a xs ys → AreChanged d b ys zs → AreChanged d (a ++ b) xs zs
changed_then d a b xs ys zs first second = record {
  long = second.long ∙ first.long;
  each = λ k n tree at_n at.
      elim (second.each k n tree at_n at) as (λ _. IsKeptOrRoute d (a ++ b) xs k n tree) [
        | inl kept ↦
            elim (first.each k n tree at_n kept.0) as (λ _. IsKeptOrRoute d (a ++ b) xs k n tree) [
              | inl had ↦ inl (had.0, λ in_both. ⊎_elim had.1 kept.1 (Contains-append_cases a b k in_both))
              | inr route ↦ inr route
            ]
        | inr route ↦ inr route
      ];
}

-- where nets may keep their sets in the end, it doesn't matter which of them got new ones
pub changed_any : (d : Design) (a : List ℕ) (xs ys : List (List Piece)) → AreChanged d a xs ys → AreChanged d [] xs ys
changed_any d a xs ys change = record {
  long = change.long;
  each = λ k n tree at_n at.
      elim (change.each k n tree at_n at) as (λ _. IsKeptOrRoute d [] xs k n tree) [ inl kept ↦ inl (kept.0, none_in k) | inr route ↦ inr route ];
}

-- a change after which nets may keep their sets
pub changed_more : (d : Design) (a : List ℕ) (xs ys zs : List (List Piece)) → AreChanged d a xs ys → AreChanged d [] ys zs → AreChanged d a xs zs
changed_more d a xs ys zs first second = record {
  long = second.long ∙ first.long;
  each = λ k n tree at_n at.
      elim (second.each k n tree at_n at) as (λ _. IsKeptOrRoute d a xs k n tree) [ inl kept ↦ first.each k n tree at_n kept.0 | inr route ↦ inr route ];
}

-- one net gets a route
pub changed_at : (d : Design) (k : ℕ) (xs : List (List Piece)) (tree : List Piece) → ((n : NetSpec) → At d.nets k n → IsRoute d.grid n tree) → AreChanged d (k ∷ []) xs (slice_set xs k tree)
changed_at d k xs tree route = record {
  long = length-set xs k tree;
  each = λ j n other at_n at.
      elim (cases_eq j k) as (λ _. IsKeptOrRoute d (k ∷ []) xs j n other) [
        | inl same ↦
            inr (subst (λ (t : List Piece). IsRoute d.grid n t) (sym (At-set_same xs k tree other (subst (λ (i : ℕ). At (slice_set xs k tree) i other) same at)))
            (route n (subst (λ (i : ℕ). At d.nets i n) same at_n)))
        | inr differ ↦ inl (At-set_other xs k j tree other differ at, λ in_one. differ (one_in j k in_one))
      ];
}
  where
    one_in : (j k : ℕ) → Contains (k ∷ []) j → j ≡ k
    one_in j k (zero, short, is) = sym is
    one_in j k (suc i, short, is) = absurd (omega (arith, short))

-- no worse than what is no worse
pub no_worse_then : (a b c : Totals) → IsNoWorse a b → IsNoWorse b c → IsNoWorse a c
no_worse_then a b c first second =
    elim first as (λ _. IsNoWorse a c) [
      | inl less ↦ elim second as (λ _. IsNoWorse a c) [ inl more ↦ inl (omega (arith, less, more)) | inr same ↦ inl (omega (arith, less, same.0)) ]
      | inr equal ↦ elim second as (λ _. IsNoWorse a c) [ inl more ↦ inl (omega (arith, equal.0, more)) | inr same ↦ inr (equal.0 ∙ same.0, omega (arith, equal.1, same.1)) ]
    ]

pub no_worse_itself : (a : Totals) → IsNoWorse a a
no_worse_itself a = inr (refl, omega arith)
