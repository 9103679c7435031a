-- Steps of rerouting, one after another.
use Rattle.std.proofs.Common.{◌≡◌, ℕ, ◌⊎◌, inl, inr, Bool, true, false, IsTrue, slice_set, length, arith, Contains, List, [], ◌∷◌, ◌++◌, refl, sym, ◌∙◌, subst}
use Rattle.grid_base.specs.declared.piece.Piece.{Piece}
use Rattle.grid_base.specs.Lists.{At}
use Rattle.grid_graph.specs.declared.design.Design.{Design}
use Rattle.grid_graph.specs.declared.net_spec.NetSpec.{NetSpec}
use Rattle.tree_set.specs.Routings.{IsRoute}
use Rattle.routing_state.specs.declared.rerouting.Rerouting.{Rerouting}
use Rattle.routing_state.specs.declared.state.RoutingState.{RoutingState}
use Rattle.routing_state.specs.declared.totals.Totals.{Totals}
use Rattle.routing_state.specs.Best.{best_of, IsReroutingOf}
use Rattle.routing_state.specs.States.{IsStateOf, totals_in, trees_of}
use Rattle.routing_state.specs.Totals.{IsNoWorse}
use Rattle.negotiation.specs.Changes.{AreChanged, IsKeptOrRoute}
use Rattle.negotiation.specs.Steps.{IsImproved, IsNegotiated, IsRenewed, KeepsBest}
use Rattle.negotiation.proofs.Changes.{changed_any, changed_at, changed_more, changed_then, no_worse_itself, no_worse_then, unchanged}

module _ (d : Design) where
  pub renewed_none : (s : RoutingState) → IsStateOf d s → IsRenewed d [] s s
  renewed_none s is = record { state = is; changed = unchanged d (trees_of s) }

  pub renewed_then : (x y : List ℕ) (a b c : RoutingState) → IsRenewed d x a b → IsRenewed d y b c → IsRenewed d (x ++ y) a c
  renewed_then x y a b c first second = record {
    state = second.state;
    changed = changed_then d x y (trees_of a) (trees_of b) (trees_of c) first.changed second.changed;
  }

  pub improved_itself : (s : RoutingState) → IsStateOf d s → IsImproved d s s
  improved_itself s is = record { state = is; changed = unchanged d (trees_of s); no_worse = no_worse_itself (totals_in s) }

  pub improved_then : (a b c : RoutingState) → IsImproved d a b → IsImproved d b c → IsImproved d a c
  improved_then a b c first second = record {
    state = second.state;
    changed = changed_more d [] (trees_of a) (trees_of b) (trees_of c) first.changed second.changed;
    no_worse = no_worse_then (totals_in c) (totals_in b) (totals_in a) second.no_worse first.no_worse;
  }

  pub kept_itself : (r : Rerouting) → IsReroutingOf d r → KeepsBest d r r
  kept_itself r is = record { of = is; changed = unchanged d (trees_of r.state); best = refl; totals = refl }

  pub kept_then : (a b c : Rerouting) → KeepsBest d a b → KeepsBest d b c → KeepsBest d a c
  kept_then a b c first second = record {
    of = second.of;
    changed = changed_more d [] (trees_of a.state) (trees_of b.state) (trees_of c.state) first.changed second.changed;
    best = second.best ∙ first.best;
    totals = second.totals ∙ first.totals;
  }

  -- at first now and the best are the state
  pub negotiated_first : (first : RoutingState) (r : Rerouting) → IsReroutingOf d r → r.state ≡ first → best_of r ≡ trees_of first → r.best ≡ totals_in first → IsNegotiated d first r
  negotiated_first first r is now best totals = record {
    of = is;
    now = subst (λ (s : RoutingState). AreChanged d [] (trees_of first) (trees_of s)) (sym now) (unchanged d (trees_of first));
    best = subst (λ (xs : List (List Piece)). AreChanged d [] (trees_of first) xs) (sym best) (unchanged d (trees_of first));
    no_worse = subst (λ (t : Totals). IsNoWorse t (totals_in first)) (sym totals) (no_worse_itself (totals_in first));
  }

  -- a round, and the best that is kept behind it
  pub negotiated_more : (first : RoutingState) (a b c : Rerouting) → IsNegotiated d first a → KeepsBest d a b
      → IsReroutingOf d c → c.state ≡ b.state → (best_of c ≡ trees_of b.state) ⊎ (best_of c ≡ best_of b) → IsNoWorse c.best b.best
      → IsNegotiated d first c
  negotiated_more first a b c so_far round is now best no_worse =
      let now_b : AreChanged d [] (trees_of first) (trees_of b.state) =
      changed_more d [] (trees_of first) (trees_of a.state) (trees_of b.state) so_far.now round.changed in
      let best_b : AreChanged d [] (trees_of first) (best_of b) =
      subst (λ (xs : List (List Piece)). AreChanged d [] (trees_of first) xs) (sym round.best) so_far.best in
      let low : IsNoWorse b.best (totals_in first) = subst (λ (t : Totals). IsNoWorse t (totals_in first)) (sym round.totals) so_far.no_worse in
      record {
        of = is;
        now = subst (λ (s : RoutingState). AreChanged d [] (trees_of first) (trees_of s)) (sym now) now_b;
        best = elim best as (λ _. AreChanged d [] (trees_of first) (best_of c)) [
          | inl of_now ↦ subst (λ (xs : List (List Piece)). AreChanged d [] (trees_of first) xs) (sym of_now) now_b
          | inr same ↦ subst (λ (xs : List (List Piece)). AreChanged d [] (trees_of first) xs) (sym same) best_b
        ];
        no_worse = no_worse_then c.best b.best (totals_in first) no_worse low;
      }

  -- one net gets a route, whatever it costs
  pub kept_put : (old new : Rerouting) (k : ℕ) (tree : List Piece) → ((n : NetSpec) → At d.nets k n → IsRoute d.grid n tree)
      → IsReroutingOf d new → trees_of new.state ≡ slice_set (trees_of old.state) k tree → best_of new ≡ best_of old → new.best ≡ old.best → KeepsBest d old new
  kept_put old new k tree route of trees best totals = record {
    of = of;
    changed = subst (λ (xs : List (List Piece)). AreChanged d [] (trees_of old.state) xs) (sym trees)
        (changed_any d (k ∷ []) (trees_of old.state) (slice_set (trees_of old.state) k tree) (changed_at d k (trees_of old.state) tree route));
    best = best;
    totals = totals;
  }

  pub renewed_at : (old new : RoutingState) (k : ℕ) (tree : List Piece) → ((n : NetSpec) → At d.nets k n → IsRoute d.grid n tree)
      → IsStateOf d new → trees_of new ≡ slice_set (trees_of old) k tree → IsRenewed d (k ∷ []) old new
  renewed_at old new k tree route state trees = record {
    state = state;
    changed = subst (λ (xs : List (List Piece)). AreChanged d (k ∷ []) (trees_of old) xs) (sym trees) (changed_at d k (trees_of old) tree route);
  }

  -- one net is offered a route
  pub improved_by : (old new : RoutingState) (k : ℕ) (tree : List Piece) (got : Bool) → ((n : NetSpec) → At d.nets k n → IsRoute d.grid n tree)
      → IsStateOf d new → (IsTrue got → trees_of new ≡ slice_set (trees_of old) k tree) → (¬ IsTrue got → trees_of new ≡ trees_of old)
      → IsNoWorse (totals_in new) (totals_in old) → IsImproved d old new
  improved_by old new k tree true route state got kept no_worse = record {
    state = state;
    changed = subst (λ (xs : List (List Piece)). AreChanged d [] (trees_of old) xs) (sym (got refl))
        (changed_any d (k ∷ []) (trees_of old) (slice_set (trees_of old) k tree) (changed_at d k (trees_of old) tree route));
    no_worse = no_worse;
  }
  improved_by old new k tree false route state got kept no_worse = record {
    state = state;
    changed = subst (λ (xs : List (List Piece)). AreChanged d [] (trees_of old) xs) (sym (kept (λ no. cc))) (unchanged d (trees_of old));
    no_worse = no_worse;
  }

  -- where no net is to get a route in any case, what is improved is renewed
  pub improved_renewed : (a : List ℕ) (old new : RoutingState) → length a ≡ 0 → IsImproved d old new → IsRenewed d a old new
  improved_renewed a old new none is = record {
    state = is.state;
    changed = record {
      long = is.changed.long;
      each = λ k n tree at_n at.
          elim (is.changed.each k n tree at_n at) as (λ _. IsKeptOrRoute d a (trees_of old) k n tree) [
            | inl kept ↦ inl (kept.0, λ in_a. absurd (omega (arith, none, in_a.1)))
            | inr route ↦ inr route
          ];
    };
  }

  -- fewer nets had to get routes
  pub renewed_fewer : (a b : List ℕ) (old new : RoutingState) → ((k : ℕ) → Contains b k → Contains a k) → IsRenewed d a old new → IsRenewed d b old new
  renewed_fewer a b old new within is = record {
    state = is.state;
    changed = record {
      long = is.changed.long;
      each = λ k n tree at_n at.
          elim (is.changed.each k n tree at_n at) as (λ _. IsKeptOrRoute d b (trees_of old) k n tree) [
            | inl kept ↦ inl (kept.0, λ in_b. kept.1 (within k in_b))
            | inr route ↦ inr route
          ];
    };
  }
