-- What all steps together come to.
use Rattle.std.proofs.Common.{◌≡◌, ◌<◌, ◌⊎◌, ℕ, ◌≤◌, arith, inl, inr, List, [], length, sym, ◌∙◌, ap, subst}
use Rattle.std.proofs.lemmas.List.Elements.{All-contains}
use Rattle.grid_base.specs.declared.piece.Piece.{Piece}
use Rattle.grid_base.specs.Lists.{At}
use Rattle.grid_base.specs.Walks.{JoinsList}
use Rattle.grid_base.proofs.Lists.{member_from_place}
use Rattle.grid_graph.specs.declared.design.Design.{Design}
use Rattle.grid_graph.specs.declared.ground.Ground.TheVariants.{WithChoked}
use Rattle.grid_graph.specs.declared.net_spec.NetSpec.{NetSpec}
use Rattle.grid_graph.specs.Grids.{size_of}
use Rattle.tree_set.specs.Routings.{KeepsTo}
use Rattle.routing_state.specs.declared.state.RoutingState.{RoutingState}
use Rattle.routing_state.specs.declared.totals.Totals.{Totals}
use Rattle.routing_state.specs.States.{IsStateOf, totals_in, trees_of}
use Rattle.routing_state.specs.Totals.{IsNoWorse, totals_of}
use Rattle.negotiation.specs.declared.rerouted.Rerouted.{Rerouted}
use Rattle.negotiation.specs.declared.settings.RerouteSettings.{RerouteSettings}
use Rattle.negotiation.specs.Changes.{AreChanged}
use Rattle.negotiation.specs.Given.{AreGiven}
use Rattle.negotiation.specs.Limits.{patience}
use Rattle.negotiation.specs.Kept.{AreKeptBut}
use Rattle.negotiation.specs.Rerouted.{IsNetRerouted, IsRerouted}
use Rattle.negotiation.specs.Steps.{IsImproved, IsRenewed}
use Rattle.negotiation.proofs.Changes.{changed_more, no_worse_then}

-- nets that had sets joined by them, or routes, are joined
net_rerouted : (d : Design) (given : List (List Piece)) (missing : List ℕ) (s : RoutingState) → AreGiven d given missing → IsStateOf d s → AreChanged d missing given (trees_of s)
    → (k : ℕ) (n : NetSpec) (tree : List Piece) → At d.nets k n → At (trees_of s) k tree → IsNetRerouted d given missing k n tree
net_rerouted d given missing s are state changed k n tree at_n at = record {
  joined = elim (changed.each k n tree at_n at) as (λ _. JoinsList (size_of d.grid) tree n.terminals) [
    | inl kept ↦ are.joined k n tree at_n kept.0 kept.1
    | inr route ↦ route.joined
  ];
  no_wall = All-contains (KeepsTo d.grid WithChoked) (trees_of s) tree state.sets.no_walls (member_from_place (trees_of s) k tree at);
  from = changed.each k n tree at_n at;
}

-- the sets of the first state are the given ones; some are renewed, and then twice some are improved
pub rerouted : (d : Design) (given : List (List Piece)) (missing : List ℕ) (settings : RerouteSettings) (first begun negotiated last : RoutingState) (r : Rerouted)
    → AreGiven d given missing → IsStateOf d first → trees_of first ≡ given
    → IsRenewed d missing first begun → (missing ≡ [] → IsNoWorse (totals_in begun) (totals_in first))
    → IsImproved d begun negotiated → IsImproved d negotiated last
    → r.trees ≡ trees_of last → r.overflow ≡ (totals_in last).overflow → r.wirelength ≡ (totals_in last).wirelength → r.rounds ≤ settings.rounds
    → (settings.passes ≡ 0 → AreKeptBut missing (trees_of first) (trees_of begun)) → (r.rounds ≡ 0 → trees_of negotiated ≡ trees_of begun) → (settings.passes ≡ 0 → last ≡ negotiated)
    → (r.rounds < settings.rounds → (patience ≤ r.rounds) ⊎ ((totals_in negotiated).overflow ≡ 0))
    → IsRerouted d given missing settings r
rerouted d given missing settings first begun negotiated last r are is_first same renewed no_worse one two trees overflow wirelength rounds kept same_rounds same_passes enough =
    let changed : AreChanged d missing given (trees_of last) =
    subst (λ (xs : List (List Piece)). AreChanged d missing xs (trees_of last)) same
    (changed_more d missing (trees_of first) (trees_of negotiated) (trees_of last)
    (changed_more d missing (trees_of first) (trees_of begun) (trees_of negotiated) renewed.changed one.changed) two.changed) in
    let named : Totals = record { overflow = r.overflow; wirelength = r.wirelength } in
    record {
      long = ap (λ (xs : List (List Piece)). length xs) trees ∙ two.state.sets.one_each;
      each = λ k n tree at_n at. net_rerouted d given missing last are two.state changed k n tree at_n (subst (λ (xs : List (List Piece)). At xs k tree) trees at);
      overflow = overflow ∙ ap (λ (t : Totals). t.overflow) two.state.totals ∙ ap (λ (xs : List (List Piece)). (totals_of d xs).overflow) (sym trees);
      wirelength = wirelength ∙ ap (λ (t : Totals). t.wirelength) two.state.totals ∙ ap (λ (xs : List (List Piece)). (totals_of d xs).wirelength) (sym trees);
      no_worse = λ none.
          let down : IsNoWorse (totals_in last) (totals_in first) =
          no_worse_then (totals_in last) (totals_in negotiated) (totals_in first) two.no_worse
          (no_worse_then (totals_in negotiated) (totals_in begun) (totals_in first) one.no_worse (no_worse none)) in
          let of_given : totals_in first ≡ totals_of d given = is_first.totals ∙ ap (totals_of d) same in
          let to_given : IsNoWorse (totals_in last) (totals_of d given) = subst (λ (t : Totals). IsNoWorse (totals_in last) t) of_given down in
          rw (overflow, wirelength) to_given;
      rounds = rounds;
      enough = λ few.
          elim (enough few) as (λ _. (patience ≤ r.rounds) ⊎ (r.overflow ≡ 0)) [
            | inl long ↦ inl long
            | inr none ↦ inr (elim two.no_worse as (λ _. r.overflow ≡ 0) [ inl less ↦ absurd (omega (arith, less, none)) | inr same_too ↦ omega (arith, overflow, same_too.0, none) ])
          ];
      idle = λ none no_pass.
          let still : trees_of begun ≡ r.trees = sym (trees ∙ ap trees_of (same_passes no_pass) ∙ same_rounds none) in
          subst (λ (xs : List (List Piece)). AreKeptBut missing xs r.trees) same (subst (λ (xs : List (List Piece)). AreKeptBut missing (trees_of first) xs) still (kept no_pass));
    }
