-- The places of nets by their ids, as one more net is entered.
use Rattle.std.proofs.Common.{◌≡◌, ◌≢◌, ℕ, ◌+◌, List, Option, Some, sym, ◌∙◌, ap, subst, ⊎_elim, arith}
use Rattle.std.proofs.lemmas.Bool.{cases_eq}
use Rattle.std.proofs.lemmas.Option.{same_Some}
use Rattle.grid_base.specs.Lists.{At}
use Rattle.grid_graph.specs.declared.net_spec.NetSpec.{NetSpec}
use Rattle.grid_graph.specs.Nets.{IdsDiffer}
use Rattle.route_judge.specs.NetPlaces.{ArePlacesBelow}

-- one more net is entered, under its id
pub one_more_place : (nets : List NetSpec) (k : ℕ) (n : NetSpec) (before after : ℕ → Option ℕ) → IdsDiffer nets → At nets k n → after n.id ≡ Some k → ((q : ℕ) → n.id ≢ q → after q ≡ before q) → ArePlacesBelow nets k before → ArePlacesBelow nets (k + 1) after
one_more_place nets k n before after differ at here others places = record {
  stands = λ id place found. ⊎_elim
      (λ (same : n.id ≡ id).
      let is : k ≡ place = same_Some _ _ (sym here ∙ ap after same ∙ found) in
      (omega (arith, is), (n, subst (λ j. At nets j n) is at, same)))
      (λ (other : n.id ≡ id → ⊥).
      let old = places.stands id place (sym (others id other) ∙ found) in
      (omega (arith, old.0), old.1))
      (cases_eq n.id id);
  known = λ place m below at_place. ⊎_elim
      (λ (same : n.id ≡ m.id).
      let is : k ≡ place = differ k place n m at at_place same in
      ap after (sym same) ∙ here ∙ ap (λ j. Some j) is)
      (λ (other : n.id ≡ m.id → ⊥).
      let earlier : place ≢ k = λ is. other (ap (λ (x : NetSpec). x.id) (same_Some _ _ (sym at ∙ subst (λ j. At nets j m) is at_place))) in
      others m.id other ∙ places.known place m (omega (arith, below, earlier)) at_place)
      (cases_eq n.id m.id);
}
