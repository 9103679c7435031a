use Rattle.std.proofs.Common.{◌≡◌, ℕ, length, sym, ◌∙◌, ap, subst, ⊎_elim, arith}
use Rattle.std.proofs.lemmas.Bool.{cases_eq}
use Rattle.std.proofs.lemmas.List.{length-replicate}
use Rattle.grid_base.specs.declared.size.Size.{Size}
use Rattle.grid_base.specs.Flood.{IsFlooded}
use Rattle.grid_base.specs.Numbers.{vertices, IsVertex}
use Rattle.grid_base.proofs.Walks.{WalkBetween-refl}
use Rattle.grid_base.proofs.Options.{some_is, some_value}
use Rattle.grid_graph.specs.Grids.{Allows}
use Rattle.grid_graph.specs.Components.{AreComponents, component_of, no_component}
use Rattle.grid_graph.proofs.SpreadComponents.{AreSpread-blank, AreSpread-flooded, IsClosed-spread, AreComponents-from_spread}
use Rattle.grid_graph.proofs.components_of.components_of.Goals as goal

pub loop-v-init : goal.loop-v-init
loop-v-init c =
    let s = c.size-size.result in
    let F = Allows c.args.grid.now c.args.over in
    let blank = c.in_ok-components.ensures in
    record {
      long = ap (length {A = ℕ}) blank ∙ length-replicate (vertices s) no_component;
      spread = rw blank (AreSpread-blank s F);
      numbered = λ k below. absurd (omega (arith, below));
    }

pub flood-requires-clause-limit : goal.flood-requires-clause-limit
flood-requires-clause-limit c = omega (arith, ap (length {A = ℕ}) c.give.ensures.numbers, c.loop-v.invariant.long)

pub flood-requires-clause-closed : goal.flood-requires-clause-closed
flood-requires-clause-closed c =
    rw c.give.ensures.numbers
    (IsClosed-spread c.size-size.result (Allows c.args.grid.now c.args.over) (component_of c.loop-v.components.numbers.items) c.loop-v.invariant.spread)

pub loop-v-preserved : goal.loop-v-preserved
loop-v-preserved c =
    let s = c.size-size.result in
    let F = Allows c.args.grid.now c.args.over in
    let old = c.loop-v.components.numbers.items in
    let new = c.flood.new.marks.numbers.items in
    let root = c.loop-v.v in
    let vertex : IsVertex s root = omega (arith, c.loop-v-test.true, c.vertices-v-end.ensures) in
    let flooded : IsFlooded s F (component_of old) (component_of new) root root =
    rw (sym c.give.ensures.numbers) (subst (λ (m : ℕ). IsFlooded s F (component_of c.give.new.self.numbers.items) (component_of new) m root) c.give.ensures.number c.in_ok-flood.ensures.flooded) in
    record {
      long = c.in_ok-flood.ensures.limit ∙ ap (length {A = ℕ}) c.give.ensures.numbers ∙ c.loop-v.invariant.long;
      spread = AreSpread-flooded s F (component_of old) (component_of new) root c.loop-v.invariant.spread flooded;
      numbered = λ k below. ⊎_elim
          (λ (is : k ≡ root). rw is (flooded.reached root (WalkBetween-refl s F root vertex)))
          (λ other.
          let value = some_value (component_of old k) (c.loop-v.invariant.numbered k (omega arith)) in
          some_is (component_of new k) value.0 (flooded.kept k value.0 value.1))
          (cases_eq k root);
    }

pub returns : goal.returns
returns c =
    let components = c.loop-v.components.numbers.items in
    rw c.into_list.ensures
    (subst (λ (s : Size). AreComponents s (Allows c.args.grid.now c.args.over) components) c.size-size.ensures
    (AreComponents-from_spread c.size-size.result (Allows c.args.grid.now c.args.over) components c.loop-v.invariant.long c.loop-v.invariant.spread
    (λ v vertex. c.loop-v.invariant.numbered v (omega (arith, vertex, c.loop-v-test.false, c.vertices-v-end.ensures)))))
