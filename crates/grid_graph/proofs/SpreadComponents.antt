-- How components come to tell what a set of pieces joins.
use Rattle.std.proofs.Common.{◌≡◌, ℕ, ◌==◌, Bool, true, false, List, length, replicate, slice_index, cond, Option, None, Some, IsSome, refl, sym, ◌∙◌, ap, ⊎_elim, arith, eq-eqb}
use Rattle.std.proofs.lemmas.List.{get_or-replicate}
use Rattle.std.proofs.lemmas.Option.{same_Some}
use Rattle.grid_base.specs.declared.piece.Piece.{Piece}
use Rattle.grid_base.specs.declared.size.Size.{Size}
use Rattle.grid_base.specs.Flood.{IsClosed, IsFlooded}
use Rattle.grid_base.specs.Numbers.{vertices, IsVertex}
use Rattle.grid_base.specs.Walks.{AreLinked, WalkBetween}
use Rattle.grid_base.proofs.Walks.{WalkBetween-sym, WalkBetween-trans, WalkBetween-link, AreLinked-sym, linked_vertex, walk_vertices, closed_under_walks}
use Rattle.grid_base.proofs.Options.{some_is, none_or_some, some_value}
use Rattle.grid_graph.specs.Components.{AreComponents, component_of, no_component}

-- each component is a vertex that a walk joins to its bearer, and all that is linked to a bearer has its component too
pub record AreSpread (s : Size) (F : Piece → Type 0) (components : ℕ → Option ℕ) : Type 0 where
  pub rooted : (v l : ℕ) → IsVertex s v → components v ≡ Some l → WalkBetween s F l v
  pub level : (v w l : ℕ) → components v ≡ Some l → AreLinked s F v w → components w ≡ Some l

-- so all that is linked to a numbered vertex is numbered
pub IsClosed-spread : (s : Size) (F : Piece → Type 0) (components : ℕ → Option ℕ) → AreSpread s F components → IsClosed s F components
IsClosed-spread s F components spread v w had link =
    let component = some_value (components v) had in
    some_is (components w) component.0 (spread.level v w component.0 component.1 link)

-- a flood that gives its start's own number as component spreads it
pub AreSpread-flooded : (s : Size) (F : Piece → Type 0) (before after : ℕ → Option ℕ) (root : ℕ) → AreSpread s F before → IsFlooded s F before after root root → AreSpread s F after
AreSpread-flooded s F before after root spread flooded =
    let same : (v l m : ℕ) → after v ≡ Some l → before v ≡ Some m → m ≡ l = λ v l m has had. same_Some m l (sym (flooded.kept v m had) ∙ has) in
    record {
      rooted = λ v l vertex has. ⊎_elim
          (λ none. let new = flooded.new v l none has in rw new.0 new.1)
          (λ old. rw (sym (same v l old.0 has old.1)) (spread.rooted v old.0 vertex old.1))
          (none_or_some (before v));
      level = λ v w l has link. ⊎_elim
          (λ none.
          let new = flooded.new v l none has in
          let walk = WalkBetween-trans s F root v w new.1 (WalkBetween-link s F v w link) in
          let next = some_value (after w) (flooded.reached w walk) in
          ⊎_elim
          (λ fresh. next.1 ∙ ap (λ (x : ℕ). Some x) ((flooded.new w next.0 fresh next.1).0 ∙ sym new.0))
          (λ old. let no : None ≡ Some old.0 = sym none ∙ spread.level w v old.0 old.1 (AreLinked-sym s F v w link) in cc)
          (none_or_some (before w)))
          (λ old. flooded.kept w l (spread.level v w l (old.1 ∙ ap (λ (x : ℕ). Some x) (same v l old.0 has old.1)) link))
          (none_or_some (before v));
    }

not_both : (l : ℕ) → None ≡ Some l → ⊥
not_both l is = let no : ◌≡◌ {A = ℕ} 1 0 = cc in omega (arith, no)

unnumbered : (component : ℕ) → component ≡ no_component → cond (component == no_component) None (Some component) ≡ None
unnumbered component is = rw (eq-eqb component no_component is) refl

value_if : (b : Bool) (n l : ℕ) → cond b None (Some n) ≡ Some l → n ≡ l
value_if true n l is = cc
value_if false n l is = same_Some n l is

-- the component is the one that stands in the list
pub component_value : (components : List ℕ) (v l : ℕ) → component_of components v ≡ Some l → slice_index components v ≡ l
component_value components v l is = value_if (slice_index components v == no_component) (slice_index components v) l is

-- where no vertex has a component, the components are spread
pub AreSpread-blank : (s : Size) (F : Piece → Type 0) → AreSpread s F (component_of (replicate (vertices s) no_component))
AreSpread-blank s F =
    let components = replicate (vertices s) no_component in
    let none : (v : ℕ) → IsVertex s v → component_of components v ≡ None = λ v vertex. unnumbered (slice_index components v) (get_or-replicate (vertices s) v no_component 0 vertex) in
    record {
      rooted = λ v l vertex has. absurd (not_both l (sym (none v vertex) ∙ has));
      level = λ v w l has link. let no : None ≡ Some l = sym (none v (linked_vertex s F v w link)) ∙ has in cc;
    }

-- where all vertices have components that are spread, the components tell what F joins
pub AreComponents-from_spread : (s : Size) (F : Piece → Type 0) (components : List ℕ) → length components ≡ vertices s → AreSpread s F (component_of components) → ((v : ℕ) → IsVertex s v → IsSome (component_of components v)) → AreComponents s F components
AreComponents-from_spread s F components long spread all =
    let component : (v : ℕ) → IsVertex s v → component_of components v ≡ Some (slice_index components v) = λ v vertex.
    let value = some_value (component_of components v) (all v vertex) in
    value.1 ∙ ap (λ (x : ℕ). Some x) (sym (component_value components v value.0 value.1)) in
    record {
      long = long;
      joined = λ a b a_vertex b_vertex same.
          WalkBetween-trans s F a (slice_index components a) b
          (WalkBetween-sym s F (slice_index components a) a (spread.rooted a (slice_index components a) a_vertex (component a a_vertex)))
          (spread.rooted b (slice_index components a) b_vertex (component b b_vertex ∙ ap (λ (x : ℕ). Some x) (sym same)));
      apart = λ a b walk.
          let at_a = component a (walk_vertices s F a b walk).0 in
          sym (component_value components b (slice_index components a)
          (closed_under_walks s F (λ v. component_of components v ≡ Some (slice_index components a)) (λ u w has link. spread.level u w (slice_index components a) has link) a b at_a walk));
    }
