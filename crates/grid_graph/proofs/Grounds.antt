-- Grounds by components.
use Rattle.std.proofs.Common.{◌≡◌, ℕ, ◌<◌, List, [], ◌∷◌, ◌++◌, length, get_or, refl, sym, ◌∙◌, ap, subst, ⊎_elim, arith}
use Rattle.std.proofs.lemmas.Option.{same_Some, slice_get_read, slice_get-get_or, slice_get_cases}
use Rattle.grid_base.specs.declared.piece.Piece.{Piece}
use Rattle.grid_base.specs.declared.piece.Piece.TheVariants.{Edge, Via}
use Rattle.grid_base.specs.declared.size.Size.{Size}
use Rattle.grid_base.specs.declared.vertex.Vertex.{Vertex}
use Rattle.grid_base.specs.Numbers.{IsVertex}
use Rattle.grid_base.specs.Walks.{Joins, InVertices}
use Rattle.grid_base.proofs.Walks.{WalkBetween-superset}
use Rattle.grid_graph.specs.declared.grid.Grid.{Grid}
use Rattle.grid_graph.specs.declared.ground.Ground.{Ground}
use Rattle.grid_graph.specs.declared.ground.Ground.TheVariants.{Open, WithChoked}
use Rattle.grid_graph.specs.declared.ground_error.GroundError.{GroundError}
use Rattle.grid_graph.specs.declared.ground_error.GroundError.TheVariants.{Unreachable, NoMemory}
use Rattle.grid_graph.specs.declared.net_spec.NetSpec.{NetSpec}
use Rattle.grid_graph.specs.Apart.{AreInOneComponent, IsFirstApart}
use Rattle.grid_graph.specs.Grids.{size_of, Allows}
use Rattle.grid_graph.specs.Grounds.{JoinsTerminals, IsGround, IsCutOff, IsGroundError, AreGrounds, IsFirstGroundError}
use Rattle.grid_graph.specs.Components.{AreComponents}
use Rattle.grid_base.specs.Lists.{At}
use Rattle.grid_base.proofs.Lists.{At-push_cases, AllZip-from_places, At-from_member, member_from_place}

-- terminals of one component are joined
pub joins_alike : (s : Size) (F : Piece → Type 0) (components : List ℕ) (terminals : List Vertex) → AreComponents s F components → ((i : ℕ) (v : Vertex) → At terminals i v → IsVertex s v.0) → AreInOneComponent components terminals (length terminals) → Joins s F (InVertices terminals)
joins_alike s F components terminals right vertex alike a b a_in b_in =
    let at_a = At-from_member terminals (record { 0 = a }) a_in in
    let at_b = At-from_member terminals (record { 0 = b }) b_in in
    let some : 0 < length terminals = omega (arith, at_a.1) in
    let first = get_or terminals 0 (record { 0 = a }) in
    let at_first : At terminals 0 first = slice_get-get_or terminals 0 (record { 0 = a }) some in
    right.joined a b (vertex at_a.0 (record { 0 = a }) at_a.2) (vertex at_b.0 (record { 0 = b }) at_b.2)
    (alike at_a.0 first (record { 0 = a }) at_a.1 at_first at_a.2 ∙ sym (alike at_b.0 first (record { 0 = b }) at_b.1 at_first at_b.2))

-- terminals of two components are not
pub apart_not_joined : (s : Size) (F : Piece → Type 0) (components : List ℕ) (terminals : List Vertex) (place : ℕ) → AreComponents s F components → IsFirstApart components terminals place → ¬ Joins s F (InVertices terminals)
apart_not_joined s F components terminals place right apart joins =
    let any : Vertex = record { 0 = 0 } in
    let some : 0 < length terminals = omega (arith, apart.exists) in
    let first = get_or terminals 0 any in
    let last = get_or terminals place any in
    let at_first : At terminals 0 first = slice_get-get_or terminals 0 any some in
    let at_last : At terminals place last = slice_get-get_or terminals place any apart.exists in
    apart.differs first last at_first at_last
    (right.apart last.0 first.0 (joins last.0 first.0 (member_from_place terminals place last at_last) (member_from_place terminals 0 first at_first)))

pub cut_off_apart : (g : Grid) (n : NetSpec) (components : List ℕ) (place : ℕ) → AreComponents (size_of g) (Allows g WithChoked) components → ((i : ℕ) (v : Vertex) → At n.terminals i v → IsVertex (size_of g) v.0) → IsFirstApart components n.terminals place → IsCutOff g n n.id place
cut_off_apart g n components place right vertex apart = record {
  named = refl;
  apart = apart_not_joined (size_of g) (Allows g WithChoked) components n.terminals place right apart;
  exists = apart.exists;
  unjoined = λ first v at_first at_v walk. apart.differs first v at_first at_v (sym (right.apart first.0 v.0 walk));
  joined = λ i first v below at_first at_v. right.joined first.0 v.0 (vertex 0 first at_first) (vertex i v at_v) (sym (apart.alike i first v below at_first at_v));
}

-- a ground joins the terminals whose ground it is
pub ground_joins : (g : Grid) (terminals : List Vertex) (over : Ground) → IsGround g terminals over → JoinsTerminals g over terminals
ground_joins g terminals Open is = is
ground_joins g terminals WithChoked is = is.1

-- what is allowed on open ground is allowed with choked edges too
pub Allows-choked : (g : Grid) (p : Piece) → Allows g Open p → Allows g WithChoked p
Allows-choked g (Edge e) allowed = λ wall. cc
Allows-choked g (Via v) piece = piece

-- a net that has a ground is joined with choked edges
pub joins_with_choked : (g : Grid) (terminals : List Vertex) (found : Ground) → IsGround g terminals found → JoinsTerminals g WithChoked terminals
joins_with_choked g terminals Open is = λ a b a_in b_in. WalkBetween-superset (size_of g) (Allows g Open) (Allows g WithChoked) (Allows-choked g) a b (is a b a_in b_in)
joins_with_choked g terminals WithChoked is = is.1

-- the first net without a ground is the cause
pub first_cause : (g : Grid) (nets : List NetSpec) (place : ℕ) (n : NetSpec) (e : GroundError) → At nets place n → IsGroundError g n e → ((j : ℕ) (m : NetSpec) → j < place → At nets j m → JoinsTerminals g WithChoked m.terminals) → IsFirstGroundError g nets e
first_cause g nets place n (Unreachable net) at cause earlier =
    record { place = place; net = n; stands = at; cut_off = cause; earlier = earlier }
first_cause g nets place n NoMemory at cause earlier = tt

-- a net that was read from the list
pub net_read : (nets list : List NetSpec) (place : ℕ) (spec n : NetSpec) → list ≡ nets → place < length nets → spec ≡ get_or list place spec → At nets place n → spec ≡ n
net_read nets list place spec n same within read at =
    same_Some spec n (sym (slice_get_read nets (length nets) place spec refl within (read ∙ ap (λ (xs : List NetSpec). get_or xs place spec) same)) ∙ at)

pub net_stands : (nets list : List NetSpec) (place : ℕ) (spec : NetSpec) → list ≡ nets → place < length nets → spec ≡ get_or list place spec → At nets place spec
net_stands nets list place spec same within read =
    slice_get_read nets (length nets) place spec refl within (read ∙ ap (λ (xs : List NetSpec). get_or xs place spec) same)

-- something stands at each place of a list
pub at_place : {X : Type 0} (xs : List X) (i : ℕ) → i < length xs → (x : X) × At xs i x
at_place xs i within =
    ⊎_elim (λ found. (found.0, found.2)) (λ past. absurd (omega (arith, within, past.0))) (slice_get_cases xs i).1

-- these are the grounds of the first nets
abbrev pub AreGroundsSoFar : Grid → List NetSpec → List Ground → Type 0
AreGroundsSoFar g nets grounds = (k : ℕ) (n : NetSpec) (found : Ground) → At nets k n → At grounds k found → IsGround g n.terminals found

pub joined_so_far : (g : Grid) (nets : List NetSpec) (grounds : List Ground) → AreGroundsSoFar g nets grounds → (j : ℕ) (m : NetSpec) → j < length grounds → At nets j m → JoinsTerminals g WithChoked m.terminals
joined_so_far g nets grounds right j m below at =
    let found = at_place grounds j below in
    joins_with_choked g m.terminals found.0 (right j m found.0 at found.1)

pub AreGroundsSoFar-push : (g : Grid) (nets : List NetSpec) (grounds : List Ground) (found : Ground) → AreGroundsSoFar g nets grounds → ((n : NetSpec) → At nets (length grounds) n → IsGround g n.terminals found) → AreGroundsSoFar g nets (grounds ++ found ∷ [])
AreGroundsSoFar-push g nets grounds found right new k n also at stands =
    ⊎_elim
    (λ old. right k n also at old)
    (λ last. subst (IsGround g n.terminals) (sym last.1) (new n (subst (λ (x : ℕ). At nets x n) last.0 at)))
    (At-push_cases grounds found also k stands)

-- and of all nets, where there is one for each
pub AreGrounds-from_so_far : (g : Grid) (nets : List NetSpec) (grounds : List Ground) → length grounds ≡ length nets → AreGroundsSoFar g nets grounds → AreGrounds g nets grounds
AreGrounds-from_so_far g nets grounds long right = AllZip-from_places (λ n found. IsGround g n.terminals found) nets grounds long right
