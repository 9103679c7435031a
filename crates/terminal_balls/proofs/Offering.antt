-- Offers to the neighbours of a vertex, one after the other.
use Rattle.std.proofs.Common.{◌≡◌, ℕ, ◌+◌, ◌<◌, ◌≤◌, List, Some, None, get_or, sym, ◌∙◌, ap, subst, ⊎_elim, arith}
use Rattle.std.proofs.lemmas.Bool.{cases_eq}
use Rattle.std.proofs.lemmas.Option.{get_or_from_slice_get, same_Some}
use Rattle.grid_base.specs.declared.piece.Piece.{Piece}
use Rattle.grid_base.specs.declared.size.Size.{Size}
use Rattle.grid_base.specs.declared.vertex.Vertex.{Vertex}
use Rattle.grid_base.specs.Neighbours.{steps}
use Rattle.grid_base.specs.Numbers.{Connects}
use Rattle.grid_base.proofs.Neighbours.{connects_step}
use Rattle.grid_graph.specs.Weighed.{Weighs}
use Rattle.terminal_balls.specs.Balls.{Balls, beyond, widest}
use Rattle.terminal_balls.specs.Growths.{IsMet, Shrink}
use Rattle.terminal_balls.proofs.Growing.{met_on}

-- the neighbours by the steps below this place were offered what they get
abbrev pub AreMetBelow : Size → List (Piece × ℕ) → (ℕ → ℕ) → Balls → ℕ → ℕ → ℕ → ℕ → Type 0
AreMetBelow s pieces over balls from place reached n =
    (i k : ℕ) (w : Vertex) (p : Piece) → i < n → get_or (steps s from) i None ≡ Some (w, p) → Weighs pieces p k
    → IsMet balls place (reached + beyond s over p k) w.0

pub met_none : (s : Size) (pieces : List (Piece × ℕ)) (over : ℕ → ℕ) (balls : Balls) (from place reached : ℕ)
    → AreMetBelow s pieces over balls from place reached 0
met_none s pieces over balls from place reached i k w p low is weighs = absurd (omega (arith, low))

pub met_more : (s : Size) (pieces : List (Piece × ℕ)) (over : ℕ → ℕ) (old new : Balls) (from place reached n : ℕ) (to : Vertex) (by : Piece)
    → AreMetBelow s pieces over old from place reached n → Shrink old new → ((q : ℕ) → old.radius q ≤ widest)
    → get_or (steps s from) n None ≡ Some (to, by)
    → ((k : ℕ) → Weighs pieces by k → IsMet new place (reached + beyond s over by k) to.0)
    → AreMetBelow s pieces over new from place reached (n + 1)
met_more s pieces over old new from place reached n to by below shrink small here met i k w p low is weighs = ⊎_elim
    (λ last.
    let same : (to, by) ≡ (w, p) = same_Some (to, by) (w, p)
    (sym here ∙ ap (λ j. get_or (steps s from) j None) (sym last) ∙ is) in
    subst (λ (x : Vertex × Piece). IsMet new place (reached + beyond s over x.1 k) x.0.0) same
    (met k (subst (λ (x : Vertex × Piece). Weighs pieces x.1 k) (sym same) weighs)))
    (λ before. met_on old new shrink small place (reached + beyond s over p k) w.0 (below i k w p (omega arith) is weighs))
    (cases_eq i n)

-- a step that isn't there
pub met_past : (s : Size) (pieces : List (Piece × ℕ)) (over : ℕ → ℕ) (balls : Balls) (from place reached n : ℕ)
    → AreMetBelow s pieces over balls from place reached n → get_or (steps s from) n None ≡ None
    → AreMetBelow s pieces over balls from place reached (n + 1)
met_past s pieces over balls from place reached n below none i k w p low is weighs = ⊎_elim
    (λ last. let clash : None ≡ Some (w, p) = sym none ∙ ap (λ j. get_or (steps s from) j None) (sym last)
    ∙ is in absurd (cc clash))
    (λ before. below i k w p (omega arith) is weighs)
    (cases_eq i n)

-- all six were offered
pub met_all : (s : Size) (pieces : List (Piece × ℕ)) (over : ℕ → ℕ) (balls : Balls) (from place reached : ℕ)
    → AreMetBelow s pieces over balls from place reached 6 → (p : Piece) (k b : ℕ) → Weighs pieces p k → Connects s p from b
    → IsMet balls place (reached + beyond s over p k) b
met_all s pieces over balls from place reached below p k b weighs connects =
    let found = connects_step s p from b connects in
    below found.0 k (record { 0 = b }) p found.1
    (get_or_from_slice_get (steps s from) found.0 (Some (record { 0 = b }, p)) None found.2) weighs
