-- A family that is raised to distances is a family.
use Rattle.std.proofs.Common.{ℕ, zero, suc, ◌≡◌, ◌+◌, ◌-◌, ◌<◌, ◌≤◌, ◌==◌, cond, max, List, refl, sym, ap, ◌∙◌, subst, ⊎_elim, arith}
use Rattle.std.proofs.lemmas.Bool.{cases_eq}
use Rattle.std.proofs.lemmas.Bool.Decides.{nat_tests}
use Rattle.grid_base.specs.declared.piece.Piece.{Piece}
use Rattle.grid_base.specs.declared.size.Size.{Size}
use Rattle.grid_base.specs.declared.vertex.Vertex.{Vertex}
use Rattle.grid_base.specs.Lists.{At}
use Rattle.label_search.specs.Sets.{RisesSlowly}
use Rattle.steiner_tables.specs.LoneRows.{IsLeadingRow, lone}
use Rattle.steiner_tables.specs.Masks.{bit, single}
use Rattle.steiner_tables.specs.Tables.{IsHoldingTable, IsFamily}
use Rattle.steiner_tables.proofs.Masks.{bit-small, bit-single}
use Rattle.terminal_distances.specs.DistanceLows.{raised_at, distance_low}

raised_step : (b lb la db da k : ℕ) → lb ≤ la + k → db ≤ da + k →
    cond (b == 1) (max lb db) lb ≤ cond (b == 1) (max la da) la + k
raised_step b lb la db da k near slow = grind (arith, nat_tests, near, slow)

raised_split : (b b1 b2 l l1 l2 d : ℕ) → b ≡ b1 + b2 → b < 2 → l ≤ l1 + l2 →
    cond (b == 1) (max l d) l ≤ cond (b1 == 1) (max l1 d) l1 + cond (b2 == 1) (max l2 d) l2
raised_split b b1 b2 l l1 l2 d sum small less = grind (arith, nat_tests, sum, small, less)

-- bounds that hold still do where they are raised to a distance from a terminal
pub raised_holds : (s : Size) (pieces : List (Piece × ℕ)) (terminals : List Vertex) (last : ℕ) (low : ℕ → ℕ → ℕ) (place : ℕ)
    (distance : ℕ → ℕ) → IsHoldingTable s pieces terminals last low
    → ((v : Vertex) → At terminals place v → distance v.0 ≡ 0) → RisesSlowly s pieces distance →
    IsHoldingTable s pieces terminals last (raised_at low place distance)
raised_holds s pieces terminals last low place distance holds own slow = record {
  own = λ p v at inside. ⊎_elim
      (λ has.
      let here : place ≡ p = bit-single p place has in
      let zero_here = own v (subst (λ q. At terminals q v) (sym here) at) in
      grind (arith, nat_tests, has, holds.own p v at inside, zero_here))
      (λ other. grind (arith, nat_tests, other, holds.own p v at inside))
      (cases_eq (bit (single p) place) 1);
  steps = λ mask some inside p k a b weighs connects.
      raised_step (bit mask place) (low mask b) (low mask a) (distance b) (distance a) k
      (holds.steps mask some inside p k a b weighs connects) (slow p k a b weighs connects);
  splits = λ one other mask v parts inside vertex.
      raised_split (bit mask place) (bit one place) (bit other place) (low mask v) (low one v) (low other v) (distance v)
      (parts.shared place) (bit-small mask place) (holds.splits one other mask v parts inside vertex);
}

-- the same for so many terminals
raised_family : (s : Size) (pieces : List (Piece × ℕ)) (terminals : List Vertex) (low : ℕ → ℕ → ℕ) (limit : ℕ)
    (number : ℕ → ℕ → ℕ) (first last n : ℕ) → n ≤ last - first → IsFamily s pieces terminals low
    → ((place : ℕ) → first ≤ place → place < last → IsLeadingRow s pieces terminals low limit number place) →
    IsFamily s pieces terminals (distance_low terminals low limit number first n)
unfolding distance_low
raised_family s pieces terminals low limit number first last zero within family rows = family
raised_family s pieces terminals low limit number first last (suc n) within family rows =
    let row = rows (first + n) (omega arith) (omega (arith, within)) in
    raised_holds s pieces terminals _ (distance_low terminals low limit number first n) (first + n)
    (lone terminals low limit number (first + n))
    (raised_family s pieces terminals low limit number first last n (omega (arith, within)) family rows) row.own row.slow

pub distance_family : (s : Size) (pieces : List (Piece × ℕ)) (terminals : List Vertex) (low : ℕ → ℕ → ℕ) (limit : ℕ)
    (number : ℕ → ℕ → ℕ) (first last : ℕ) → IsFamily s pieces terminals low
    → ((place : ℕ) → first ≤ place → place < last → IsLeadingRow s pieces terminals low limit number place) →
    IsFamily s pieces terminals (distance_low terminals low limit number first (last - first))
distance_family s pieces terminals low limit number first last family rows =
    raised_family s pieces terminals low limit number first last (last - first) (omega arith) family rows

-- no terminal yet, and one more
pub distance_low-none : (terminals : List Vertex) (low : ℕ → ℕ → ℕ) (limit : ℕ) (number : ℕ → ℕ → ℕ) (first mask v : ℕ) →
    distance_low terminals low limit number first (first - first) mask v ≡ low mask v
unfolding distance_low
distance_low-none terminals low limit number first mask v =
    let none : first - first ≡ 0 = omega arith in
    ap (λ n. distance_low terminals low limit number first n mask v) none

more_low : (terminals : List Vertex) (low : ℕ → ℕ → ℕ) (limit : ℕ) (number : ℕ → ℕ → ℕ) (first n mask v : ℕ) →
    distance_low terminals low limit number first (suc n) mask v
    ≡ raised_at (distance_low terminals low limit number first n) (first + n) (lone terminals low limit number (first + n)) mask v
unfolding distance_low
more_low terminals low limit number first n mask v = refl

pub distance_low-more : (terminals : List Vertex) (low : ℕ → ℕ → ℕ) (limit : ℕ) (number : ℕ → ℕ → ℕ) (first place mask v : ℕ) →
    first ≤ place →
    distance_low terminals low limit number first (place + 1 - first) mask v
    ≡ raised_at (distance_low terminals low limit number first (place - first)) place (lone terminals low limit number place) mask v
distance_low-more terminals low limit number first place mask v from =
    let n = place - first in
    let one_more : place + 1 - first ≡ suc n = omega (arith, from) in
    let here : first + n ≡ place = omega (arith, from) in
    ap (λ m. distance_low terminals low limit number first m mask v) one_more
    ∙ more_low terminals low limit number first n mask v
    ∙ ap (λ p. raised_at (distance_low terminals low limit number first n) p (lone terminals low limit number p) mask v) here
