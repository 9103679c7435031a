-- Masks: sets of terminals as numbers, in which each terminal has a bit by its place.
use Rattle.std.specs.Prelude.{ℕ, ◌≡◌, ◌<◌, ◌+◌, ◌-◌, ◌/◌, ◌%◌, ◌^◌, ◌⊎◌, List, length}
use Rattle.grid_base.specs.declared.vertex.Vertex.{Vertex}
use Rattle.grid_base.specs.Lists.{At}

-- tables over the sets of terminals are made for nets of up to so many: these get least trees and exact bounds
abbrev pub few_terminals : ℕ
few_terminals = 5

-- the masks of so few terminals without their root
abbrev pub rooted_masks : ℕ
rooted_masks = 15

-- the masks of so few terminals but that of them all
abbrev pub proper_masks : ℕ
proper_masks = 30

-- the masks up to that of the last of so few terminals alone
abbrev pub lone_masks : ℕ
lone_masks = 16

-- 1 where the mask has the terminal at this place, else 0
abbrev pub bit : ℕ → ℕ → ℕ
bit mask place = mask / 2 ^ place % 2

-- the mask of the terminal at this place alone
abbrev pub single : ℕ → ℕ
single place = 2 ^ place

-- the mask of all terminals
abbrev pub all_of : List Vertex → ℕ
all_of terminals = 2 ^ length terminals - 1

-- the mask of all of them but the last, which is the root
abbrev pub all_but_root : List Vertex → ℕ
all_but_root terminals = 2 ^ (length terminals - 1) - 1

-- each terminal of the mask is in one of two parts, neither of which is empty
pub record AreParts (one other mask : ℕ) : Type 0 where
  pub some : 0 < one
  pub others : 0 < other
  pub shared : (place : ℕ) → bit mask place ≡ bit one place + bit other place

-- a vertex of the mask: a terminal that it has
pub record IsInMask (terminals : List Vertex) (mask v : ℕ) : Type 0 where
  pub place : ℕ
  pub terminal : At terminals place (record { 0 = v })
  pub has : bit mask place ≡ 1

-- the terminals of a mask, and one more vertex
abbrev pub WithVertex : List Vertex → ℕ → ℕ → ℕ → Type 0
WithVertex terminals mask v u = (u ≡ v) ⊎ IsInMask terminals mask u
