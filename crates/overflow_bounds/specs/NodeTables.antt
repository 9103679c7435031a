-- Tables with a number for each set of ends and each node of a graph, after Dreyfus and Wagner, "The Steiner problem in graphs"
-- (1971). Only "at most" is asked of them, so a table may have any lower numbers.
use Rattle.std.specs.Prelude.{ℕ, ◌≡◌, ◌+◌, ◌-◌, ◌^◌, ◌<◌, ◌≤◌, List, Contains, length}
use Rattle.grid_base.specs.Lists.{At}
use Rattle.overflow_bounds.specs.declared.link.Link.{Link}
use Rattle.overflow_bounds.specs.Links.{AreEnds}
use Rattle.steiner_tables.specs.Masks.{AreParts, single}

-- tables are made over the sets of so many ends at most
abbrev pub max_ends : ℕ
max_ends = 8

-- the mask of all ends but the last one
abbrev pub all_but_last : List ℕ → ℕ
all_but_last ends = 2 ^ (length ends - 1) - 1

-- a table for the masks up to the last one holds: an end alone has 0 at itself, each number is at most that of every neighbour and
-- what the link between costs, and at most the sum of the two numbers for each split of its mask
pub record IsNodeTable (nodes : ℕ) (links : List Link) (ends : List ℕ) (last : ℕ) (number : ℕ → ℕ → ℕ) : Type 0 where
  pub own : (place n : ℕ) → At ends place n → single place ≤ last → number (single place) n ≡ 0
  pub steps : (mask a b : ℕ) (l : Link) → 0 < mask → mask ≤ last → Contains links l → AreEnds l a b → number mask b ≤ number mask a + l.cost
  pub splits : (one other mask n : ℕ) → AreParts one other mask → mask ≤ last → n < nodes → number mask n ≤ number one n + number other n

-- what a table that holds has for all ends but the last one, at the last one
pub record IsOfTable (nodes : ℕ) (links : List Link) (ends : List ℕ) (found : ℕ) : Type 0 where
  pub number : ℕ → ℕ → ℕ
  pub holds : IsNodeTable nodes links ends (all_but_last ends) number
  pub root : ℕ
  pub stands : At ends (length ends - 1) root
  pub value : found ≡ number (all_but_last ends) root
