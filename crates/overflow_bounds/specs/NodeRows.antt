-- Rows of numbers, one for each node of a graph.
use Rattle.std.specs.Prelude.{ℕ, ◌≡◌, ◌+◌, ◌-◌, ◌<◌, ◌≤◌, List, [], All, length, slice_index, get_or}
use Rattle.grid_base.specs.Lists.{At}
use Rattle.overflow_bounds.specs.declared.link.Link.{Link}
use Rattle.steiner_tables.specs.Masks.{AreParts, single}

-- the row of a mask: there is one for each mask from 1 on
abbrev pub numbers_of_mask : List (List ℕ) → ℕ → List ℕ
numbers_of_mask rows mask = get_or rows (mask - 1) []

-- the number of a mask at a node
abbrev pub number_of_mask : List (List ℕ) → ℕ → ℕ → ℕ
number_of_mask rows mask n = slice_index (numbers_of_mask rows mask) n

-- no number is above what it was
abbrev pub LowersTo : List ℕ → List ℕ → Type 0
LowersTo old new = (n : ℕ) → slice_index new n ≤ slice_index old n

-- from each end of a link to the other a row rises by at most what the link costs
pub record RisesAlongLink (row : List ℕ) (l : Link) : Type 0 where
  pub forth : slice_index row l.other ≤ slice_index row l.one + l.cost
  pub back : slice_index row l.one ≤ slice_index row l.other + l.cost

-- where a mask is that of an end alone, the row has 0 there
abbrev pub HasOwn : List ℕ → ℕ → List ℕ → Type 0
HasOwn ends mask row = (place n : ℕ) → At ends place n → single place ≡ mask → slice_index row n ≡ 0

-- each number is at most the sum of those in two other rows
abbrev pub IsWithinSums : List ℕ → List ℕ → List ℕ → Type 0
IsWithinSums one other row = (n : ℕ) → n < length row → slice_index row n ≤ slice_index one n + slice_index other n

-- and that for each split of the mask
abbrev pub IsWithinSplits : List (List ℕ) → ℕ → List ℕ → Type 0
IsWithinSplits rows mask row = (one other : ℕ) → AreParts one other mask → IsWithinSums (numbers_of_mask rows one) (numbers_of_mask rows other) row

-- the rows of the masks before this one have a number for each node
abbrev pub AreBefore : ℕ → ℕ → List (List ℕ) → Type 0
AreBefore nodes mask rows = (m : ℕ) → 0 < m → m < mask → length (numbers_of_mask rows m) ≡ nodes

-- the row of a mask, where the rows of the masks before it stand
pub record IsNodeRow (nodes : ℕ) (links : List Link) (ends : List ℕ) (rows : List (List ℕ)) (mask : ℕ)
    (row : List ℕ) : Type 0 where
  pub long : length row ≡ nodes
  pub own : HasOwn ends mask row
  pub rises : All (RisesAlongLink row) links
  pub splits : IsWithinSplits rows mask row
