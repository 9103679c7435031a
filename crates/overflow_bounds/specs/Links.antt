-- Graphs of nodes, which are numbers from 0 on, and of links between them.
use Rattle.std.specs.Prelude.{ℕ, ◌≡◌, ◌<◌, ◌≤◌, ◌⊎◌, List, Contains}
use Rattle.overflow_bounds.specs.declared.link.Link.{Link}

-- the link joins these two nodes, in either order
abbrev pub AreEnds : Link → ℕ → ℕ → Type 0
AreEnds l a b = (l.one ≡ a) × (l.other ≡ b) ⊎ (l.one ≡ b) × (l.other ≡ a)

-- its two nodes are among the first of so many
abbrev pub IsInside : ℕ → Link → Type 0
IsInside nodes l = (l.one < nodes) × (l.other < nodes)

-- some link joins two nodes and costs no more than this
pub record AreLinkedWithin (links : List Link) (a b most : ℕ) : Type 0 where
  pub link : Link
  pub listed : Contains links link
  pub ends : AreEnds link a b
  pub cheap : link.cost ≤ most
