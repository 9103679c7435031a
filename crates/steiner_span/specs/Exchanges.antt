-- What a growing tree keeps of a spanning tree.
use Rattle.std.specs.Prelude.{ℕ, ◌+◌, ◌≤◌, List, Contains}
use Rattle.shortest_paths.specs.Spanning.{Link, LeadTo, links_weight}

-- links lead from v to one of the vertices of R
pub record LedTo (links : List Link) (R : ℕ → Type 0) (v : ℕ) : Type 0 where
  pub goal : ℕ
  pub way : List ℕ
  pub reached : R goal
  pub leads : LeadTo links v way goal

-- what a growing tree keeps of the links: those that still lead each vertex of T to one of R, which is reached
pub record IsExchanged (T : ℕ → Type 0) (links : List Link) (R : ℕ → Type 0) (total : ℕ) : Type 0 where
  pub kept : List Link
  pub light : total + links_weight kept ≤ links_weight links
  pub only : (link : Link) → Contains kept link → Contains links link
  pub led : (v : ℕ) → T v → LedTo kept R v
