-- The row of one mask in the course of its search.
use Rattle.std.specs.Prelude.{ℕ, ◌≡◌, ◌+◌, ◌<◌, ◌≤◌, ◌⊎◌, List}
use Rattle.grid_base.specs.declared.vertex.Vertex.{Vertex}
use Rattle.grid_base.specs.Lists.{At}
use Rattle.grid_base.specs.Numbers.{IsVertex}
use Rattle.steiner_tables.specs.declared.kept_rows.KeptRows.{KeptRows}
use Rattle.label_search.specs.declared.row.Row.{Row}
use Rattle.label_search.specs.Founds.{index_in}
use Rattle.steiner_tables.specs.Kept.{kept_in, kept_len}
use Rattle.steiner_tables.specs.Masks.{single, AreParts}
use Rattle.label_search.specs.Rows.{size_in, number_in, Waits}
use Rattle.label_search.specs.Runs.{IsSearch, IsAnswered}
use Rattle.label_search.specs.Stamped.{far}
use Rattle.steiner_tables.specs.Tables.{IsAlone}

-- the kept number of a mask at a vertex
abbrev pub table_of : KeptRows → Row → ℕ → ℕ → ℕ
table_of rows r mask v = kept_in rows mask (index_in r.found v)

-- the mask is in two parts whose labels add up to at most this number
pub record IsSum (label : ℕ → ℕ → ℕ) (mask v number : ℕ) : Type 0 where
  pub one : ℕ
  pub other : ℕ
  pub parts : AreParts one other mask
  pub has_one : label one v < far
  pub has_other : label other v < far
  pub less : label one v + label other v ≤ number

-- the row of a mask has what the rows of smaller masks offer
pub record IsSeeded (rows : KeptRows) (terminals : List Vertex) (mask : ℕ) (rest : ℕ → ℕ) (limit : ℕ) (r : Row) : Type 0 where
  pub search : IsSearch rest limit r
  pub kept : (m : ℕ) → kept_len rows m ≤ r.found.len
  pub waits : (v : ℕ) → number_in r v < far → Waits r v
  pub vertices : (v : ℕ) → number_in r v < far → IsVertex (size_in r) v
  pub reasons : (v : ℕ) → number_in r v < far → IsAlone terminals mask v ⊎ IsSum (table_of rows r) mask v (number_in r v)

-- the terminals before this place were offered 0 where the mask is theirs alone
abbrev pub AreOffered : List Vertex → ℕ → (ℕ → ℕ) → ℕ → (ℕ → ℕ) → ℕ → Type 0
AreOffered terminals mask rest limit num n =
    (place : ℕ) (v : Vertex) → place < n → At terminals place v → single place ≡ mask → IsAnswered num rest limit v.0 0

-- the sum of two labels was offered
abbrev pub IsSumOffered : (ℕ → ℕ → ℕ) → ℕ → ℕ → (ℕ → ℕ) → ℕ → (ℕ → ℕ) → ℕ → Type 0
IsSumOffered label one other rest limit num v =
    label one v < far → label other v < far → IsAnswered num rest limit v (label one v + label other v)

-- the sums were offered of each split of the mask whose first part is below this one and no greater than the other
abbrev pub AreSplitsOffered : (ℕ → ℕ → ℕ) → ℕ → (ℕ → ℕ) → ℕ → (ℕ → ℕ) → ℕ → Type 0
AreSplitsOffered label mask rest limit num n =
    (one other v : ℕ) → one < n → one ≤ other → AreParts one other mask → IsSumOffered label one other rest limit num v
