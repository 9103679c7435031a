-- What a pruned table answers at the root.
use Rattle.std.proofs.Common.{◌≡◌, ℕ, ◌≤◌, ◌-◌, List, length, Option, Some, None, refl, sym, subst, ⊎_elim, arith}
use Rattle.std.proofs.lemmas.Bool.{cases_lt}
use Rattle.std.proofs.Math.Nat.{pow-le-pow_right}
use Rattle.std.proofs.lemmas.Option.{slice_get-get_or}
use Rattle.grid_base.specs.declared.piece.Piece.{Piece}
use Rattle.grid_base.specs.declared.size.Size.{Size}
use Rattle.grid_base.specs.declared.vertex.Vertex.{Vertex}
use Rattle.grid_base.specs.Lists.{At}
use Rattle.grid_base.specs.Walks.{Joins, JoinsList, InPieces, InVertices}
use Rattle.grid_base.proofs.Joined.{Joins-superset}
use Rattle.grid_graph.specs.Weighed.{IsAllowed, NoPieceTwice, AreWithinLimit}
use Rattle.label_search.specs.Stamped.{most, far}
use Rattle.steiner_tables.specs.Masks.{all_but_root}
use Rattle.label_search.specs.Sets.{IsLeastWeight}
use Rattle.steiner_tables.specs.Tables.{IsFamily, IsPrunedTable, IsPrunedLabel, answer_at}
use Rattle.tree_set.specs.Order.{IsRising}
use Rattle.steiner_tables.proofs.Pruned.{pruned_label}
use Rattle.steiner_tables.proofs.Roots.{root_mask, root_found, root_apart, joins_terminals}
use Rattle.steiner_exact.specs.Boxes.{none}
use Rattle.steiner_exact.specs.LeastSets.{IsLeastSet, IsLeastTree}
use Rattle.steiner_exact.specs.Reading.{AreReached, IsTreeWithin}
use Rattle.steiner_exact.specs.Roots.{root_of, IsLeastAtRoot, IsAttempt}
use Rattle.steiner_tables.proofs.FoundNumbers.{found_number, kept_small}
use Rattle.grid_graph.proofs.Weighed.{allowed_of_tree}

pub root_stands : (terminals : List Vertex) → 2 ≤ length terminals → At terminals (length terminals - 1) (root_of terminals)
root_stands terminals two = slice_get-get_or terminals (length terminals - 1) none (omega (arith, two))

-- the numbers of a pruned table were reached
pruned_reached : (s : Size) (pieces : List (Piece × ℕ)) (terminals : List Vertex) (last : ℕ) (low : ℕ → ℕ → ℕ) (limit : ℕ) (number : ℕ → ℕ → ℕ) → IsPrunedTable s pieces terminals last low limit far number → AreReached s pieces terminals last number
pruned_reached s pieces terminals last low limit number table mask v some below kept = table.reached mask v some below (omega (arith, kept))

-- the answer at the root is the least weight, or the limit may be raised
pub attempted : (s : Size) (pieces : List (Piece × ℕ)) (terminals : List Vertex) (low : ℕ → ℕ → ℕ) (limit : ℕ) (number : ℕ → ℕ → ℕ) (found : Option ℕ) → NoPieceTwice pieces → AreWithinLimit pieces → IsFamily s pieces terminals low → 2 ≤ length terminals → limit ≤ most →
    Joins s (IsAllowed pieces) (InVertices terminals) → IsPrunedTable s pieces terminals (all_but_root terminals) low limit far number → found ≡ answer_at far (number (all_but_root terminals) (root_of terminals).0) →
    IsAttempt s pieces terminals limit number found
attempted s pieces terminals low limit number (Some x) once small family two within joined table answered =
    let all = all_but_root terminals in
    let root = root_of terminals in
    let mask = root_mask terminals two in
    let kept : number all root.0 ≤ most = kept_small (number all root.0) x answered in
    let is : x ≡ number all root.0 = found_number (number all root.0) x answered in
    let label = pruned_label s pieces terminals all low limit far number (record { family = family; below = mask.1; limit_below = omega (arith, within); pruned = table }) all root.0 mask.0 (omega arith) in
    record {
      kept = sym is;
      small = omega (arith, is, kept);
      reached = pruned_reached s pieces terminals all low limit number table;
      lightest = root_found s pieces terminals low limit root x (root_stands terminals two) (subst (IsPrunedLabel s pieces terminals low limit all root.0) (sym answered) label);
    }
attempted s pieces terminals low limit number None once small family two within joined table answered =
    let all = all_but_root terminals in
    let root = root_of terminals in
    let mask = root_mask terminals two in
    let label = pruned_label s pieces terminals all low limit far number (record { family = family; below = mask.1; limit_below = omega (arith, within); pruned = table }) all root.0 mask.0 (omega arith) in
    ⊎_elim
    (λ below. below)
    (λ above. absurd (root_apart s pieces terminals low limit root small above family two (root_stands terminals two)
    (subst (IsPrunedLabel s pieces terminals low limit all root.0) (sym answered) label) pieces (record { allowed = λ x at. at; once = once }) joined))
    (cases_lt limit most)

-- a family of equal words is one
pub family_of : (s : Size) (pieces : List (Piece × ℕ)) (terminals : List Vertex) (t : Size) (others : List (Piece × ℕ)) (list : List Vertex) (low : ℕ → ℕ → ℕ) → t ≡ s → others ≡ pieces → list ≡ terminals → IsFamily t others list low → IsFamily s pieces terminals low
family_of s pieces terminals t others list low size same listed is =
    subst (λ x. IsFamily x pieces terminals low) size (subst (λ ps. IsFamily t ps terminals low) same (subst (λ ts. IsFamily t others ts low) listed is))

-- what was read back at the root joins the terminals
pub tree_joins : (s : Size) (pieces : List (Piece × ℕ)) (terminals : List Vertex) (limit : ℕ) (tree : List Piece) → 2 ≤ length terminals → IsTreeWithin s pieces terminals (all_but_root terminals) (root_of terminals).0 limit tree → JoinsList s tree terminals
tree_joins s pieces terminals limit tree two is = joins_terminals s (InPieces tree) terminals (root_of terminals) (root_stands terminals two) is.joins

-- and is a set of least weight
pub tree_is_least : (s : Size) (pieces : List (Piece × ℕ)) (terminals : List Vertex) (least : ℕ) (tree : List Piece) → 2 ≤ length terminals → IsLeastWeight s pieces (InVertices terminals) least →
    IsTreeWithin s pieces terminals (all_but_root terminals) (root_of terminals).0 least tree → IsLeastSet s pieces terminals tree
tree_is_least s pieces terminals least tree two lightest is = record {
  set = is.set;
  of = is.of;
  is_set = is.is_set;
  least = record {
    set = is.set;
    is_set = is.is_set;
    joins = Joins-superset s (InPieces tree) (IsAllowed is.set) (InVertices terminals) (allowed_of_tree is.set tree is.of) (tree_joins s pieces terminals least tree two is);
    weighs = refl;
    lightest = λ other other_is joins. omega (arith, is.light, lightest.lightest other other_is joins);
  };
}

-- the tree of the number that was found
pub tree_is_found : (s : Size) (pieces : List (Piece × ℕ)) (terminals : List Vertex) (number : ℕ → ℕ → ℕ) (least : ℕ) (tree : List Piece) → 2 ≤ length terminals → IsLeastAtRoot s pieces terminals number least → IsRising tree →
    IsTreeWithin s pieces terminals (all_but_root terminals) (root_of terminals).0 (number (all_but_root terminals) (root_of terminals).0) tree → IsLeastTree s pieces terminals tree least
tree_is_found s pieces terminals number least tree two found rising within =
    let is = subst (λ n. IsTreeWithin s pieces terminals (all_but_root terminals) (root_of terminals).0 n tree) found.kept within in record {
      rising = rising;
      joins = tree_joins s pieces terminals least tree two is;
      least = tree_is_least s pieces terminals least tree two found.lightest is;
      weighs = found.lightest;
    }

-- five terminals have few masks
pub few_masks : (terminals : List Vertex) → length terminals ≤ 5 → all_but_root terminals ≤ 15
few_masks terminals few = omega (arith, pow-le-pow_right {n = 2} (omega arith) {i = length terminals - 1} {j = 4} (omega (arith, few)))
