-- Marks, piece by piece.
use Rattle.std.proofs.Common.{◌≡◌, ℕ, ◌+◌, ◌/◌, ◌<◌, ◌≤◌, List, length, get_or, take, slice_index, slice_set, refl, sym, ◌∙◌, ap, subst}
use Rattle.std.proofs.Common.{⊎_elim, arith, ne_eqb, replicate}
use Rattle.std.proofs.lemmas.List.{get_or-replicate, length-replicate}
use Rattle.price_workers.proofs.Common.{get_or-set_same, get_or-set_other, length-set, take_all, cases_eq, Piece, Grid, net_load}
use Rattle.price_workers.proofs.Common.{entries_per_mark, mark_for, MarksChanges, MarksEdges, MarksTree, entries, edge_numbers, tree_load}
use Rattle.price_workers.proofs.Common.{Party, KeepsSetting, grid_of, loads_of, GainsTree, DiffersInShares, without_tree}
use Rattle.edge_prices.specs.declared.kept_prices.KeptPrices.{KeptPrices}
use Rattle.price_workers.proofs.Taken.{tree_load-edge}
use Rattle.price_workers.proofs.TurnFacts.{less_at}
use Rattle.grid_base.specs.declared.edge.Edge.{Edge as EdgeNumber}
use Rattle.grid_base.specs.declared.via.Via.{Via as ViaNumber}
use Rattle.grid_base.specs.declared.piece.Piece.TheVariants.{Edge, Via}
use Rattle.tree_set.proofs.Loads.{net_load-other}

-- marks were added, and each edge of the first i pieces has one
pub record IsMarkedUpTo (ps : List Piece) (i : ℕ) (first now : List ℕ) : Type 0 where
  pub long : length now ≡ length first
  pub before : (e : ℕ) → mark_for now e ≡ 0 → mark_for first e ≡ 0
  pub unused : (g : Grid) (e width : ℕ) → mark_for now e ≡ 0 → net_load g width (take i ps) e ≡ 0

-- an entry without a mark had none, and isn't the one that got one
pub unmarked : (marks : List ℕ) (x e : ℕ) → x / entries_per_mark < length marks → mark_for (slice_set marks (x / entries_per_mark) 1) e ≡ 0
    → (mark_for marks e ≡ 0) × (x ≡ e → ⊥)
unmarked marks x e within none =
    ⊎_elim
    (λ (here : x / entries_per_mark ≡ e / entries_per_mark).
    let there : mark_for (slice_set marks (x / entries_per_mark) 1) e ≡ 1 =
    subst (λ (k : ℕ). slice_index (slice_set marks (x / entries_per_mark) 1) k ≡ 1) here
    (get_or-set_same marks (x / entries_per_mark) 1 0 within) in
    absurd (omega (arith, there, none)))
    (λ (other : x / entries_per_mark ≡ e / entries_per_mark → ⊥). (
      sym (get_or-set_other marks (x / entries_per_mark) (e / entries_per_mark) 1 0 (λ same. other (sym same))) ∙ none,
      λ same. other (ap (λ (k : ℕ). k / entries_per_mark) same),
    ))
    (cases_eq (x / entries_per_mark) (e / entries_per_mark))

-- one edge more
pub IsMarkedUpTo-edge : (ps : List Piece) (i : ℕ) (d : Piece) (x : EdgeNumber) (first now : List ℕ) → i < length ps → get_or ps i d ≡ Edge x
    → x.0 / entries_per_mark < length now → IsMarkedUpTo ps i first now
    → IsMarkedUpTo ps (i + 1) first (slice_set now (x.0 / entries_per_mark) 1)
IsMarkedUpTo-edge ps i d x first now within is inside before = record {
  long = length-set now (x.0 / entries_per_mark) 1 ∙ before.long;
  before = λ e none. before.before e (unmarked now x.0 e inside none).0;
  unused = λ g e width none.
      let old = unmarked now x.0 e inside none in
      net_load-other g width ps i e d (Edge x) within is (ne_eqb x.0 e old.1) ∙ before.unused g e width old.0;
}

-- a via has no load
pub IsMarkedUpTo-via : (ps : List Piece) (i : ℕ) (d : Piece) (v : ViaNumber) (first now : List ℕ) → i < length ps → get_or ps i d ≡ Via v
    → IsMarkedUpTo ps i first now → IsMarkedUpTo ps (i + 1) first now
IsMarkedUpTo-via ps i d v first now within is before = record {
  long = before.long;
  before = before.before;
  unused = λ g e width none. net_load-other g width ps i e d (Via v) within is refl ∙ before.unused g e width none;
}

-- all pieces were looked at
pub marked_all : (g : Grid) {tree ps : List Piece} {i : ℕ} {first now : List ℕ} → ps ≡ tree → length ps ≤ i → IsMarkedUpTo ps i first now
    → MarksEdges g tree first now
marked_all g {ps = ps} {i = i} listed all marked = record {
  long = marked.long;
  before = marked.before;
  unused = λ e width none. sym (ap (λ (qs : List Piece). net_load g width qs e) (take_all i ps all ∙ listed)) ∙ marked.unused g e width none;
}

-- with the wirelength's mark too
pub marked_tree : (g : Grid) (tree : List Piece) (first now : List ℕ) → MarksEdges g tree first now
    → edge_numbers g / entries_per_mark < length now
    → MarksTree g tree first (slice_set now (edge_numbers g / entries_per_mark) 1)
marked_tree g tree first now edges within = record {
  long = length-set now (edge_numbers g / entries_per_mark) 1 ∙ edges.long;
  before = λ e none. edges.before e (unmarked now (edge_numbers g) e within none).0;
  unused = λ e width none.
      let old = unmarked now (edge_numbers g) e within none in
      tree_load-edge g width tree e old.1 ∙ edges.unused e width old.0;
}

-- where all have a mark, nothing is promised
pub marked_everywhere : (g : Grid) (marks last loads : List ℕ) → marks ≡ replicate (entries g / entries_per_mark + 1) 1 → MarksChanges g marks last loads
marked_everywhere g marks last loads is = record {
  long = ap (λ (l : List ℕ). length l) is ∙ length-replicate (entries g / entries_per_mark + 1) 1;
  same = λ e within none.
      let there : mark_for marks e ≡ 1 = ap (λ (l : List ℕ). slice_index l (e / entries_per_mark)) is
      ∙ get_or-replicate (entries g / entries_per_mark + 1) (e / entries_per_mark) 1 0 (omega (arith, within)) in
      absurd (omega (arith, there, none));
}

-- only loads that the set has may have changed
pub changes_marked : (g : Grid) (width : ℕ) (tree : List Piece) (marks new last loads others : List ℕ) → MarksChanges g marks last loads
    → MarksTree g tree marks new
    → ((e : ℕ) → tree_load g width tree e ≡ 0 → slice_index others e ≡ slice_index loads e) → MarksChanges g new last others
changes_marked g width tree marks new last loads others changes marked kept = record {
  long = marked.long ∙ changes.long;
  same = λ e within none. kept e (marked.unused e width none) ∙ changes.same e within (marked.before e none);
}

-- with more marks nothing is lost
pub changes_kept : (g : Grid) (tree : List Piece) (marks new last loads : List ℕ) → MarksChanges g marks last loads
    → MarksTree g tree marks new → MarksChanges g new last loads
changes_kept g tree marks new last loads changes marked = record {
  long = marked.long ∙ changes.long;
  same = λ e within none. changes.same e within (marked.before e none);
}

-- where all is seen as it was found last, any marks will do
pub changes_none : (g : Grid) (marks last loads : List ℕ) → length marks ≡ entries g / entries_per_mark + 1 → loads ≡ last → MarksChanges g marks last loads
changes_none g marks last loads long same = record { long = long; same = λ e within none. ap (λ (l : List ℕ). slice_index l e) same }

-- a keeper has the grid of another one, and a party what another one found last
same_changes : {marks : List ℕ} (old now : Party) (kept next : KeptPrices) → grid_of next ≡ grid_of kept → DiffersInShares old now
    → MarksChanges (grid_of kept) marks old.last (loads_of next) → MarksChanges (grid_of next) marks now.last (loads_of next)
same_changes {marks = marks} old now kept next grid differs changes =
    let last : now.last ≡ old.last = ap (λ (p : Party). p.last) differs in
    subst (λ (h : Grid). MarksChanges h marks now.last (loads_of next)) (sym grid)
    (subst (λ (l : List ℕ). MarksChanges (grid_of kept) marks l (loads_of next)) (sym last) changes)

-- the load of a set with marks was put on what is seen
pub changes_put : (g : Grid) (width : ℕ) (put_set tree : List Piece) {marks new : List ℕ} (old now : Party)
    (kept routed put : KeptPrices) → MarksChanges (grid_of kept) marks old.last (loads_of kept) → grid_of kept ≡ g
    → KeepsSetting kept routed → KeepsSetting routed put → loads_of routed ≡ loads_of kept → put_set ≡ tree
    → MarksTree g tree marks new → GainsTree g width put_set (loads_of routed) (loads_of put) → DiffersInShares old now
    → MarksChanges (grid_of put) new now.last (loads_of put)
changes_put g width put_set tree {marks = marks} {new = new} old now kept routed put changes on_grid route setting same its marked gains differs =
    same_changes old now kept put (setting.grid ∙ route.grid) differs (changes_marked (grid_of kept) width tree marks new old.last
    (loads_of kept) (loads_of put) changes (subst (λ (h : Grid). MarksTree h tree marks new) (sym on_grid) marked)
    (λ e none.
    let nothing : tree_load g width tree e ≡ 0 = subst (λ (h : Grid). tree_load h width tree e ≡ 0) on_grid none in
    omega (
      arith,
      gains e,
      nothing,
      ap (λ (ps : List Piece). tree_load g width ps e) its,
      ap (λ (l : List ℕ). slice_index l e) same,
    )))

-- and taken off it
pub changes_taken : (g : Grid) (width : ℕ) (tree : List Piece) {marks new : List ℕ} (old now : Party)
    (kept taken : KeptPrices) → MarksChanges (grid_of kept) marks old.last (loads_of kept) → grid_of kept ≡ g
    → KeepsSetting kept taken → MarksTree g tree marks new → loads_of taken ≡ without_tree g width tree (loads_of kept)
    → DiffersInShares old now → MarksChanges (grid_of taken) new now.last (loads_of taken)
changes_taken g width tree {marks = marks} {new = new} old now kept taken changes on_grid setting marked seen differs =
    same_changes old now kept taken setting.grid differs (changes_marked (grid_of kept) width tree marks new old.last
    (loads_of kept) (loads_of taken) changes (subst (λ (h : Grid). MarksTree h tree marks new) (sym on_grid) marked)
    (λ e none.
    let nothing : tree_load g width tree e ≡ 0 = subst (λ (h : Grid). tree_load h width tree e ≡ 0) on_grid none in
    omega (arith, nothing, less_at g width tree (loads_of kept) e seen)))

-- what has marks has them
pub marked_again : (g : Grid) (tree : List Piece) (marks new : List ℕ) → MarksTree g tree marks new → MarksTree g tree new new
marked_again g tree marks new marked = record { long = refl; before = λ e none. none; unused = marked.unused }
