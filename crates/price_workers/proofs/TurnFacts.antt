-- What a turn leaves of a worker's share and of what it sees.
use Rattle.std.proofs.Common.{◌≡◌, ℕ, ◌+◌, ◌-◌, ◌<◌, Bool, List, [], ◌∷◌, length, get_or, slice_index, sym, ◌∙◌, ap, subst, arith}
use Rattle.price_workers.proofs.Common.{Piece, At, Grid, NetSpec, size_of, entries, grid_of, loads_of, KeepsSetting, Holding}
use Rattle.price_workers.proofs.Common.{IsShare, held, slice_get-get_or, tree_load, ArePieces, IsRoute, GainsTree, without_tree}
use Rattle.price_workers.proofs.Common.{DiffersInShares, TableId, IsStepAt, AreCloseTo, Party, share_at}
use Rattle.edge_prices.specs.declared.kept_prices.KeptPrices.{KeptPrices}
use Rattle.grid_graph.proofs.Allowed.{Allows-IsPiece}
use Rattle.steiner_exact.specs.declared.tree_labels.TreeLabels.{TreeLabels}
use Rattle.steiner_exact.specs.TreeLabelWords.{AreTreeLabels}
use Rattle.price_workers.specs.Working.{IsWorking}
use Rattle.price_workers.proofs.Taken.{without_tree-at}

-- a party that differs in its shares alone, once and again
pub DiffersInShares-trans : (p q r : Party) → DiffersInShares p q → DiffersInShares q r → DiffersInShares p r
DiffersInShares-trans p q r first next = next ∙ ap (λ (x : Party). record x { shares = r.shares }) first

pub same_allot : (p q : Party) → DiffersInShares p q → q.allot ≡ p.allot
same_allot p q differs = ap (λ (x : Party). x.allot) differs

-- with the same shares it is the same party
pub same_party : (p q : Party) → DiffersInShares p q → q.shares ≡ p.shares → q ≡ p
same_party p q differs same = differs ∙ ap (λ (s : List ℕ). record p { shares = s }) same

pub same_share : (h k : Holding) → k.table ≡ h.table → k.party ≡ h.party → k ≡ h
same_share h k table party = ap (λ t. held t k.party) table ∙ ap (λ q. held h.table q) party

-- what is seen stays close where it changes as the share does
pub close_moved : (p q : Party) (old new : List ℕ) → AreCloseTo p old → DiffersInShares p q
    → ((r : ℕ) → slice_index new r + share_at r p ≡ slice_index old r + share_at r q) → AreCloseTo q new
close_moved p q old new close differs same r = record {
  least = omega (arith, (close r).least, same r);
  most = omega (arith, (close r).most, (close r).least, same r, same_allot p q differs);
}

-- what a list without the load of a set has
pub less_at : (g : Grid) (width : ℕ) (ps : List Piece) (old : List ℕ) {new : List ℕ} (r : ℕ) → new ≡ without_tree g width ps old
    → slice_index new r ≡ slice_index old r - tree_load g width ps r
less_at g width ps old r same = ap (λ (l : List ℕ). slice_index l r) same ∙ without_tree-at g width ps old r

-- a route is made of pieces of the grid
pub route_pieces : (g : Grid) (n : NetSpec) (tree : List Piece) → IsRoute g n tree → ArePieces (size_of g) tree
route_pieces g n tree route i p short = Allows-IsPiece g route.over (get_or tree i p) (route.inside i p short)

-- and so is a step
pub step_pieces : (g : Grid) (n : NetSpec) (prices : List ℕ) (tree : List Piece) → IsStepAt g n prices tree → ArePieces (size_of g) tree
step_pieces g n prices tree step = route_pieces g n tree step.route

-- what is read from a list of the same elements stands there
pub read_at : {X : Type 0} (xs list : List X) (k : ℕ) (d : X) → list ≡ xs → k < length list → At xs k (get_or list k d)
read_at xs list k d same within = subst (λ ys. At ys k (get_or list k d)) same (slice_get-get_or list k d within)

-- and so does what was read of the list itself
pub At-read : {X : Type 0} (xs : List X) (k : ℕ) (x : X) → x ≡ get_or xs k x → k < length xs → At xs k x
At-read xs k x is within = subst (λ y. At xs k y) (sym is) (slice_get-get_or xs k x within)

-- at each place of a list something stands
pub stands : {X : Type 0} (xs : List X) (k : ℕ) → k < length xs → (x : X) × At xs k x
stands [] k within = absurd (omega (arith, within))
stands (x ∷ xs) k within = (get_or (x ∷ xs) k x, slice_get-get_or (x ∷ xs) k x within)

-- a keeper's loads, and the shares of a holding, have an entry for each word
pub kept_long : {g : Grid} (kept : KeptPrices) → grid_of kept ≡ g → length (loads_of kept) ≡ entries g
kept_long kept same = kept.kept.loaded.long ∙ ap entries same

pub share_wide : (g : Grid) {share : Holding} {table : TableId} → IsShare share → share.table ≡ table → table.words ≡ entries g
    → length share.party.shares ≡ entries g
share_wide g is same words = is.wide.shares ∙ ap (λ (t : TableId). t.words) same ∙ words

-- where a step was taken at what is seen, and the load of a set was put on, all stays true of the worker
pub working_put : (g : Grid) (width : ℕ) (ps : List Piece) (share new : Holding) (kept routed put : KeptPrices)
    {labels : TreeLabels} {refreshed : Bool} → share.table.words ≡ entries (grid_of kept) → AreCloseTo share.party (loads_of kept)
    → KeepsSetting kept routed → loads_of routed ≡ loads_of kept → AreTreeLabels (size_of (grid_of kept)) labels
    → DiffersInShares share.party new.party → GainsTree g width ps share.party.shares new.party.shares
    → GainsTree g width ps (loads_of routed) (loads_of put)
    → new.table ≡ share.table → KeepsSetting routed put → IsShare new → IsWorking new put labels refreshed
working_put g width ps share new kept routed put words close route same labelled differs gains seen table setting valid = record {
  words = ap (λ (t : TableId). t.words) table ∙ words ∙ ap entries (sym (setting.grid ∙ route.grid));
  loaded = put.kept.loaded;
  labelled = rw (setting.grid ∙ route.grid) labelled;
  share_holds = λ yes. valid;
  close = λ yes. close_moved share.party new.party (loads_of kept) (loads_of put) close differs
      (λ r. omega (arith, gains r, seen r, ap (λ (l : List ℕ). slice_index l r) same));
}
