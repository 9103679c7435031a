-- The sets of several phases while the picked ones are moved to those of the first phase.
use Rattle.std.proofs.Common.{◌≡◌, ℕ, suc, ◌+◌, ◌<◌, ◌≤◌, List, [], ◌∷◌, length, slice_index_or, slice_set, sym, ◌∙◌, ap, subst, ⊎_elim, arith, All}
use Rattle.std.specs.List.{sum_by}
use Rattle.std.proofs.lemmas.Bool.{cases_eq}
use Rattle.std.proofs.lemmas.List.{get_or-set_same, get_or-set_other, length-set}
use Rattle.std.proofs.lemmas.List.Elements.{All-set}
use Rattle.std.proofs.lemmas.List.FromFn.{fill_by_all}
use Rattle.std.proofs.lemmas.List.Sums.{sum_by-set}
use Rattle.std.proofs.lemmas.Option.{slice_get-get_or}
use Rattle.std.proofs.lemmas.Slice.Zip.{AllZip-long}
use Rattle.grid_base.specs.declared.piece.Piece.{Piece}
use Rattle.grid_base.specs.Lists.{At}
use Rattle.grid_base.proofs.Lists.{AllZip-at}
use Rattle.grid_graph.specs.declared.design.Design.{Design}
use Rattle.grid_graph.specs.declared.net_spec.NetSpec.{NetSpec}
use Rattle.tree_set.specs.Loads.{load_on}
use Rattle.tree_set.specs.Routings.{IsRoute, IsRouting}
use Rattle.routing_stages.specs.Phases.{phases_load}
use Rattle.price_workers.proofs.TurnFacts.{stands}
use Rattle.rounding_pick.specs.ChosenRoutings.{set_in_phase, chosen_routing}
use Rattle.rounding_pick.specs.Picks.{pick}
use Rattle.sharing_runs.proofs.Exchanges.{AllZip-set, load_on-set}

-- each net before a position has its picked set among the sets of the first phase; all others have theirs as before; and all
-- sets together have the same load
pub record IsPickedUpTo (d : Design) (seed : ℕ) (first : List (List Piece)) (others : List (List (List Piece))) (position : ℕ)
    (kept : List (List Piece)) (left : List (List (List Piece))) : Type 0 where
  pub picked : (j : ℕ) → j < position → slice_index_or kept j [] ≡ set_in_phase (first ∷ others) (pick seed j (length (first ∷ others))) j
  pub same : (j : ℕ) → position ≤ j → slice_index_or kept j [] ≡ slice_index_or first j []
  pub others_same : (q j : ℕ) → position ≤ j → set_in_phase left q j ≡ set_in_phase others q j
  pub routing : IsRouting d.grid d.nets kept
  pub routings : All (IsRouting d.grid d.nets) left
  pub count : length left ≡ length others
  pub loads : (r : ℕ) → load_on d.grid d.nets kept r + phases_load d.grid d.nets left r ≡ load_on d.grid d.nets first r + phases_load d.grid d.nets others r

-- the net at a position keeps its set of the first phase
pub IsPickedUpTo-stays : (d : Design) (seed : ℕ) (first : List (List Piece)) (others : List (List (List Piece))) (position : ℕ) (kept : List (List Piece)) (left : List (List (List Piece)))
    → pick seed position (length (first ∷ others)) ≡ 0 → IsPickedUpTo d seed first others position kept left → IsPickedUpTo d seed first others (position + 1) kept left
IsPickedUpTo-stays d seed first others position kept left none before = record {
  picked = λ j low. ⊎_elim
      (λ (here : position ≡ j).
      subst (λ (k : ℕ). slice_index_or kept k [] ≡ set_in_phase (first ∷ others) (pick seed k (length (first ∷ others))) k) here
      (before.same position (omega arith) ∙ ap (λ (p : ℕ). set_in_phase (first ∷ others) p position) (sym none)))
      (λ (other : position ≡ j → ⊥). before.picked j (omega (arith, low, other)))
      (cases_eq position j);
  same = λ j low. before.same j (omega (arith, low));
  others_same = λ q j low. before.others_same q j (omega (arith, low));
  routing = before.routing;
  routings = before.routings;
  count = before.count;
  loads = before.loads;
}

-- two phases exchange the sets of a net: the load of all stays
exchanged_loads : (d : Design) (n : NetSpec) (position phase : ℕ) (kept other : List (List Piece)) (left : List (List (List Piece))) (own theirs : List Piece) (r : ℕ)
    → At d.nets position n → At kept position own → At other position theirs → phase < length left → slice_index_or left phase [] ≡ other
    → load_on d.grid d.nets (slice_set kept position theirs) r + phases_load d.grid d.nets (slice_set left phase (slice_set other position own)) r
    ≡ load_on d.grid d.nets kept r + phases_load d.grid d.nets left r
exchanged_loads d n position phase kept other left own theirs r at own_at theirs_at among is =
    let L : List (List Piece) → ℕ = λ trees. load_on d.grid d.nets trees r in
    let sums : sum_by L (slice_set left phase (slice_set other position own)) + L other ≡ sum_by L left + L (slice_set other position own) =
    ap (λ (o : List (List Piece)). sum_by L (slice_set left phase (slice_set other position own)) + L o) (sym is)
    ∙ sum_by-set L left phase (slice_set other position own) [] among in
    omega (
      arith,
      sums,
      load_on-set d.grid d.nets kept position n own theirs r at own_at,
      load_on-set d.grid d.nets other position n theirs own r at theirs_at,
    )

-- another list in one of several phases
set_in_phase-set : (left : List (List (List Piece))) (phase : ℕ) (trees : List (List Piece)) (q j : ℕ) → phase < length left
    → slice_index_or trees j [] ≡ set_in_phase left phase j → set_in_phase (slice_set left phase trees) q j ≡ set_in_phase left q j
set_in_phase-set left phase trees q j among same =
    ⊎_elim
    (λ (here : phase ≡ q).
    subst (λ (p : ℕ). set_in_phase (slice_set left phase trees) p j ≡ set_in_phase left p j) here
    (ap (λ (ts : List (List Piece)). slice_index_or ts j []) (get_or-set_same left phase trees [] among) ∙ same))
    (λ (other : phase ≡ q → ⊥). ap (λ (ts : List (List Piece)). slice_index_or ts j []) (get_or-set_other left phase q trees [] (λ at. other (sym at))))
    (cases_eq phase q)

-- the net at a position gets its set of another phase, in exchange for its own
pub IsPickedUpTo-exchanged : (d : Design) (seed : ℕ) (first : List (List Piece)) (others : List (List (List Piece))) (position phase : ℕ) (kept other : List (List Piece)) (left : List (List (List Piece)))
    → position < length d.nets → phase < length others → slice_index_or left phase [] ≡ other → pick seed position (length (first ∷ others)) ≡ suc phase
    → IsPickedUpTo d seed first others position kept left
    → IsPickedUpTo d seed first others (position + 1) (slice_set kept position (slice_index_or other position [])) (slice_set left phase (slice_set other position (slice_index_or kept position [])))
IsPickedUpTo-exchanged d seed first others position phase kept other left within among is picked before =
    let own : List Piece = slice_index_or kept position [] in
    let theirs : List Piece = slice_index_or other position [] in
    let in_left : phase < length left = omega (arith, among, before.count) in
    let routed : IsRouting d.grid d.nets other = subst (λ (ts : List (List Piece)). IsRouting d.grid d.nets ts) is (before.routings phase [] in_left) in
    let theirs_is : theirs ≡ set_in_phase left phase position = ap (λ (ts : List (List Piece)). slice_index_or ts position []) (sym is) in
    let in_kept : position < length kept = omega (arith, within, AllZip-long (IsRoute d.grid) d.nets kept before.routing) in
    let in_other : position < length other = omega (arith, within, AllZip-long (IsRoute d.grid) d.nets other routed) in
    let net = stands d.nets position within in
    let own_at : At kept position own = slice_get-get_or kept position [] in_kept in
    let theirs_at : At other position theirs = slice_get-get_or other position [] in_other in
    record {
      picked = λ j low. ⊎_elim
          (λ (here : position ≡ j).
          subst (λ (k : ℕ). slice_index_or (slice_set kept position theirs) k [] ≡ set_in_phase (first ∷ others) (pick seed k (length (first ∷ others))) k) here
          (get_or-set_same kept position theirs [] in_kept
          ∙ theirs_is
          ∙ before.others_same phase position (omega arith)
          ∙ ap (λ (p : ℕ). set_in_phase (first ∷ others) p position) (sym picked)))
          (λ (apart : position ≡ j → ⊥).
          get_or-set_other kept position j theirs [] (λ at. apart (sym at)) ∙ before.picked j (omega (arith, low, apart)))
          (cases_eq position j);
      same = λ j low. get_or-set_other kept position j theirs [] (λ at. omega (arith, at, low)) ∙ before.same j (omega (arith, low));
      others_same = λ q j low.
          set_in_phase-set left phase (slice_set other position own) q j in_left
          (get_or-set_other other position j own [] (λ at. omega (arith, at, low)) ∙ ap (λ (ts : List (List Piece)). slice_index_or ts j []) (sym is))
          ∙ before.others_same q j (omega (arith, low));
      routing = AllZip-set (IsRoute d.grid) d.nets kept position net.0 theirs before.routing net.1
          (AllZip-at (IsRoute d.grid) d.nets other position net.0 theirs routed net.1 theirs_at);
      routings = All-set (IsRouting d.grid d.nets) left phase (slice_set other position own)
          (AllZip-set (IsRoute d.grid) d.nets other position net.0 own routed net.1 (AllZip-at (IsRoute d.grid) d.nets kept position net.0 own before.routing net.1 own_at))
          before.routings;
      count = length-set left phase (slice_set other position own) ∙ before.count;
      loads = λ r. exchanged_loads d net.0 position phase kept other left own theirs r net.1 own_at theirs_at in_left is ∙ before.loads r;
    }

-- at the end every net has its picked set
pub IsPickedUpTo-ends : (d : Design) (seed : ℕ) (first : List (List Piece)) (others : List (List (List Piece))) (kept : List (List Piece)) (left : List (List (List Piece)))
    → IsPickedUpTo d seed first others (length d.nets) kept left → kept ≡ chosen_routing seed (first ∷ others) (length d.nets)
IsPickedUpTo-ends d seed first others kept left all =
    fill_by_all (λ position. set_in_phase (first ∷ others) (pick seed position (length (first ∷ others))) position) kept (length d.nets) []
    (AllZip-long (IsRoute d.grid) d.nets kept all.routing) all.picked
