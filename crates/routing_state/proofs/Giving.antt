-- Rooms as one more piece of a set is taken or given back.
use Rattle.std.proofs.Common.{◌≡◌, All, ℕ, ◌+◌, ◌<◌, ◌≤◌, Bool, false, cond, List, length, get_or, take, refl, sym, ◌∙◌, ap, subst, ⊎_elim, arith, eq-eqb, ne_eqb, ℤ, pos, ◌+ℤ◌, ◌-ℤ◌}
use Rattle.std.specs.Prelude.{slice_index_or, slice_set}
use Rattle.std.proofs.lemmas.Bool.{cases_eq}
use Rattle.std.proofs.lemmas.Int.{ints}
use Rattle.std.proofs.lemmas.Cmp.{ranked}
use Rattle.std.proofs.lemmas.List.{get_or-set_same, get_or-set_other, get_or-take, length-set, length-take}
use Rattle.std.proofs.lemmas.List.Folds.{list_any_at, list_any_none}
use Rattle.std.proofs.lemmas.Map.Keys.{Less-from_sorted}
use Rattle.std.proofs.lemmas.Option.{get_or_from_slice_get, slice_get-get_or}
use Rattle.std.specs.declared.cmp.Ordering.TheVariants.{Less}
use Rattle.grid_base.specs.declared.edge.Edge.{Edge as EdgeNumber}
use Rattle.grid_base.specs.declared.via.Via.{Via as ViaNumber}
use Rattle.grid_base.specs.declared.piece.Piece.{Piece}
use Rattle.grid_base.specs.declared.piece.Piece.TheVariants.{Edge, Via}
use Rattle.grid_graph.specs.declared.grid.Grid.{Grid}
use Rattle.grid_graph.specs.Grids.{demand_on}
use Rattle.grid_graph.specs.Limits.{max_demand}
use Rattle.tree_set.specs.Loads.{is_edge_of, net_load}
use Rattle.tree_set.specs.Order.{IsRising, piece_cmp}
use Rattle.tree_set.proofs.Loads.{net_load-other}
use Rattle.routing_state.specs.Lacks.{HasRoomToMove, IsRoom}
use Rattle.routing_state.specs.Rooms.{Gives}
use Rattle.routing_state.proofs.Lacking.{moved_down, moved_up}

-- an item that exists is the same at any default
pub same_default : {X : Type 0} (xs : List X) (i : ℕ) (d e : X) → i < length xs → get_or xs i e ≡ get_or xs i d
same_default xs i d e within = get_or_from_slice_get xs i (get_or xs i d) e (slice_get-get_or xs i d within)

-- the rooms without and with the first pieces of a set, none of which uses more than the greatest demand
pub record IsGiven (g : Grid) (width : ℕ) (ps : List Piece) (i : ℕ) (with without : List ℤ) : Type 0 where
  pub gives : Gives g width (take i ps) with without
  pub limit : (e : ℕ) → net_load g width (take i ps) e ≤ max_demand

-- where no net uses more than that, rooms with room to move stay in range
pub IsRoom-with : (g : Grid) (width : ℕ) (ps : List Piece) (i : ℕ) (with without : List ℤ) → IsGiven g width ps i with without → All HasRoomToMove without → All IsRoom with
IsRoom-with g width ps i with without given all = λ k d below.
    subst IsRoom (same_default with k d (pos 0) below)
    (moved_down _ _ _ (given.gives.each k) (given.limit k) (all k (pos 0) (omega (arith, below, given.gives.long))))

pub IsRoom-without : (g : Grid) (width : ℕ) (ps : List Piece) (i : ℕ) (with without : List ℤ) → IsGiven g width ps i with without → All HasRoomToMove with → All IsRoom without
IsRoom-without g width ps i with without given all = λ k d below.
    subst IsRoom (same_default without k d (pos 0) below)
    (moved_up _ _ _ (given.gives.each k) (given.limit k) (all k (pos 0) (omega (arith, below, given.gives.long))))

taken_here : (a b : ℤ) (n m d : ℕ) → b ≡ a +ℤ pos n → n ≡ 0 → m ≡ d → b ≡ (a -ℤ pos d) +ℤ pos m
taken_here a b n m d is none new = omega (arith, ints)

given_here : (a b : ℤ) (n m d : ℕ) → b ≡ a +ℤ pos n → n ≡ 0 → m ≡ d → (b +ℤ pos d) ≡ a +ℤ pos m
given_here a b n m d is none new = omega (arith, ints)

-- a piece before an edge is another one
before_edge : (p : Piece) (x : EdgeNumber) → piece_cmp p (Edge x) ≡ Less → is_edge_of x.0 p ≡ false
before_edge (Edge a) x less = let below : a.0 < x.0 = ranked a.0 x.0 Less (sym less) in ne_eqb a.0 x.0 (λ same. omega (arith, below, same))
before_edge (Via v) x less = refl

module _ (g : Grid) (width : ℕ) (ps : List Piece) (i : ℕ) (d : Piece) (within : i < length ps) where
  -- an edge was not counted before
  net_load-none : (x : EdgeNumber) → IsRising ps → get_or ps i d ≡ Edge x → net_load g width (take i ps) x.0 ≡ 0
  net_load-none x rising is =
      ap (λ (b : Bool). cond b (demand_on g width x.0) 0)
      (list_any_none (is_edge_of x.0) (take i ps) (λ k e low.
      let early : k < i = omega (arith, low, length-take i ps) in
      let less : piece_cmp (get_or ps k e) (get_or ps i e) ≡ Less = Less-from_sorted piece_cmp ps k i e rising early within in
      before_edge _ x (ap (λ (p : Piece). piece_cmp p (Edge x)) (get_or-take i ps k e early)
      ∙ ap (λ (p : Piece). piece_cmp (get_or ps k e) p) (sym (same_default ps i d e within ∙ is)) ∙ less)))

  -- and is from now on
  net_load-new : (x : EdgeNumber) → get_or ps i d ≡ Edge x → net_load g width (take (i + 1) ps) x.0 ≡ demand_on g width x.0
  net_load-new x is =
      ap (λ (b : Bool). cond b (demand_on g width x.0) 0)
      (list_any_at (is_edge_of x.0) (take (i + 1) ps) i d (omega (arith, within, length-take (i + 1) ps))
      (ap (is_edge_of x.0) (get_or-take (i + 1) ps i d (omega arith) ∙ is) ∙ eq-eqb x.0 x.0 refl))

  limit_more : (x : EdgeNumber) → get_or ps i d ≡ Edge x → demand_on g width x.0 ≤ max_demand → ((e : ℕ) → net_load g width (take i ps) e ≤ max_demand) → (e : ℕ) → net_load g width (take (i + 1) ps) e ≤ max_demand
  limit_more x is small before e =
      ⊎_elim
      (λ (here : x.0 ≡ e). subst (λ (y : ℕ). net_load g width (take (i + 1) ps) y ≤ max_demand) here
      (subst (λ (y : ℕ). y ≤ max_demand) (sym (net_load-new x is)) small))
      (λ (other : x.0 ≡ e → ⊥). subst (λ (y : ℕ). y ≤ max_demand) (sym (net_load-other g width ps i e d (Edge x) within is (ne_eqb x.0 e other))) (before e))
      (cases_eq x.0 e)

  -- an edge is taken
  pub IsGiven-taken : (x : EdgeNumber) (with without : List ℤ) → IsRising ps → get_or ps i d ≡ Edge x → x.0 < length with → demand_on g width x.0 ≤ max_demand
      → IsGiven g width ps i with without → IsGiven g width ps (i + 1) (slice_set with x.0 (slice_index_or with x.0 (pos 0) -ℤ pos (demand_on g width x.0))) without
  IsGiven-taken x with without rising is inside small before = record {
    gives = record {
      long = length-set with x.0 _ ∙ before.gives.long;
      each = λ e. ⊎_elim
          (λ (here : x.0 ≡ e).
          subst (λ (y : ℕ). slice_index_or without y (pos 0) ≡ slice_index_or (slice_set with x.0 (slice_index_or with x.0 (pos 0) -ℤ pos (demand_on g width x.0))) y (pos 0) +ℤ pos (net_load g width (take (i + 1) ps) y)) here
          (taken_here _ _ _ _ _ (before.gives.each x.0) (net_load-none x rising is) (net_load-new x is)
          ∙ ap (λ (r : ℤ). r +ℤ pos (net_load g width (take (i + 1) ps) x.0)) (sym (get_or-set_same with x.0 _ (pos 0) inside))))
          (λ (other : x.0 ≡ e → ⊥).
          before.gives.each e
          ∙ ap (λ (n : ℕ). slice_index_or with e (pos 0) +ℤ pos n) (sym (net_load-other g width ps i e d (Edge x) within is (ne_eqb x.0 e other)))
          ∙ ap (λ (r : ℤ). r +ℤ pos (net_load g width (take (i + 1) ps) e)) (sym (get_or-set_other with x.0 e _ (pos 0) (λ same. other (sym same)))))
          (cases_eq x.0 e);
    };
    limit = limit_more x is small before.limit;
  }

  -- an edge is given back
  pub IsGiven-given : (x : EdgeNumber) (with without : List ℤ) → IsRising ps → get_or ps i d ≡ Edge x → x.0 < length without → demand_on g width x.0 ≤ max_demand
      → IsGiven g width ps i with without → IsGiven g width ps (i + 1) with (slice_set without x.0 (slice_index_or without x.0 (pos 0) +ℤ pos (demand_on g width x.0)))
  IsGiven-given x with without rising is inside small before = record {
    gives = record {
      long = before.gives.long ∙ sym (length-set without x.0 _);
      each = λ e. ⊎_elim
          (λ (here : x.0 ≡ e).
          subst (λ (y : ℕ). slice_index_or (slice_set without x.0 (slice_index_or without x.0 (pos 0) +ℤ pos (demand_on g width x.0))) y (pos 0) ≡ slice_index_or with y (pos 0) +ℤ pos (net_load g width (take (i + 1) ps) y)) here
          (get_or-set_same without x.0 _ (pos 0) inside
          ∙ given_here _ _ _ _ _ (before.gives.each x.0) (net_load-none x rising is) (net_load-new x is)))
          (λ (other : x.0 ≡ e → ⊥).
          get_or-set_other without x.0 e _ (pos 0) (λ same. other (sym same))
          ∙ before.gives.each e
          ∙ ap (λ (n : ℕ). slice_index_or with e (pos 0) +ℤ pos n) (sym (net_load-other g width ps i e d (Edge x) within is (ne_eqb x.0 e other))))
          (cases_eq x.0 e);
    };
    limit = limit_more x is small before.limit;
  }

  -- a via is passed
  pub IsGiven-via : (v : ViaNumber) (with without : List ℤ) → get_or ps i d ≡ Via v → IsGiven g width ps i with without → IsGiven g width ps (i + 1) with without
  IsGiven-via v with without is before =
      let same : (e : ℕ) → net_load g width (take (i + 1) ps) e ≡ net_load g width (take i ps) e = λ e. net_load-other g width ps i e d (Via v) within is refl in
      record {
        gives = record {
          long = before.gives.long;
          each = λ e. before.gives.each e ∙ ap (λ (n : ℕ). slice_index_or with e (pos 0) +ℤ pos n) (sym (same e));
        };
        limit = λ e. subst (λ (y : ℕ). y ≤ max_demand) (sym (same e)) (before.limit e);
      }
