-- What is read back from a table: at a terminal alone, one piece further on, and at a split.
use Rattle.std.proofs.Common.{◌≡◌, ℕ, suc, ◌+◌, ◌≤◌, ◌↔◌, List, [], ◌∷◌, ◌++◌, map, refl, sym, ◌∙◌, ap, subst, inl, inr, ⊎_elim, append_assoc, arith}
use Rattle.std.specs.List.{Contains}
use Rattle.std.proofs.lemmas.List.{map-append, append-nil}
use Rattle.std.proofs.lemmas.List.Sums.{sum_by-cons, sum_by-append}
use Rattle.std.proofs.lemmas.Option.{same_Some}
use Rattle.grid_base.specs.declared.piece.Piece.{Piece}
use Rattle.grid_base.specs.declared.size.Size.{Size}
use Rattle.grid_base.specs.declared.vertex.Vertex.{Vertex}
use Rattle.grid_base.specs.Lists.{At}
use Rattle.grid_base.specs.Numbers.{IsVertex, Connects}
use Rattle.grid_base.specs.Walks.{WalkBetween, InPieces}
use Rattle.grid_base.proofs.Lists.{head_or_rest}
use Rattle.grid_base.proofs.Joined.{Joins-from_one, Joins-alone, Joins-superset}
use Rattle.grid_base.proofs.Walks.{WalkBetween-piece, WalkBetween-superset}
use Rattle.grid_graph.specs.Weighed.{Weighs, NoPieceTwice}
use Rattle.grid_graph.proofs.Members.{In-Contains, Contains-In, In-append_left, In-append_right, In-from_append}
use Rattle.steiner_tables.specs.Masks.{bit, AreParts, WithVertex}
use Rattle.label_search.specs.Paths.{IsStepBack}
use Rattle.steiner_tables.specs.Tables.{IsAlone}
use Rattle.steiner_tables.proofs.Masks.{bit-single}
use Rattle.steiner_tables.proofs.Trees.{in_part}
use Rattle.steiner_exact.specs.Reading.{IsRead, IsReadOn, LeadsTo, IsTreeWithin}
use Rattle.steiner_exact.proofs.WeighedLists.{listed_set}
use Rattle.tree_set.specs.Order.{IsRising}

-- a greater limit
pub read_more : (s : Size) (pieces : List (Piece × ℕ)) (terminals : List Vertex) (mask v x y : ℕ) (listed : List Piece) → x ≤ y → IsRead s pieces terminals mask v x listed → IsRead s pieces terminals mask v y listed
read_more s pieces terminals mask v x y listed more is = record { weighed = is.weighed; of = is.of; allowed = is.allowed; joins = is.joins; light = omega (arith, is.light) }

-- at a terminal alone nothing is read
pub read_alone : (s : Size) (pieces : List (Piece × ℕ)) (terminals : List Vertex) (mask v limit : ℕ) → IsVertex s v → IsAlone terminals mask v → IsRead s pieces terminals mask v limit []
read_alone s pieces terminals mask v limit vertex (place, at, is) = record {
  weighed = [];
  of = refl;
  allowed = λ x none. absurd (omega (arith, none.1));
  joins = Joins-alone s (InPieces []) (WithVertex terminals mask v) v vertex
      (λ w in_tree. ⊎_elim (λ same. same) (λ in_mask.
      let here : in_mask.place ≡ place = bit-single place in_mask.place (ap (λ m. bit m in_mask.place) (sym is) ∙ in_mask.has) in
      ap (λ (x : Vertex). x.0) (same_Some (record { 0 = w }) (record { 0 = v }) (sym in_mask.terminal ∙ subst (λ i. At terminals i (record { 0 = v })) (sym here) at))) in_tree);
  light = omega arith;
}

-- one piece further on
pub read_step : (s : Size) (pieces : List (Piece × ℕ)) (terminals : List Vertex) (mask v u x k y : ℕ) (p : Piece) (listed : List Piece) → Connects s p v u → Weighs pieces p k → x + k ≤ y →
    IsRead s pieces terminals mask u x listed → IsRead s pieces terminals mask v y (p ∷ listed)
read_step s pieces terminals mask v u x k y p listed connects weighs within is =
    let F = InPieces (p ∷ listed) in
    let first : WalkBetween s F v u = WalkBetween-piece s F p v u (0, omega arith, refl) connects in
    let later : (w : ℕ) → WithVertex terminals mask u w → WalkBetween s F u w = λ w in_tree.
    WalkBetween-superset s (InPieces listed) F (λ q at. (suc at.0, omega (arith, at.1), at.2)) u w (is.joins u w (inl refl) in_tree) in
    record {
      weighed = (p, k) ∷ is.weighed;
      of = ap (λ (ps : List Piece). p ∷ ps) is.of;
      allowed = λ x at. ⊎_elim (λ here. subst (Contains pieces) (sym here) weighs) (λ rest. is.allowed x rest) (head_or_rest (p, k) is.weighed x at);
      joins = Joins-from_one s F (WithVertex terminals mask v) u
          (λ w in_tree. ⊎_elim
          (λ same. subst (WalkBetween s F u) (sym same) (WalkBetween-piece s F p u v (0, omega arith, refl) (⊎_elim (λ goes. inr goes) (λ goes. inl goes) connects)))
          (λ in_mask. later w (inr in_mask))
          in_tree);
      light = omega (arith, within, is.light, sum_by-cons (λ (z : Piece × ℕ). z.1) (p, k) is.weighed);
    }

-- at a split
pub read_split : (s : Size) (pieces : List (Piece × ℕ)) (terminals : List Vertex) (one other mask v x y z : ℕ) (first second : List Piece) → AreParts one other mask → x + y ≤ z →
    IsRead s pieces terminals one v x first → IsRead s pieces terminals other v y second → IsRead s pieces terminals mask v z (first ++ second)
read_split s pieces terminals one other mask v x y z first second parts within is js =
    let F = InPieces (first ++ second) in
    let left : (p : Piece) → InPieces first p → F p = λ p at. In-Contains (first ++ second) p (In-append_left first second p (Contains-In first p at)) in
    let right : (p : Piece) → InPieces second p → F p = λ p at. In-Contains (first ++ second) p (In-append_right first second p (Contains-In second p at)) in
    record {
      weighed = is.weighed ++ js.weighed;
      of = map-append (λ (u : Piece × ℕ). u.0) is.weighed js.weighed ∙ ap (λ (ps : List Piece). ps ++ map (λ (u : Piece × ℕ). u.0) js.weighed) is.of ∙ ap (λ (ps : List Piece). first ++ ps) js.of;
      allowed = λ u at. ⊎_elim (λ here. is.allowed u (In-Contains is.weighed u here)) (λ there. js.allowed u (In-Contains js.weighed u there)) (In-from_append is.weighed js.weighed u (Contains-In (is.weighed ++ js.weighed) u at));
      joins = Joins-from_one s F (WithVertex terminals mask v) v
          (λ w in_tree. ⊎_elim
          (λ same. WalkBetween-superset s (InPieces first) F left v w (is.joins v w (inl refl) (inl same)))
          (λ in_mask. ⊎_elim
          (λ in_one. WalkBetween-superset s (InPieces first) F left v w (is.joins v w (inl refl) (inr in_one)))
          (λ in_other. WalkBetween-superset s (InPieces second) F right v w (js.joins v w (inl refl) (inr in_other)))
          (in_part terminals one other mask w parts in_mask))
          in_tree);
      light = omega (arith, within, is.light, js.light, sum_by-append (λ (u : Piece × ℕ). u.1) is.weighed js.weighed);
    }

-- ---- behind what was listed before

-- nowhere is led without a piece
pub leads_nowhere : (s : Size) (pieces : List (Piece × ℕ)) (mask : ℕ) (number : ℕ → ℕ) (v : ℕ) (old : List Piece) → LeadsTo s pieces mask number v v old old
leads_nowhere s pieces mask number v old = record { more = []; after = sym (append-nil old); leads = λ terminals listed is. is }

-- one step more
pub leads_more : (s : Size) (pieces : List (Piece × ℕ)) (mask : ℕ) (number : ℕ → ℕ) (v here before : ℕ) (p : Piece) (old now next : List Piece) → next ≡ now ++ p ∷ [] →
    IsStepBack s pieces number here before p → LeadsTo s pieces mask number v here old now → LeadsTo s pieces mask number v before old next
leads_more s pieces mask number v here before p old now next pushed back is = record {
  more = is.more ++ p ∷ [];
  after = pushed ∙ ap (λ (ps : List Piece). ps ++ p ∷ []) is.after ∙ append_assoc old is.more (p ∷ []);
  leads = λ terminals listed read.
      subst (IsRead s pieces terminals mask v (number v)) (sym (append_assoc is.more (p ∷ []) listed))
      (is.leads terminals (p ∷ listed) (read_step s pieces terminals mask here before (number before) back.weight (number here) p listed back.step.connects back.step.weighs back.less read));
}

-- the end of the way is a terminal alone
pub read_end : (s : Size) (pieces : List (Piece × ℕ)) (terminals : List Vertex) (mask : ℕ) (number : ℕ → ℕ) (v here : ℕ) (old new : List Piece) → IsVertex s here → IsAlone terminals mask here →
    LeadsTo s pieces mask number v here old new → IsReadOn s pieces terminals mask v (number v) old new
read_end s pieces terminals mask number v here old new vertex alone is = record {
  more = is.more ++ [];
  after = is.after ∙ ap (λ (ps : List Piece). old ++ ps) (sym (append-nil is.more));
  read = is.leads terminals [] (read_alone s pieces terminals mask here (number here) vertex alone);
}

-- the end of the way is a split
pub read_both : (s : Size) (pieces : List (Piece × ℕ)) (terminals : List Vertex) (one other mask : ℕ) (number : ℕ → ℕ) (v here x y : ℕ) (old now then new : List Piece) → AreParts one other mask → x + y ≤ number here →
    LeadsTo s pieces mask number v here old now → IsReadOn s pieces terminals one here x now then → IsReadOn s pieces terminals other here y then new → IsReadOn s pieces terminals mask v (number v) old new
read_both s pieces terminals one other mask number v here x y old now then new parts within is first second = record {
  more = is.more ++ (first.more ++ second.more);
  after = second.after ∙ ap (λ (ps : List Piece). ps ++ second.more) (first.after ∙ ap (λ (ps : List Piece). ps ++ first.more) is.after)
      ∙ append_assoc (old ++ is.more) first.more second.more ∙ append_assoc old is.more (first.more ++ second.more);
  read = is.leads terminals (first.more ++ second.more) (read_split s pieces terminals one other mask here x y (number here) first.more second.more parts within first.read second.read);
}

-- the tree of what was read
pub read_set : (s : Size) (pieces : List (Piece × ℕ)) (terminals : List Vertex) (mask v limit : ℕ) (listed tree : List Piece) → NoPieceTwice pieces → IsReadOn s pieces terminals mask v limit [] listed → IsRising tree →
    ((p : Piece) → Contains tree p ↔ Contains listed p) → IsTreeWithin s pieces terminals mask v limit tree
read_set s pieces terminals mask v limit listed tree once on rising same =
    let read : IsRead s pieces terminals mask v limit listed = subst (IsRead s pieces terminals mask v limit) (sym on.after) on.read in
    let own = listed_set pieces read.weighed listed tree once (record { of = read.of; allowed = read.allowed }) rising same in
    record {
      set = own.set;
      of = own.of;
      is_set = own.is_set;
      joins = Joins-superset s (InPieces listed) (InPieces tree) (WithVertex terminals mask v) (λ p at. (same p).1 at) read.joins;
      light = omega (arith, own.light, read.light);
    }
