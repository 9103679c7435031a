-- Marks that are merged piece by piece.
use Rattle.std.proofs.Common.{◌≡◌, ◌≢◌, ℕ, ◌<◌, ◌==◌, ◌↔◌, ◌⊎◌, List, [], ◌∷◌, ◌++◌, length, slice_index, if◌then◌else◌, refl}
use Rattle.std.proofs.Common.{sym, ◌∙◌, ap, subst, inl, inr, ⊎_elim, Contains, All, arith, lit<}
use Rattle.std.proofs.lemmas.Bool.{cases_eq}
use Rattle.std.proofs.lemmas.Bool.Decides.{nat_tests}
use Rattle.std.proofs.lemmas.List.Elements.{Contains-append_left, Contains-append_right, Contains-append_cases, All-contains}
use Rattle.std.proofs.lemmas.List.Elements.{All-cons, All-nil, All-weaker, All-contains_itself}
use Rattle.grid_base.specs.declared.piece.Piece.{Piece}
use Rattle.grid_base.specs.declared.size.Size.{Size}
use Rattle.grid_base.specs.Numbers.{vertices, IsVertex, IsPiece, Connects, start_of, end_of}
use Rattle.grid_base.specs.declared.vertex.Vertex.{Vertex}
use Rattle.grid_base.specs.Walks.{AreLinked, WalkBetween, InPieces, JoinsList}
use Rattle.grid_base.proofs.Joined.{JoinsList-from_one}
use Rattle.grid_base.proofs.Pieces.{end_of-vertex}
use Rattle.grid_base.proofs.Walks.{WalkBetween-refl, WalkBetween-sym, WalkBetween-trans, WalkBetween-piece}
use Rattle.grid_base.proofs.Walks.{WalkBetween-superset, closed_under_walks, walk_without_pieces, linked_vertex, AreLinked-sym}
use Rattle.reference_programs.specs.Marks.{AreMarks}

-- the new mark in place of the old one
abbrev pub merged : ℕ → ℕ → ℕ → ℕ
merged old new mark = if mark == old then new else mark

merged-old : (old new mark : ℕ) → mark ≡ old → merged old new mark ≡ new
merged-old old new mark is = grind (arith, nat_tests)

merged-other : (old new mark : ℕ) → mark ≢ old → merged old new mark ≡ mark
merged-other old new mark other = grind (arith, nat_tests)

merged-new : (old new : ℕ) → merged old new new ≡ new
merged-new old new = grind (arith, nat_tests)

-- marks that are the same after a merge were the same before, or are the old one and the new one
merged_alike : (old new x y : ℕ) → merged old new x ≡ merged old new y
    → (x ≡ y) ⊎ (((x ≡ old) × (new ≡ y)) ⊎ ((y ≡ old) × (new ≡ x)))
merged_alike old new x y alike = ⊎_elim
    (λ (x_old : x ≡ old). ⊎_elim
    (λ (y_old : y ≡ old). inl (x_old ∙ sym y_old))
    (λ (y_other : y ≢ old). inr (inl (x_old, sym (merged-old old new x x_old) ∙ alike ∙ merged-other old new y y_other)))
    (cases_eq y old))
    (λ (x_other : x ≢ old). ⊎_elim
    (λ (y_old : y ≡ old). inr (inr (y_old, sym (merged-old old new y y_old) ∙ sym alike ∙ merged-other old new x x_other)))
    (λ (y_other : y ≢ old). inl (sym (merged-other old new x x_other) ∙ alike ∙ merged-other old new y y_other))
    (cases_eq y old))
    (cases_eq x old)

-- where each vertex has a mark of its own, no two are joined
pub own_marks : (s : Size) (marks : List ℕ) → length marks ≡ vertices s → ((k : ℕ) → k < vertices s → slice_index marks k ≡ k)
    → AreMarks s [] marks
own_marks s marks long own = record {
  long = long;
  same = λ a b at_a at_b. (
    λ is. subst (WalkBetween s (InPieces []) a) (sym (own a at_a) ∙ is ∙ own b at_b) (WalkBetween-refl s (InPieces []) a at_a),
    λ walk. ap (slice_index marks) (walk_without_pieces s (InPieces []) (λ p at. absurd (omega (arith, at.1))) a b walk),
  );
}

-- what is in the list, or is the piece behind it
pub in_pushed : (pieces : List Piece) (p q : Piece) → InPieces (pieces ++ p ∷ []) q → InPieces pieces q ⊎ (q ≡ p)
in_pushed pieces p q at =
    let IsP : Piece → Type 0 = λ r. r ≡ p in
    ⊎_elim (λ before. inl before)
    (λ here. inr (All-contains IsP (p ∷ []) q (All-cons IsP p [] refl (All-nil IsP)) here))
    (Contains-append_cases pieces (p ∷ []) q at)

-- after each vertex that is marked as the near end of a piece has the mark of the far end, the marks are those with this piece
pub merged_marks : (s : Size) (pieces : List Piece) (p : Piece) (before after : List ℕ) → AreMarks s pieces before → IsPiece s p
    → length after ≡ length before → ((k : ℕ) → k < length before
    → slice_index after k ≡ merged (slice_index before (start_of p)) (slice_index before (end_of s p)) (slice_index before k))
    → AreMarks s (pieces ++ p ∷ []) after
merged_marks s pieces p before after marks piece long value =
    let F : Piece → Type 0 = InPieces pieces in
    let G : Piece → Type 0 = InPieces (pieces ++ p ∷ []) in
    let old : ℕ = slice_index before (start_of p) in
    let new : ℕ = slice_index before (end_of s p) in
    let now : (v : ℕ) → IsVertex s v → slice_index after v ≡ merged old new (slice_index before v) =
    λ v at. value v (subst (λ (n : ℕ). v < n) (sym marks.long) at) in
    let near : IsVertex s (start_of p) = piece.0 in
    let far : IsVertex s (end_of s p) = end_of-vertex s p piece in
    let more : (u w : ℕ) → WalkBetween s F u w → WalkBetween s G u w =
    WalkBetween-superset s F G (λ q at. Contains-append_left pieces (p ∷ []) q at) in
    let last : G p = Contains-append_right pieces (p ∷ []) p (0, lit< tt, refl) in
    let across : WalkBetween s G (start_of p) (end_of s p) =
    WalkBetween-piece s G p (start_of p) (end_of s p) last (inl (piece, refl, refl)) in
    let over : (u w : ℕ) → IsVertex s u → IsVertex s w → slice_index before u ≡ old → new ≡ slice_index before w
    → WalkBetween s G u w =
    λ u w at_u at_w is_old is_new. WalkBetween-trans s G u (start_of p) w
    (more u (start_of p) ((marks.same u (start_of p) at_u near).0 is_old))
    (WalkBetween-trans s G (start_of p) (end_of s p) w across
    (more (end_of s p) w ((marks.same (end_of s p) w far at_w).0 is_new))) in
    let near_now : slice_index after (start_of p) ≡ new = now (start_of p) near ∙ merged-old old new old refl in
    let far_now : slice_index after (end_of s p) ≡ new = now (end_of s p) far ∙ merged-new old new in
    let at_ends : (u w : ℕ) → Connects s p u w → slice_index after u ≡ slice_index after w = λ u w connects. ⊎_elim
    (λ goes. sym (ap (slice_index after) goes.1) ∙ near_now ∙ sym far_now ∙ ap (slice_index after) goes.2)
    (λ goes. sym (ap (slice_index after) goes.2) ∙ far_now ∙ sym near_now ∙ ap (slice_index after) goes.1)
    connects in
    let step : (u w : ℕ) → AreLinked s G u w → slice_index after u ≡ slice_index after w = λ u w link.
    let at_w : IsVertex s w = linked_vertex s G w u (AreLinked-sym s G u w link) in
    let at_u : IsVertex s u = linked_vertex s G u w link in
    ⊎_elim
    (λ before_it. now u at_u ∙ ap (merged old new)
    ((marks.same u w at_u at_w).1 (WalkBetween-piece s F link.piece u w before_it link.connects)) ∙ sym (now w at_w))
    (λ (it : link.piece ≡ p). at_ends u w (subst (λ (q : Piece). Connects s q u w) it link.connects))
    (in_pushed pieces p link.piece link.in_set) in
    record {
      long = long ∙ marks.long;
      same = λ a b at_a at_b. (
        λ alike. ⊎_elim
            (λ same. more a b ((marks.same a b at_a at_b).0 same))
            (λ apart. ⊎_elim
            (λ is. over a b at_a at_b is.0 is.1)
            (λ is. WalkBetween-sym s G b a (over b a at_b at_a is.0 is.1))
            apart)
            (merged_alike old new (slice_index before a) (slice_index before b) (sym (now a at_a) ∙ alike ∙ now b at_b)),
        λ walk. closed_under_walks s G (λ (w : ℕ). slice_index after a ≡ slice_index after w)
            (λ u w so_far link. so_far ∙ step u w link) a b refl walk,
      );
    }

abbrev HasMark : List ℕ → ℕ → Vertex → Type 0
HasMark marks mark v = slice_index marks v.0 ≡ mark

-- vertices are joined exactly where all have the mark of one among them
pub joined_by_marks : (s : Size) (pieces : List Piece) (marks : List ℕ) (terminals : List Vertex) (first : Vertex)
    → AreMarks s pieces marks → Contains terminals first → All (λ (t : Vertex). IsVertex s t.0) terminals
    → All (HasMark marks (slice_index marks first.0)) terminals ↔ JoinsList s pieces terminals
joined_by_marks s pieces marks terminals first are_marks at_first vertices =
    let first_vertex : IsVertex s first.0 = All-contains (λ (t : Vertex). IsVertex s t.0) terminals first vertices at_first in
    let each : (P : Vertex → Type 0) → ((t : Vertex) → Contains terminals t → P t) → All P terminals =
    λ P holds. All-weaker (Contains terminals) P holds terminals (All-contains_itself terminals) in
    let vertex : (t : Vertex) → Contains terminals t → IsVertex s t.0 =
    λ t at. All-contains (λ (u : Vertex). IsVertex s u.0) terminals t vertices at in (
      λ alike. JoinsList-from_one s pieces terminals first.0
          (each (λ t. WalkBetween s (InPieces pieces) first.0 t.0)
          (λ t at. (are_marks.same first.0 t.0 first_vertex (vertex t at)).0
          (sym (All-contains (HasMark marks (slice_index marks first.0)) terminals t alike at)))),
      λ joins. each (HasMark marks (slice_index marks first.0))
          (λ t at. (are_marks.same t.0 first.0 (vertex t at) first_vertex).1 (joins t.0 first.0 at at_first)),
    )
