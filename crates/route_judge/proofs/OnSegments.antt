-- What is objected to a segment, and the pieces of some segments.
use Rattle.std.proofs.Common.{◌≡◌, ℕ, ◌+◌, ◌<◌, ◌≤◌, List, [], ◌∷◌, ◌++◌, length, get_or, take, Contains, Some, Result, Ok, Err, refl, sym, ◌∙◌, ap, subst, inl, inr, ⊎_elim, arith}
use Rattle.std.specs.Prelude.{◌↔◌, IfErr, OnOk}
use Rattle.std.proofs.lemmas.List.{take_more, take_all}
use Rattle.std.proofs.lemmas.List.Elements.{Contains-append_left, Contains-append_right, Contains-append_cases}
use Rattle.std.proofs.lemmas.Option.{same_Some}
use Rattle.straight_runs.specs.declared.run.Run.{Run}
use Rattle.straight_runs.specs.Between.{RunsBetween}
use Rattle.straight_runs.specs.Runs.{pieces_of}
use Rattle.grid_base.specs.declared.piece.Piece.{Piece}
use Rattle.grid_base.specs.declared.place.Place.{Place}
use Rattle.grid_base.specs.Lines.{AreInLine}
use Rattle.grid_base.proofs.Lists.{head_or_rest}
use Rattle.grid_graph.specs.declared.design.Design.{Design}
use Rattle.grid_graph.specs.declared.grid.Grid.{Grid}
use Rattle.grid_graph.specs.Grids.{size_of}
use Rattle.route_text.specs.declared.segment.Segment.{Segment}
use Rattle.route_text.specs.BlockPieces.{point_place, LiesOn}
use Rattle.route_judge.specs.declared.reason.Reason.TheVariants.{OnWall}
use Rattle.route_judge.specs.declared.stop.Stop.{Stop}
use Rattle.route_judge.specs.declared.stop.Stop.TheVariants.{Refused, NoMemory}
use Rattle.route_judge.specs.Lines.{ArePut, IsForWall}
use Rattle.route_judge.specs.Objections.{IsOutside, IsSlanted}
use Rattle.route_judge.specs.Orders.{segment_objections}
use Rattle.route_judge.specs.Stops.{StopsAt}
use Rattle.route_judge.proofs.Puts.{put_none, put_then, put_same}

-- both ends of the segment have places
pub record HasEnds (g : Grid) (segment : Segment) (from to : Place) : Type 0 where
  pub starts : point_place g segment.from ≡ Some from
  pub ends : point_place g segment.to ≡ Some to

pub not_outside : (g : Grid) (segment : Segment) (from to : Place) → HasEnds g segment from to → ¬ IsOutside g segment
not_outside g segment from to at = λ outside. ⊎_elim (λ none. cc (none, at.starts)) (λ none. cc (none, at.ends)) outside

pub not_slanted : (g : Grid) (segment : Segment) (from to : Place) → HasEnds g segment from to → AreInLine from to → ¬ IsSlanted g segment
not_slanted g segment from to at straight = λ slanted.
    let first : slanted.from ≡ from = same_Some _ _ (sym slanted.starts ∙ at.starts) in
    let last : slanted.to ≡ to = same_Some _ _ (sym slanted.ends ∙ at.ends) in
    slanted.slanted (subst (λ p. AreInLine p slanted.to) (sym first) (subst (AreInLine from) (sym last) straight))

-- a piece lies on the segment where it runs between the ends' places
pub lies_on : (g : Grid) (segment : Segment) (from to : Place) → HasEnds g segment from to → AreInLine from to → (p : Piece) → RunsBetween (size_of g) from to p → LiesOn g segment p
lies_on g segment from to at straight p runs =
    record { from = from; to = to; starts = at.starts; ends = at.ends; straight = straight; of_grid = runs.of_grid; start = runs.start; end = runs.end }

pub runs_between : (g : Grid) (segment : Segment) (from to : Place) → HasEnds g segment from to → (p : Piece) → LiesOn g segment p → RunsBetween (size_of g) from to p
runs_between g segment from to at p lies =
    let first : lies.from ≡ from = same_Some _ _ (sym lies.starts ∙ at.starts) in
    let last : lies.to ≡ to = same_Some _ _ (sym lies.ends ∙ at.ends) in
    let as_they_are : RunsBetween (size_of g) lies.from lies.to p = record { of_grid = lies.of_grid; start = lies.start; end = lies.end } in
    subst (λ q. RunsBetween (size_of g) from q p) last (subst (λ q. RunsBetween (size_of g) q lies.to p) first as_they_are)

-- a straight segment is refused for a wall alone
pub stops_at_wall : (d : Design) (k i : ℕ) (segment : Segment) (from to : Place) (old new : List Run) (result : Result (Unit {0}) Stop) → HasEnds d.grid segment from to → AreInLine from to → OnOk result (ArePut d.grid (RunsBetween (size_of d.grid) from to) old new) → IfErr result (IsForWall d.grid (RunsBetween (size_of d.grid) from to) (OnWall k i)) → StopsAt d (segment_objections k (i, segment)) result
stops_at_wall d k i segment from to old new (Ok x) at straight put wall =
    inr (
      not_outside d.grid segment from to at,
      inr (
        not_slanted d.grid segment from to at straight,
        inr (λ crosses. put.no_wall _ (runs_between d.grid segment from to at _ crosses.1) crosses.2, refl),
      ),
    )
stops_at_wall d k i segment from to old new (Err (Refused reason)) at straight put wall =
    inr (
      not_outside d.grid segment from to at,
      inr (
        not_slanted d.grid segment from to at straight,
        inl ((wall.1.0, lies_on d.grid segment from to at straight _ wall.1.1, wall.1.2), ap (λ r. Some r) wall.0),
      ),
    )
stops_at_wall d k i segment from to old new (Err NoMemory) at straight put wall = tt

-- the piece lies on one of the segments
abbrev pub IsOnSome : Grid → List Segment → Piece → Type 0
IsOnSome g segments p = (segment : Segment) × Contains segments segment × LiesOn g segment p

-- no segment has a piece
pub none_on : (g : Grid) (runs : List Run) → ArePut g (IsOnSome g []) runs runs
none_on g runs = put_none g (IsOnSome g []) runs (λ p on. omega (arith, on.1.1))

-- the pieces of one more segment were put
pub one_more_segment : (g : Grid) (segments : List Segment) (i : ℕ) (segment : Segment) (old now next : List Run) → i < length segments → get_or segments i segment ≡ segment → ArePut g (IsOnSome g (take i segments)) old now → ArePut g (LiesOn g segment) now next → ArePut g (IsOnSome g (take (i + 1) segments)) old next
one_more_segment g segments i segment old now next below is before here =
    let more : take (i + 1) segments ≡ take i segments ++ segment ∷ [] = take_more segments i segment below ∙ ap (λ x. take i segments ++ x ∷ []) is in
    subst (λ xs. ArePut g (IsOnSome g xs) old next) (sym more)
    (put_same g _ (IsOnSome g (take i segments ++ segment ∷ [])) old next
    (λ p on. ⊎_elim
    (λ earlier. (earlier.0, Contains-append_left (take i segments) (segment ∷ []) earlier.0 earlier.1, earlier.2))
    (λ this. (segment, Contains-append_right (take i segments) (segment ∷ []) segment (0, omega arith, refl), this))
    on)
    (λ p on. ⊎_elim
    (λ earlier. inl (on.0, earlier, on.2))
    (λ last. ⊎_elim (λ this. inr (subst (λ x. LiesOn g x p) this on.2)) (λ none. absurd (omega (arith, none.1))) (head_or_rest segment [] on.0 last))
    (Contains-append_cases (take i segments) (segment ∷ []) on.0 on.1))
    (put_then g (IsOnSome g (take i segments)) (LiesOn g segment) old now next before here))

-- and its pieces are those that lie on it
pub put_on : (g : Grid) (segment : Segment) (from to : Place) (old new : List Run) (result : Result (Unit {0}) Stop) → HasEnds g segment from to → AreInLine from to → OnOk result (ArePut g (RunsBetween (size_of g) from to) old new) → OnOk result (ArePut g (LiesOn g segment) old new)
put_on g segment from to old new (Ok x) at straight put = put_same g (RunsBetween (size_of g) from to) (LiesOn g segment) old new (lies_on g segment from to at straight) (runs_between g segment from to at) put
put_on g segment from to old new (Err stop) at straight put = tt

-- what was put on an empty list are the pieces of all segments
pub all_put : (g : Grid) (segments : List Segment) (n : ℕ) (runs : List Run) → length segments ≤ n → ArePut g (IsOnSome g (take n segments)) [] runs → ArePut g (IsOnSome g segments) [] runs
all_put g segments n runs all put = subst (λ xs. ArePut g (IsOnSome g xs) [] runs) (take_all n segments all) put

pub held_where_put : (g : Grid) (P : Piece → Type 0) (runs : List Run) → ArePut g P [] runs → (p : Piece) → Contains (pieces_of (size_of g) runs) p ↔ P p
held_where_put g P runs put p = (
  λ held. ⊎_elim (λ none. absurd (omega (arith, none.1))) (λ one. one) ((put.pieces p).0 held),
  λ one. (put.pieces p).1 (inr one),
)
