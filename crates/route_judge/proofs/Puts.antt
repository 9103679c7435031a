-- Runs that are put on a list, one behind the other.
use Rattle.std.proofs.Common.{◌⊎◌, List, [], ◌∷◌, ◌++◌, Contains, inl, inr, ⊎_elim}
use Rattle.std.proofs.lemmas.List.Elements.{All-push}
use Rattle.straight_runs.specs.declared.run.Run.{Run}
use Rattle.straight_runs.specs.Runs.{IsStraightRun, run_pieces}
use Rattle.straight_runs.proofs.Merges.{in_run, of_run, push_pieces, pushed_pieces}
use Rattle.grid_base.specs.declared.piece.Piece.{Piece}
use Rattle.grid_base.specs.declared.piece.Piece.TheVariants.{Edge, Via}
use Rattle.grid_base.specs.Numbers.{IsPiece}
use Rattle.grid_graph.specs.declared.grid.Grid.{Grid}
use Rattle.grid_graph.specs.declared.ground.Ground.TheVariants.{WithChoked}
use Rattle.grid_graph.specs.Grids.{Allows, size_of}
use Rattle.route_judge.specs.Lines.{ArePut, HasWall}

-- nothing is put
pub put_none : (g : Grid) (P : Piece → Type 0) (runs : List Run) → ((p : Piece) → ¬ P p) → ArePut g P runs runs
put_none g P runs none = record {
  pieces = λ p. (λ held. inl held, λ held. ⊎_elim (λ was. was) (λ one. absurd (none p one)) held);
  no_wall = λ p one. absurd (none p one);
  runs = λ are. are;
}

-- a piece of some that have no wall may be used
allowed : (g : Grid) (P : Piece → Type 0) (p : Piece) → ¬ HasWall g P → IsPiece (size_of g) p → P p → Allows g WithChoked p
allowed g P (Edge e) none piece one = λ wall. none (e, one, wall)
allowed g P (Via v) none piece one = piece

-- a run is put
pub put_run : (g : Grid) (P : Piece → Type 0) (runs : List Run) (run : Run) → IsStraightRun (size_of g) run → ¬ HasWall g (Contains (run_pieces (size_of g) run)) → ((p : Piece) → P p → IsPiece (size_of g) p) → ((p : Piece) → Contains (run_pieces (size_of g) run) p → P p) → ((p : Piece) → P p → Contains (run_pieces (size_of g) run) p) → ArePut g P runs (runs ++ run ∷ [])
put_run g P runs run is none pieces to from =
    let s = size_of g in
    record {
      pieces = λ p. (
        λ held. ⊎_elim (λ was. inl was) (λ one. inr (to p (in_run s run p one))) (pushed_pieces s runs run p held),
        λ held. push_pieces s runs run p (⊎_elim (λ was. inl was) (λ one. inr (of_run s run p (from p one))) held),
      );
      no_wall = λ p one. allowed g (Contains (run_pieces s run)) p none (pieces p one) (from p one);
      runs = λ are. All-push (IsStraightRun s) runs run are is;
    }

-- some are put, and then others
pub put_then : (g : Grid) (P Q : Piece → Type 0) (a b c : List Run) → ArePut g P a b → ArePut g Q b c → ArePut g (λ p. P p ⊎ Q p) a c
put_then g P Q a b c first second = record {
  pieces = λ p. (
    λ held. ⊎_elim
        (λ was. ⊎_elim (λ at_first. inl at_first) (λ one. inr (inl one)) ((first.pieces p).0 was))
        (λ one. inr (inr one))
        ((second.pieces p).0 held),
    λ held. ⊎_elim
        (λ at_first. (second.pieces p).1 (inl ((first.pieces p).1 (inl at_first))))
        (λ two. ⊎_elim (λ one. (second.pieces p).1 (inl ((first.pieces p).1 (inr one)))) (λ other. (second.pieces p).1 (inr other)) two)
        held,
  );
  no_wall = λ p two. ⊎_elim (λ one. first.no_wall p one) (λ other. second.no_wall p other) two;
  runs = λ are. second.runs (first.runs are);
}

-- the same pieces in other words
pub put_same : (g : Grid) (P Q : Piece → Type 0) (a b : List Run) → ((p : Piece) → P p → Q p) → ((p : Piece) → Q p → P p) → ArePut g P a b → ArePut g Q a b
put_same g P Q a b to from put = record {
  pieces = λ p. (
    λ held. ⊎_elim (λ was. inl was) (λ one. inr (to p one)) ((put.pieces p).0 held),
    λ held. (put.pieces p).1 (⊎_elim (λ was. inl was) (λ one. inr (from p one)) held),
  );
  no_wall = λ p one. put.no_wall p (from p one);
  runs = put.runs;
}

-- a wall among some pieces is one among more
pub wall_among : (g : Grid) (P Q : Piece → Type 0) → ((p : Piece) → P p → Q p) → HasWall g P → HasWall g Q
wall_among g P Q more wall = (wall.0, more (Edge wall.0) wall.1, wall.2)
