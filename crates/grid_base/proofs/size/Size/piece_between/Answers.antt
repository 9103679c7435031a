-- A piece between two vertices goes from the smaller number to the greater.
use Rattle.std.proofs.Common.{◌≡◌, ℕ, Option, IsSome, IfSome, Some, None, min, max, refl}
use Rattle.grid_base.specs.declared.piece.Piece.{Piece}
use Rattle.grid_base.specs.declared.size.Size.{Size}
use Rattle.grid_base.specs.Numbers.{Goes, Connects, AreNeighbours}
use Rattle.grid_base.proofs.Pieces.{goes_from_connects, connects_from_goes, neighbours_from_connects, piece_from_neighbours}
use Rattle.grid_base.proofs.size.Size.piece_between.Goals as goal

-- what was found connects the two vertices
connects_found : (s : Size) (a b : ℕ) (found : Option Piece) → IfSome found (λ p. Goes s p (min a b) (max a b)) → IfSome found (λ p. Connects s p a b)
connects_found s a b (Some p) goes = connects_from_goes s p a b goes
connects_found s a b None goes = goes

neighbours_found : (s : Size) (a b : ℕ) (found : Option Piece) → IfSome found (λ p. Connects s p a b) → IsSome found → AreNeighbours s a b
neighbours_found s a b (Some p) connects some = neighbours_from_connects s p a b connects
neighbours_found s a b None connects some = cc

only_goes : (c : goal.After-piece_up) (p : Piece) → Connects c.args.self.now p c.args.a.0 c.args.b.0 → c.piece_up.result ≡ Some p
only_goes c p connects =
    c.piece_up.ensures.only p (rw (c.min.ensures, c.max.ensures) (goes_from_connects c.args.self.now p c.args.a.0 c.args.b.0 connects))

connects_here : (c : goal.After-piece_up) → IfSome c.piece_up.result (λ p. Connects c.args.self.now p c.args.a.0 c.args.b.0)
connects_here c = connects_found c.args.self.now c.args.a.0 c.args.b.0 c.piece_up.result (rw (c.min.ensures, c.max.ensures) at c.piece_up.ensures.goes)

pub returns-clause-neighbours : goal.returns-clause-neighbours
returns-clause-neighbours c = (
  neighbours_found c.args.self.now c.args.a.0 c.args.b.0 c.piece_up.result (connects_here c),
  λ near. let piece = piece_from_neighbours c.args.self.now c.args.a.0 c.args.b.0 near in rw (only_goes c piece.0 piece.1) refl,
)

pub returns-clause-connects : goal.returns-clause-connects
returns-clause-connects c = connects_here c

pub returns-clause-only : goal.returns-clause-only
returns-clause-only c = only_goes c
