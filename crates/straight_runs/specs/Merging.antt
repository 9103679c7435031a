-- Runs of one line that overlap or adjoin.
use Rattle.std.specs.Prelude.{ℕ, ◌+◌, ◌*◌, ◌<◌, ◌≤◌, ◌≡◌, ◌≢◌, ◌↔◌, max, All, Contains, List, length, Option, Some, None}
use Rattle.grid_base.specs.declared.piece.Piece.{Piece}
use Rattle.grid_base.specs.declared.size.Size.{Size}
use Rattle.grid_base.specs.Lists.{At, HasNoRepeats}
use Rattle.straight_runs.specs.declared.run.Run.{Run}
use Rattle.straight_runs.specs.Lines.{rise}
use Rattle.straight_runs.specs.Runs.{IsStraightRun, pieces_of}

-- a run begins so many pieces behind the begin of another on its line
abbrev pub IsBehind : Size → Run → Run → ℕ → Type 0
IsBehind s run next apart = (next.direction ≡ run.direction) × (next.first.0 ≡ run.first.0 + apart * rise run.direction s)

-- it goes on where the other stands or ends, and so many pieces they have together
pub record Continues (s : Size) (run next : Run) (count : ℕ) : Type 0 where
  pub apart : ℕ
  pub behind : IsBehind s run next apart
  pub near : apart ≤ run.count
  pub together : count ≡ max run.count (apart + next.count)

-- it begins past the other's end, or doesn't begin on its line at or behind its begin
abbrev pub IsPast : Size → Run → Run → Type 0
IsPast s run next = (apart : ℕ) → IsBehind s run next apart → run.count < apart

-- how many pieces they have together, if one goes on with the other
abbrev pub IsTogether : Size → Run → Run → Option ℕ → Type 0
IsTogether s run next (Some count) = Continues s run next count
IsTogether s run next None = IsPast s run next

-- none of the runs begins on the line of another where that one stands or ends, so two of them are never one longer run
abbrev pub AreApart : Size → List Run → Type 0
AreApart s runs = (i j : ℕ) (run next : Run) → i ≢ j → At runs i run → At runs j next → IsPast s run next

-- runs of the same pieces, none of which is in two of them, as long as can be, and no more of them
pub record AreMerged (s : Size) (given kept : List Run) : Type 0 where
  pub same : (p : Piece) → Contains (pieces_of s kept) p ↔ Contains (pieces_of s given) p
  pub distinct : HasNoRepeats (pieces_of s kept)
  pub longest : AreApart s kept
  pub runs : All (IsStraightRun s) kept
  pub fewer : length kept ≤ length given
