-- How far nets may look beyond their boxes.
use Rattle.std.specs.Prelude.{ℕ, ◌+◌, ◌/◌, min}

-- a margin that is wider by a quarter and one tile more, but no wider than 30 tiles
abbrev pub wider : ℕ → ℕ
wider margin = min (margin + (1 + margin / 4)) 30
