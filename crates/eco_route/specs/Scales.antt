-- How loads are counted for prices.
use Rattle.std.specs.Prelude.{ℕ}

-- the scale of an eco step: that of repair
abbrev pub eco_scale : ℕ
eco_scale = 16
