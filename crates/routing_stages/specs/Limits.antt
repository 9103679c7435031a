-- The limits of settings.
use Rattle.std.specs.Prelude.{ℕ, ◌^◌}

-- the most workers, phases and rounds of repair
abbrev pub max_workers : ℕ
max_workers = 8

abbrev pub max_phases : ℕ
max_phases = 16

abbrev pub max_rounds : ℕ
max_rounds = 16

-- all workers together have labels for so many vertices at most
abbrev pub max_labelled : ℕ
max_labelled = 2 ^ 24
