-- The limits of settings and of rounds.
use Rattle.std.specs.Prelude.{ℕ}

-- the most rounds of negotiation, passes of descent and workers
abbrev pub max_rounds : ℕ
max_rounds = 400

abbrev pub max_passes : ℕ
max_passes = 16

abbrev pub max_workers : ℕ
max_workers = 8

-- so many rounds in a row without less overflow are the last ones
abbrev pub patience : ℕ
patience = 30
