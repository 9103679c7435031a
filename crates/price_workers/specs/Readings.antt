-- Readings: each word of a table is loaded once, in rising order of its number.
use Rattle.std.specs.Prelude.{ℕ, List, length, slice_index, ◌++◌}
use Rattle.load_core.specs.declared.loaded.Loaded.{Loaded}
use Rattle.load_core.specs.declared.party.Party.{Party}
use Rattle.load_core.specs.Soundness.{IsCloseTo}
use Rattle.load_table.specs.Runs.{loads_from}

-- the loads of a reading that found these values
abbrev pub loads_of_reading : List ℕ → List Loaded
loads_of_reading values = loads_from values 0 (length values)

-- the party after a reading that found these values
abbrev pub after_reading : Party → List ℕ → Party
after_reading p values = record p { last = values; history = p.history ++ loads_of_reading values }

-- word by word, a load by the party can find the value: it is at least the own share, and above it no more than what the
-- other allotments leave room for
abbrev pub AreCloseTo : Party → List ℕ → Type 0
AreCloseTo p values = (word : ℕ) → IsCloseTo p word (slice_index values word)
