-- Words loaded one after another, in rising order of their numbers.
use Rattle.std.specs.Prelude.{ℕ, ◌≡◌, ◌-◌, ◌≤◌, ◌<◌, List, map, slice_index, ◌++◌}
use Rattle.std.specs.List.{range_with_len}
use Rattle.load_core.specs.declared.loaded.Loaded.{Loaded}
use Rattle.load_core.specs.declared.party.Party.{Party}
use Rattle.load_core.specs.Parties.{entry}
use Rattle.load_core.specs.Soundness.{IsCloseTo}

-- loads of so many words from the first on, where these values were found
abbrev pub loads_from : List ℕ → ℕ → ℕ → List Loaded
loads_from values first count = map (λ word. entry word (slice_index values word)) (range_with_len first count)

-- the words from one up to another were loaded once each, in rising order, and nothing else happened: what was found is close
-- to the shares, and what was found below them last still is
pub record LoadsBetween (from to : ℕ) (old new : Party) : Type 0 where
  pub only : new ≡ record old { last = new.last; history = new.history }
  pub loads : new.history ≡ old.history ++ loads_from new.last from (to - from)
  pub before : (w : ℕ) → w < from → slice_index new.last w ≡ slice_index old.last w
  pub near : (w : ℕ) → from ≤ w → w < to → IsCloseTo old w (slice_index new.last w)
