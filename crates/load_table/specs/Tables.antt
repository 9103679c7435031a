-- What is true of a table between any two steps, and where a step may be made.
use Rattle.std.specs.Prelude.{◌≡◌, ◌<◌, ℕ, [], length, true}
use Rattle.atomic_table.specs.Seated.{TableId}
use Rattle.atomic_table.specs.Table.{Me, State}
use Rattle.load_core.specs.declared.party.Party.{Party}
use Rattle.load_core.specs.Soundness.{IsSound}

-- so many words, and with the parties of all shares they are sound. In the place of a share that was joined into another stands `nobody`
abbrev pub IsSoundTable : ℕ → State ℕ Party → Type 0
IsSoundTable words s = (length s.words ≡ words) × IsSound s.words s.views

-- a live party's seat is of this table, which was told how many words it has, and the word is one of them
pub record MayStep (seat table : TableId) (key : ℕ) (me : Me ℕ Party) (word : ℕ) : Type 0 where
  pub same : seat ≡ table
  pub inside : word < table.words
  pub told : key ≡ table.words
  pub free : me.1 ≡ []
  pub live : me.0.live ≡ true
