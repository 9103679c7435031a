-- What a share of a table holds.
use Rattle.std.specs.Prelude.{◌≡◌, ◌≤◌, ℕ, List, [], true}
use Rattle.atomic_table.specs.Seated.{TableId}
use Rattle.atomic_table.specs.Table.{Me}
use Rattle.load_core.specs.declared.party.Party.{Party}
use Rattle.load_core.specs.Parties.{share_at, whole_allotment}
use Rattle.load_core.specs.Soundness.{HasOnePerWord}

-- a share: the table that it is of, and its party
pub record Holding : Type 0 where
  pub table : TableId
  pub party : Party

-- the share of this table with this party
abbrev pub held : TableId → Party → Holding
held table party = record { table = table; party = party }

-- what is true of every share: its party is live, and has one entry per word and no more of a word than its allotment
pub record IsShare (h : Holding) : Type 0 where
  pub live : h.party.live ≡ true
  pub wide : HasOnePerWord h.table.words h.party
  pub within : (k : ℕ) → share_at k h.party ≤ h.party.allot
  pub whole : h.party.allot ≤ whole_allotment

-- the numbers that lie in memory are those of the party of a share
pub record IsHolding (table : TableId) (me : Me ℕ Party) (allotment : ℕ) (shares last : List ℕ) : Type 0 where
  pub free : me.1 ≡ []
  pub share : IsShare (held table me.0)
  pub allotted : me.0.allot ≡ allotment
  pub shared : me.0.shares ≡ shares
  pub found : me.0.last ≡ last
