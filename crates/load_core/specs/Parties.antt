-- One party: its shares of the words, and what an event makes of it.
use Rattle.std.specs.Prelude.{◌≡◌, ◌+◌, ◌-◌, ◌^◌, ◌≤◌, ℕ, List, [], ◌∷◌, ◌++◌, length, replicate, slice_index, slice_set, true, false}
use Rattle.load_core.specs.Entries.{plus, minus}
use Rattle.load_core.specs.declared.loaded.Loaded.{Loaded}
use Rattle.load_core.specs.declared.party.Party.{Party}

-- what the allotments of all parties sum to
abbrev pub whole_allotment : ℕ
whole_allotment = 2 ^ 62

-- the party's share of word k, 0 where there is no such word
abbrev pub share_at : ℕ → Party → ℕ
share_at k p = slice_index p.shares k

-- the first party of some words: it has the whole allotment, no shares, and loaded nothing
abbrev pub first_party : ℕ → Party
first_party words = record { live = true; allot = whole_allotment; shares = replicate words 0; last = replicate words 0; history = [] }

-- no party: it isn't live and has nothing
abbrev pub nobody : Party
nobody = record { live = false; allot = 0; shares = []; last = []; history = [] }

-- the party after an Add
abbrev pub added : Party → ℕ → ℕ → Party
added p word amount = record p { shares = slice_set p.shares word (share_at word p + amount) }

-- the party after a Sub
abbrev pub taken : Party → ℕ → ℕ → Party
taken p word amount = record p { shares = slice_set p.shares word (share_at word p - amount) }

-- a word's number, with the value that a load found there
abbrev pub entry : ℕ → ℕ → Loaded
entry word value = record { word = word; value = value }

-- the party after a Load that found this value
abbrev pub loaded : Party → ℕ → ℕ → Party
loaded p word value = record p { last = slice_set p.last word value; history = p.history ++ entry word value ∷ [] }

-- the old party after a Split: it has the rest
abbrev pub kept_after_split : Party → ℕ → List ℕ → Party
kept_after_split p allot given = record p { allot = p.allot - allot; shares = minus p.shares given }

-- the new party of a Split: it has what was given, and loaded nothing
abbrev pub split_off : ℕ → List ℕ → Party
split_off allot given = record { live = true; allot = allot; shares = given; last = replicate (length given) 0; history = [] }

-- the party that another was joined into
abbrev pub joined : Party → Party → Party
joined into from = record into { allot = into.allot + from.allot; shares = plus into.shares from.shares; history = into.history ++ from.history }

-- the party that was joined into another: it isn't live and has nothing
abbrev pub spent : Party → Party
spent p = record p { live = false; allot = 0; shares = replicate (length p.shares) 0; history = [] }

-- a Split may give this: no more than there is, and the shares on either side stay within the allotment there
pub record IsPart (words : ℕ) (p : Party) (allot : ℕ) (given : List ℕ) : Type 0 where
  pub long : length given ≡ words
  pub enough : allot ≤ p.allot
  pub had : (k : ℕ) → slice_index given k ≤ share_at k p
  pub fits : (k : ℕ) → slice_index given k ≤ allot
  pub rest : (k : ℕ) → share_at k p - slice_index given k ≤ p.allot - allot
