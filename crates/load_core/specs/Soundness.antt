-- Sound cores: each word is the sum of what the parties have of it.
use Rattle.std.specs.Prelude.{◌≡◌, ◌+◌, ◌-◌, ◌≤◌, ℕ, List, length, slice_index, sum_by, All, false}
use Rattle.load_core.specs.declared.party.Party.{Party}
use Rattle.load_core.specs.Parties.{share_at, whole_allotment}

-- the party has no allotment and no shares
pub record HasNothing (p : Party) : Type 0 where
  pub allot : p.allot ≡ 0
  pub shares : (k : ℕ) → share_at k p ≡ 0

-- words and parties are sound: what all have of a word is the word, as in permission accounting (Bornat, Calcagno,
-- O'Hearn, Parkinson 2005), and the allotments make up the whole
pub record IsSound (words : List ℕ) (parties : List Party) : Type 0 where
  pub sums : (k : ℕ) → slice_index words k ≡ sum_by (share_at k) parties
  pub within : All (λ p. (k : ℕ) → share_at k p ≤ p.allot) parties
  pub whole : sum_by (λ (p : Party). p.allot) parties ≡ whole_allotment
  pub idle : All (λ p. p.live ≡ false → HasNothing p) parties

-- the party has one share and one last value per word
pub record HasOnePerWord (words : ℕ) (p : Party) : Type 0 where
  pub shares : length p.shares ≡ words
  pub last : length p.last ≡ words

-- what a load by the party can find: at least its own share, and what the rest of the allotments leaves room for
pub record IsCloseTo (p : Party) (word value : ℕ) : Type 0 where
  pub least : share_at word p ≤ value
  pub most : value ≤ share_at word p + (whole_allotment - p.allot)
