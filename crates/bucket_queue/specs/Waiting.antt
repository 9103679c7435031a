-- What waits in a queue.
use Rattle.std.specs.Prelude.{ℕ, List, [], ◌∷◌, ◌≡◌, ◌<◌, ◌≤◌, ◌+◌, ◌-◌, ◌/◌, ◌==◌, cond, length, slice_index, Some, slice_get, min, nat_lt}
use Rattle.bucket_queue.specs.declared.queue.Entry.{Entry}
use Rattle.bucket_queue.specs.declared.queue.BucketQueue.{BucketQueue}

-- the bucket of a key: the key itself where it is small, then one for 32 keys, and the last one for all that are greater
abbrev pub bucket_for : ℕ → ℕ
bucket_for key = cond (nat_lt key 16384) key (min ((key - 16384) / 32 + 16384) 32767)

-- from the entry at a place on, each over the one below it, the entries of a bucket have these items
abbrev pub IsStack : {T : Type 0} → List (Entry T) → ℕ → ℕ → List T → Type 0
IsStack entries bucket top [] = top ≡ 4294967295
IsStack {T} entries bucket top (x ∷ xs) =
    (e : Entry T) × (slice_get entries top ≡ Some e) × (e.item ≡ x) × (e.bucket ≡ bucket) × IsStack entries bucket e.below xs

-- these items wait in the buckets, in each the last one first
pub record Holds {T : Type 0} (queue : BucketQueue T) (waiting : ℕ → List T) : Type 0 where
  pub tops : length queue.tops.items ≡ 32768
  pub few : length queue.entries.items ≤ 4294967295
  pub within : queue.end ≤ 32768
  pub stacks : (b : ℕ) → b < 32768 → IsStack queue.entries.items b (slice_index queue.tops.items b) (waiting b)
  pub before : (b : ℕ) → b < queue.low → waiting b ≡ []
  pub behind : (b : ℕ) → queue.end ≤ b → waiting b ≡ []

-- as many buckets as before, and those that were empty are
pub record KeepsEmpty (old new : List ℕ) : Type 0 where
  pub long : length new ≡ length old
  pub empty : (b : ℕ) → slice_index old b ≡ 4294967295 → slice_index new b ≡ 4294967295

-- the buckets of the first entries, as many as this, are empty
abbrev pub AreEmptied : {T : Type 0} → List (Entry T) → ℕ → List ℕ → Type 0
AreEmptied {T} entries count tops =
    (k : ℕ) (e : Entry T) → k < count → slice_get entries k ≡ Some e → e.bucket < length tops → slice_index tops e.bucket ≡ 4294967295

-- the same items, but for these in one bucket
abbrev pub with_bucket : {T : Type 0} → (ℕ → List T) → ℕ → List T → ℕ → List T
with_bucket waiting bucket items b = cond (b == bucket) items (waiting b)

-- the item was the last one of the first bucket with any, and now all others wait
pub record TakesFirst {T : Type 0} (waiting : ℕ → List T) (item : T) (new : BucketQueue T) : Type 0 where
  pub bucket : ℕ
  pub rest : List T
  pub first : waiting bucket ≡ item ∷ rest
  pub before : (b : ℕ) → b < bucket → waiting b ≡ []
  pub left : Holds new (with_bucket waiting bucket rest)
