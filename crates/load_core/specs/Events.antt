-- The five events of a core: where each is lawful, and what it does.
use Rattle.std.specs.Prelude.{◌≡◌, ◌≢◌, ◌+◌, ◌-◌, ◌^◌, ◌≤◌, ◌<◌, ℕ, List, [], ◌∷◌, ◌++◌, length, replicate, slice_index, slice_index_or, slice_set, All, true, ⊤}
use Rattle.load_core.specs.declared.core_state.Core.{Core}
use Rattle.load_core.specs.declared.event.Event.{Event}
use Rattle.load_core.specs.declared.event.Event.TheVariants.{Add, Sub, Load, Split, Join}
use Rattle.load_core.specs.declared.party.Party.{Party}
use Rattle.load_core.specs.Parties.{share_at, first_party, nobody, added, taken, loaded, kept_after_split, split_off, joined, spent, IsPart}
use Rattle.load_core.specs.Soundness.{IsSound, HasOnePerWord}

-- the most parties that a core has
abbrev pub most_parties : ℕ
most_parties = 2 ^ 32 - 1

-- a core that events are made on: sound, with one share and one last value per word, and no more parties than that
pub record IsFit (core : Core) : Type 0 where
  pub sound : IsSound core.words core.parties
  pub wide : All (HasOnePerWord (length core.words)) core.parties
  pub few : length core.parties ≤ most_parties

-- the core at the start: all words 0, and one party
abbrev pub new_core : ℕ → Core
new_core words = record { words = replicate words 0; parties = first_party words ∷ [] }

-- the party with this number, `nobody` where there is none
abbrev pub party_at : Core → ℕ → Party
party_at core i = slice_index_or core.parties i nobody

-- the party is live and the word exists
pub record MayLoad (words : ℕ) (p : Party) (word : ℕ) : Type 0 where
  pub live : p.live ≡ true
  pub exists : word < words

-- there is room for the amount in the party's allotment
pub record MayAdd (words : ℕ) (p : Party) (word amount : ℕ) : Type 0 where
  pub live : p.live ≡ true
  pub exists : word < words
  pub room : share_at word p + amount ≤ p.allot

-- the party has the amount
pub record MaySub (words : ℕ) (p : Party) (word amount : ℕ) : Type 0 where
  pub live : p.live ≡ true
  pub exists : word < words
  pub had : amount ≤ share_at word p

-- there is room for one more party, and what is given is a part of this one
pub record MaySplit (words parties : ℕ) (p : Party) (allot : ℕ) (given : List ℕ) : Type 0 where
  pub live : p.live ≡ true
  pub few : parties < most_parties
  pub part : IsPart words p allot given

-- both are live, and they are two
pub record MayJoin (core : Core) (into from : ℕ) : Type 0 where
  pub two : into ≢ from
  pub into_live : (party_at core into).live ≡ true
  pub from_live : (party_at core from).live ≡ true

-- the event is lawful
abbrev pub IsLawful : Core → Event → Type 0
IsLawful core (Add party word amount) = MayAdd (length core.words) (party_at core party) word amount
IsLawful core (Sub party word amount) = MaySub (length core.words) (party_at core party) word amount
IsLawful core (Load party word) = MayLoad (length core.words) (party_at core party) word
IsLawful core (Split party allot given) = MaySplit (length core.words) (length core.parties) (party_at core party) allot given
IsLawful core (Join into from) = MayJoin core into from

-- the event may find no memory: a history or the list of parties grows
abbrev pub WantsMemory : Event → Type 0
WantsMemory (Add party word amount) = ⊥
WantsMemory (Sub party word amount) = ⊥
WantsMemory (Load party word) = ⊤
WantsMemory (Split party allot given) = ⊤
WantsMemory (Join into from) = ⊤

-- the core after a lawful event
abbrev pub after : Core → Event → Core
after core (Add party word amount) = record {
  words = slice_set core.words word (slice_index core.words word + amount);
  parties = slice_set core.parties party (added (party_at core party) word amount);
}
after core (Sub party word amount) = record {
  words = slice_set core.words word (slice_index core.words word - amount);
  parties = slice_set core.parties party (taken (party_at core party) word amount);
}
after core (Load party word) = record core {
  parties = slice_set core.parties party (loaded (party_at core party) word (slice_index core.words word));
}
after core (Split party allot given) = record core {
  parties = slice_set core.parties party (kept_after_split (party_at core party) allot given) ++ split_off allot given ∷ [];
}
after core (Join into from) = record core {
  parties = slice_set (slice_set core.parties into (joined (party_at core into) (party_at core from))) from (spent (party_at core from));
}
