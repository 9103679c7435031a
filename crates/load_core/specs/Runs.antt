-- Runs of events.
use Rattle.std.specs.Prelude.{ℕ, ◌≡◌, ◌≤◌, List, [], ◌∷◌, ⊤, length, take, fold, slice_get, Some}
use Rattle.load_core.specs.declared.core_state.Core.{Core}
use Rattle.load_core.specs.declared.event.Event.{Event}
use Rattle.load_core.specs.Events.{IsLawful, after}

-- the events are lawful one after another
abbrev pub AreLawful : Core → List Event → Type 0
AreLawful core [] = ⊤
AreLawful core (event ∷ events) = IsLawful core event × AreLawful (after core event) events

-- the core after these events, one after another
abbrev pub after_all : Core → List Event → Core
after_all core events = fold after core events

-- the first n events are lawful one after another, and the core is the one after them
pub record IsAfter (old : Core) (events : List Event) (n : ℕ) (new : Core) : Type 0 where
  pub long : n ≤ length events
  pub lawful : AreLawful old (take n events)
  pub core : new ≡ after_all old (take n events)

-- the next event, if there is one, isn't lawful
abbrev pub IsStopped : Core → List Event → ℕ → Type 0
IsStopped core events n = (event : Event) → slice_get events n ≡ Some event → IsLawful core event → ⊥
