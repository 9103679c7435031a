-- What some calls after one another do to what a desk tells: reads at one port, writes at one port.
use Rattle.std.specs.Prelude.{◌≡◌, ◌<◌, ◌≤◌, ℕ, List, length, take, Bool, true, Some}
use Rattle.std.specs.declared.option.Option.{Option}
use Rattle.std.specs.Io.KnownBytes.{Consumes, Appends}
use Rattle.gr_desk.specs.declared.port.Port.{Port}
use Rattle.gr_desk.specs.Told.{Told}
use Rattle.gr_desk.specs.Calls.{KeepsOthers, IsOrderlyRead, IsOrderlyWrite}

-- the flag stays where all calls are in order, and never falls
pub record MayStray (Orderly : Type 0) (before after : Option Bool) : Type 0 where
  pub kept : Orderly → after ≡ before
  pub stays : before ≡ Some true → after ≡ Some true

-- reads at one port took these bytes, and changed nothing else but the count of their faults
pub record Takes (before after : Told) (port : Port) (bytes : List ℕ) : Type 0 where
  pub taken : Consumes (before.ports port).rest (after.ports port).rest bytes
  pub only : after.ports port ≡ record (before.ports port) { rest = (after.ports port).rest }
  pub others : KeepsOthers before after port
  pub stray : MayStray (IsOrderlyRead before port) before.strayed after.strayed
  pub later : before.in_faults ≤ after.in_faults
  pub still : after.out_faults ≡ before.out_faults

-- reads at one port took that many bytes
abbrev pub TakesCount : Told → Told → Port → ℕ → Type 0
TakesCount before after port count = (bytes : List ℕ) × Takes before after port bytes × (length bytes ≡ count)

-- reads at one port took some bytes, at most `most`
abbrev pub TakesSome : Told → Told → Port → ℕ → Type 0
TakesSome before after port most = (bytes : List ℕ) × Takes before after port bytes × (length bytes ≤ most)

-- writes at one port added these bytes, and changed nothing else but the count of their faults
pub record Adds (before after : Told) (port : Port) (bytes : List ℕ) : Type 0 where
  pub added : Appends (before.ports port).written (after.ports port).written bytes
  pub only : after.ports port ≡ record (before.ports port) { written = (after.ports port).written }
  pub others : KeepsOthers before after port
  pub stray : MayStray (IsOrderlyWrite before port) before.strayed after.strayed
  pub later : before.out_faults ≤ after.out_faults
  pub still : after.in_faults ≡ before.in_faults

-- writes at one port added some part from the front of these bytes, and not all of them
abbrev pub AddsPart : Told → Told → Port → List ℕ → Type 0
AddsPart before after port bytes = (n : ℕ) × (n < length bytes) × Adds before after port (take n bytes)
