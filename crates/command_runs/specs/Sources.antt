-- The files that a command reads, and those that it makes.
use Rattle.std.specs.Prelude.{◌≡◌, ℕ, List, [], ◌∷◌, map, Option, Some}
use Rattle.gr_desk.specs.declared.port.Port.{Port}
use Rattle.gr_desk.specs.declared.port.Port.TheVariants.{In}
use Rattle.gr_desk.specs.Calls.{IsOrderlyOpen, IsOrderlyCreate}
use Rattle.gr_desk.specs.Told.{Told}

-- a file that is read, or one that is made: at which port, and under which name
pub record Source : Type 0 where
  pub port : Port
  pub name : List ℕ

-- the ports of files
abbrev pub ports_of : List Source → List Port
ports_of sources = map (λ s. s.port) sources

-- what is said of the bytes under the name, where these bytes are told
abbrev pub IfTold : (List ℕ → Option (List ℕ)) → List ℕ → (List ℕ → Type 0) → Type 0
IfTold files name IsSo = (bytes : List ℕ) → files name ≡ Some bytes → IsSo bytes

-- there are bytes of which this is said: those under the name, where the desk tells these
pub record HasBytes (files : List ℕ → Option (List ℕ)) (name : List ℕ) (IsSo : List ℕ → Type 0) : Type 0 where
  pub bytes : List ℕ
  pub is_so : IsSo bytes
  pub are_told : IfTold files name (λ told. bytes ≡ told)

-- what `route` reads: the design
abbrev pub design_source : List ℕ → List Source
design_source name = record { port = In; name = name } ∷ []

-- the desk expects to have each of them opened
abbrev pub AreOrderlyOpens : Told → List Source → Type 0
AreOrderlyOpens told [] = Unit {0}
AreOrderlyOpens told (s ∷ later) = IsOrderlyOpen told s.port s.name × AreOrderlyOpens told later

-- or created
abbrev pub AreOrderlyCreates : Told → List Source → Type 0
AreOrderlyCreates told [] = Unit {0}
AreOrderlyCreates told (f ∷ later) = IsOrderlyCreate told f.port f.name × AreOrderlyCreates told later
