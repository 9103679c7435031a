-- What a pen is, and what it means to put bytes with it.
use Rattle.std.specs.Prelude.{◌≡◌, ℕ, Bool, true, false, List, ◌++◌, take, Result, OnOk, OnErr}
use Rattle.gr_desk.specs.declared.port.Port.{Port}
use Rattle.gr_desk.specs.Told.{Told}
use Rattle.gr_desk.specs.Runs.{Adds}
use Rattle.gr_desk.specs.Causes.{Rose}
use Rattle.gr_desk.specs.declared.pen.Pen.{Pen}

-- a pen at one moment: its port, what its desk tells, the bytes held back, and whether a write failed
pub record PenTold : Type 0 where
  pub port : Port
  pub told : Told
  pub held : List ℕ
  pub failed : Bool

-- since the desk told `start` these bytes went to the pen's port, and nothing else changed
abbrev pub Went : Told → PenTold → List ℕ → Type 0
Went start pen bytes = Adds start pen.told pen.port bytes

-- all of a text went to the port but for the bytes held back, and no write failed
abbrev pub IsHeldBack : Told → PenTold → List ℕ → Type 0
IsHeldBack start pen text =
    (out : List ℕ) × Went start pen out × (text ≡ out ++ pen.held) × (pen.told.out_faults ≡ start.out_faults)

-- a write failed, and some part from the front of a text went to the port
abbrev pub IsPartlyPut : Told → PenTold → List ℕ → Type 0
IsPartlyPut start pen text =
    (out rest : List ℕ) × Went start pen out × (text ≡ out ++ rest) × Rose start.out_faults pen.told.out_faults

-- where a text stands that was put with the pen since the desk told `start`
abbrev pub IsPut : Told → PenTold → List ℕ → Type 0
IsPut start pen text = (pen.failed ≡ false → IsHeldBack start pen text) × (pen.failed ≡ true → IsPartlyPut start pen text)

-- whatever text was put with the pen before, it is followed by these bytes
pub record Puts (before after : PenTold) (bytes : List ℕ) : Type 0 where
  pub port : after.port ≡ before.port
  pub follows : (start : Told) (text : List ℕ) → IsPut start before text → IsPut start after (text ++ bytes)

-- a pen over a desk that tells this
abbrev pub pen_told : {D : Type 0} → (D → Told) → Pen D → PenTold
pen_told told pen = record { port = pen.port; told = told pen.desk.now; held = pen.held; failed = pen.failed }

-- the same desk under the pen as before
abbrev pub HasSameDesk : {D : Type 0} → Pen D → Pen D → Type 0
HasSameDesk before after = after.desk.ghost_name ≡ before.desk.ghost_name

-- a text ended: all of it went to the port since the desk told `start`, and no write failed; or a write failed, and some part from its front did
pub record Ends {T E : Type 0} (start now : Told) (port : Port) (text : List ℕ) (result : Result T E) : Type 0 where
  pub all : OnOk result (Adds start now port text)
  pub part : OnErr result ((n : ℕ) × Adds start now port (take n text))
  pub cause : OnErr result (Rose start.out_faults now.out_faults)
  pub quiet : OnOk result (now.out_faults ≡ start.out_faults)
