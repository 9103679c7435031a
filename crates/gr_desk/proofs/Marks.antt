-- A call of a desk in memory that was marked and counted, and then changed one port.
use Rattle.std.proofs.Common.{◌≡◌, ◌≤◌, ◌<◌, List, [], ◌++◌, ℕ, refl, ap, sym, ◌∙◌, Ok, Err, Some, None, Bool, true, false, not, ◌||◌, length, take, get_or}
use Rattle.std.specs.Prelude.{IsTrue, IfSome, is_some, if◌then◌else◌, ◌↔◌, slice_get, slice_set, String, string_bytes}
use Rattle.std.specs.declared.option.Option.{Option}
use Rattle.std.specs.declared.alloc.Global.{Global}
use Rattle.std.proofs.lemmas.Option.{slice_get-get_or}
use Rattle.gr_desk.specs.declared.port.Port.{Port}
use Rattle.gr_desk.specs.declared.slot.Slot.{Slot}
use Rattle.gr_desk.specs.declared.state.State.TheVariants.{Refused}
use Rattle.gr_desk.specs.declared.memory.MemDesk.{MemDesk}
use Rattle.gr_desk.specs.declared.fault_counts.FaultCounts.{FaultCounts}
use Rattle.gr_desk.specs.Ports.{number}
use Rattle.gr_desk.specs.Causes.{Rose}
use Rattle.gr_desk.specs.Files.{left_of, file_number}
use Rattle.gr_desk.specs.Slot.{opened_slot, IsCreated}
use Rattle.gr_desk.specs.Memory.{told_of}
use Rattle.gr_desk.specs.Calls.{KeepsOthers, Strays, Opens, Creates, Reads, Writes, IsOrderlyOpen, IsOrderlyCreate, IsOrderlyRead, IsOrderlyWrite}
use Rattle.gr_desk.proofs.Faults.{stood, risen}
use Rattle.gr_desk.proofs.Places.{number-distinct, slice_get-set_same, slice_get-set_other}

-- the flag after a call that was marked
strays-marked : (orderly a : Bool) {P : Type 0} → (IsTrue orderly ↔ P) → Strays P (Some a) (Some (a || not orderly))
strays-marked true true same = record { kept = λ p. refl; stays = λ h. refl; set = λ h. absurd (h (same.0 refl)) }
strays-marked true false same = record { kept = λ p. refl; stays = λ h. h; set = λ h. absurd (h (same.0 refl)) }
strays-marked false true same = record { kept = λ p. refl; stays = λ h. refl; set = λ h. refl }
strays-marked false false same = record { kept = λ p. (let h : false ≡ true = same.1 p in cc); stays = λ h. refl; set = λ h. refl }

-- a call of s at a port, in order or not, began and made t of s; n is the place of the port's slot
pub record Begins (s t : MemDesk) (port : Port) (n : ℕ) (orderly : Bool) : Type 0 where
  pub begun : t ≡ record s { calls = t.calls; strayed = s.strayed || not orderly }
  pub at : n ≡ number port
  pub within : n < length t.slots

pub begins : (s : MemDesk) {t : MemDesk} {port : Port} {n : ℕ} {orderly : Bool}
    → t ≡ record s { calls = t.calls; strayed = s.strayed || not orderly } → n ≡ number port → n < length t.slots → Begins s t port n orderly
begins s begun at within = record { begun = begun; at = at; within = within }

-- such a call then made `new` of the slot, and these are the faults after it
module _ {s t : MemDesk} {port : Port} {n : ℕ} {orderly : Bool} (call : Begins s t port n orderly) (d new : Slot) (faults : FaultCounts) where
  -- the slot that was there
  abbrev slot : Slot
  slot = get_or t.slots n d

  -- the desk after the call
  abbrev done : MemDesk
  done = record t { slots = slice_set t.slots n new; faults = faults }

  files-stay : t.files ≡ s.files
  files-stay = ap (λ (x : MemDesk). x.files) call.begun

  names-stay : t.names ≡ s.names
  names-stay = ap (λ (x : MemDesk). x.names) call.begun

  slots-stay : t.slots ≡ s.slots
  slots-stay = ap (λ (x : MemDesk). x.slots) call.begun

  faults-were : t.faults ≡ s.faults
  faults-were = ap (λ (x : MemDesk). x.faults) call.begun

  slot-was : slice_get s.slots (number port) ≡ Some slot
  slot-was = rw (← slots-stay, ← call.at) (slice_get-get_or t.slots n d call.within)

  slot-now : slice_get (slice_set t.slots n new) (number port) ≡ Some new
  slot-now = rw (← call.at) (slice_get-set_same t.slots n slot new (slice_get-get_or t.slots n d call.within))

  others-kept : KeepsOthers (told_of s) (told_of done) port
  others-kept = record {
    files = rw files-stay refl;
    ports = λ p other.
        let same : slice_get (slice_set t.slots n new) (number p) ≡ slice_get t.slots (number p) = slice_get-set_other t.slots n (number p) new (rw call.at (number-distinct p port other)) in
        rw (same, files-stay, names-stay, slots-stay) refl;
  }

  strays : {P : Type 0} → (IsTrue orderly ↔ P) → Strays P (told_of s).strayed (told_of done).strayed
  strays order = rw (ap (λ (x : MemDesk). x.strayed) call.begun) (strays-marked orderly s.strayed order)

  -- an open that was done, at the file with this number
  pub opens-done : {E : Type 0} {name : List ℕ} (i : ℕ) → (IsTrue orderly ↔ IsOrderlyOpen (told_of s) port name)
      → new ≡ opened_slot slot (Some i) → file_number t.files.items name ≡ Some i → faults ≡ t.faults
      → Opens {T = Unit {0}} {E = E} (told_of s) (told_of done) port name (Ok tt)
  opens-done i order made found same = record {
    ok = rw (slot-now, slot-was, made, files-stay, names-stay, rw files-stay at found) refl;
    err = tt;
    others = others-kept;
    stray = strays order;
    cause = stood (ap (λ (f : FaultCounts). f.in_faults) (same ∙ faults-were));
    still = ap (λ (f : FaultCounts). f.out_faults) (same ∙ faults-were);
  }

  -- an open that failed
  pub opens-refused : {E : Type 0} {name : List ℕ} {e : E} → (IsTrue orderly ↔ IsOrderlyOpen (told_of s) port name)
      → new ≡ record slot { state = Refused } → t.faults.in_faults ≤ faults.in_faults → Rose t.faults.in_faults faults.in_faults → faults.out_faults ≡ t.faults.out_faults
      → Opens {T = Unit {0}} {E = E} (told_of s) (told_of done) port name (Err e)
  opens-refused order made later rose still = record {
    ok = tt;
    err = rw (slot-now, slot-was, made, files-stay, names-stay) refl;
    others = others-kept;
    stray = strays order;
    cause = rw (← faults-were) (risen later rose);
    still = rw (← faults-were) still;
  }

  -- a create that was done, of a copy of the name
  pub creates-done : {E : Type 0} {name : List ℕ} (copy : String Global) → (IsTrue orderly ↔ IsOrderlyCreate (told_of s) port name)
      → IsCreated slot new copy → string_bytes copy ≡ name → faults ≡ t.faults
      → Creates {T = Unit {0}} {E = E} (told_of s) (told_of done) port name (Ok tt)
  creates-done copy order made copied same = record {
    ok = rw (slot-now, slot-was, made.only, made.written, copied, files-stay, names-stay) refl;
    err = tt;
    others = others-kept;
    stray = strays order;
    cause = stood (ap (λ (f : FaultCounts). f.out_faults) (same ∙ faults-were));
    still = ap (λ (f : FaultCounts). f.in_faults) (same ∙ faults-were);
  }

  -- a create that failed
  pub creates-refused : {E : Type 0} {name : List ℕ} {e : E} → (IsTrue orderly ↔ IsOrderlyCreate (told_of s) port name)
      → new ≡ record slot { state = Refused } → t.faults.out_faults ≤ faults.out_faults → Rose t.faults.out_faults faults.out_faults → faults.in_faults ≡ t.faults.in_faults
      → Creates {T = Unit {0}} {E = E} (told_of s) (told_of done) port name (Err e)
  creates-refused order made later rose still = record {
    ok = tt;
    err = rw (slot-now, slot-was, made, files-stay, names-stay) refl;
    others = others-kept;
    stray = strays order;
    cause = rw (← faults-were) (risen later rose);
    still = rw (← faults-were) still;
  }

  -- a read that was done
  pub reads-done : {E : Type 0} {k : ℕ} {buf : List ℕ} → (IsTrue orderly ↔ IsOrderlyRead (told_of s) port)
      → new ≡ record slot { reading = new.reading }
      → left_of t.files.items slot.reading ≡ take k buf ++ left_of t.files.items new.reading → (k ≡ 0 → 0 < length buf → left_of t.files.items new.reading ≡ [])
      → faults ≡ t.faults → Reads {E = E} (told_of s) (told_of done) port (Ok k) buf
  reads-done order only taken end same = record {
    bytes = rw (slot-now, slot-was, ← files-stay) (taken, end);
    only = rw (slot-now, slot-was, only, files-stay, names-stay) refl;
    others = others-kept;
    stray = strays order;
    cause = stood (ap (λ (f : FaultCounts). f.in_faults) (same ∙ faults-were));
    still = ap (λ (f : FaultCounts). f.out_faults) (same ∙ faults-were);
  }

  -- a write that was done
  pub writes-done : {E : Type 0} {n : ℕ} {bytes : List ℕ} → (IsTrue orderly ↔ IsOrderlyWrite (told_of s) port)
      → new ≡ record slot { written = new.written } → new.written.items ≡ slot.written.items ++ take n bytes → faults ≡ t.faults
      → Writes {E = E} (told_of s) (told_of done) port (Ok n) bytes
  writes-done order only added same = record {
    appended = rw (slot-now, slot-was) added;
    only = rw (slot-now, slot-was, only, files-stay, names-stay) refl;
    others = others-kept;
    stray = strays order;
    cause = stood (ap (λ (f : FaultCounts). f.out_faults) (same ∙ faults-were));
    still = ap (λ (f : FaultCounts). f.in_faults) (same ∙ faults-were);
  }

  -- a write that found no memory
  pub writes-starved : {E : Type 0} {e : E} {bytes : List ℕ} → (IsTrue orderly ↔ IsOrderlyWrite (told_of s) port)
      → new ≡ record slot { written = new.written } → new.written.items ≡ slot.written.items
      → t.faults.out_faults ≤ faults.out_faults → Rose t.faults.out_faults faults.out_faults → faults.in_faults ≡ t.faults.in_faults
      → Writes {E = E} (told_of s) (told_of done) port (Err e) bytes
  writes-starved order only kept later rose still = record {
    appended = rw (slot-now, slot-was) kept;
    only = rw (slot-now, slot-was, only, files-stay, names-stay) refl;
    others = others-kept;
    stray = strays order;
    cause = rw (← faults-were) (risen later rose);
    still = rw (← faults-were) still;
  }

-- a file that was found: the call was not listed, and the name has it
pub found-at : (listed : Bool) (file found : Option ℕ) → file ≡ (if listed then None else found) → is_some file ≡ true → (i : ℕ) × (file ≡ Some i) × (found ≡ Some i)
found-at listed None found is there = (let h : false ≡ true = there in cc)
found-at true (Some i) found is there = cc
found-at false (Some i) found is there = (i, refl, sym is)

-- what is not there
pub none-found : {A : Type 0} (o : Option A) → is_some o ≡ false → o ≡ None
none-found None there = refl
none-found (Some x) there = (let h : true ≡ false = there in cc)

-- a copy that was made
pub copy-made : (copy : Option (String Global)) (slot new : Slot) (name : List ℕ) → is_some copy ≡ true → IfSome copy (λ c. IsCreated slot new c) → IfSome copy (λ c. string_bytes c ≡ name)
    → (c : String Global) × IsCreated slot new c × (string_bytes c ≡ name)
copy-made None slot new name there made same = (let h : false ≡ true = there in cc)
copy-made (Some c) slot new name there made same = (c, made, same)
