-- A desk in memory: what it tells, and which of its calls fail.
use Rattle.std.specs.Prelude.{◌≡◌, ◌==◌, ◌&&◌, ◌+◌, ◌*◌, ◌^◌, ◌-◌, not, if◌then◌else◌, min, ℕ, List, [], Bool, Some, None, find, slice_get, slice_index, slice_set, string_bytes, option_map, String, Vec, replicate, false, unwrap_or}
use Rattle.std.specs.List.{list_any}
use Rattle.std.specs.declared.option.Option.{Option}
use Rattle.std.specs.declared.alloc.Global.{Global}
use Rattle.gr_desk.specs.declared.port.Port.{Port}
use Rattle.gr_desk.specs.declared.fail.CallKind.{CallKind}
use Rattle.gr_desk.specs.declared.fail.Fail.{Fail}
use Rattle.gr_desk.specs.declared.state.State.TheVariants.{Fresh}
use Rattle.gr_desk.specs.declared.memory.MemDesk.{MemDesk}
use Rattle.gr_desk.specs.Ports.{number, call_number}
use Rattle.gr_desk.specs.Files.{File, bytes_under}
use Rattle.gr_desk.specs.Slot.{port_told}
use Rattle.gr_desk.specs.Told.{Told, PortTold}

-- the name in the first pair for this port
abbrev pub expected_of : List (Port × String Global) → Port → Option (List ℕ)
expected_of names port = option_map (λ n. string_bytes n.1) (find (λ n. number n.0 == number port) names)

-- all that the desk tells
abbrev pub told_of : MemDesk → Told
told_of s = record {
  files = bytes_under s.files.items;
  ports = λ p. port_told s.files.items (expected_of s.names.items p) (slice_get s.slots (number p));
  strayed = Some s.strayed;
  in_faults = s.faults.in_faults;
  out_faults = s.faults.out_faults;
}

-- the bytes that are left to be read at a port
abbrev pub left_at : MemDesk → Port → List ℕ
left_at s port = unwrap_or ((told_of s).ports port).rest []

-- a port at which nothing was done
abbrev pub untouched : Option (List ℕ) → PortTold
untouched expected = record {
  rest = Some [];
  written = Some [];
  target = Some None;
  expected = Some expected;
  state = Some Fresh;
}

-- a desk at which nothing was done, over these files, of which these calls are to fail, which expects these names, and
-- whose reads and writes move at most so many bytes
pub record IsNewDesk (s : MemDesk) (over : List File) (listed : Vec Fail Global) (expecting : List (Port × String Global)) (most : ℕ) : Type 0 where
  pub files : (told_of s).files ≡ bytes_under over
  pub ports : (p : Port) → (told_of s).ports p ≡ untouched (expected_of expecting p)
  pub strayed : (told_of s).strayed ≡ Some false
  pub in_faults : (told_of s).in_faults ≡ 0
  pub out_faults : (told_of s).out_faults ≡ 0
  pub failing : s.failing ≡ listed
  pub calls : s.calls ≡ replicate 40 0
  pub starved : s.starved ≡ 0
  pub step : s.step ≡ most

-- where calls of one kind at one port are counted
abbrev pub call_place : Port → CallKind → ℕ
call_place port kind = number port * 4 + call_number kind

-- how many calls of this kind there were at this port
abbrev pub calls_of : MemDesk → Port → CallKind → ℕ
calls_of s port kind = slice_index s.calls (call_place port kind)

-- a call that is to fail is the nth of this kind at this port
abbrev pub is_nth : Port → CallKind → ℕ → Fail → Bool
is_nth port kind n f = (number f.port == number port) && (call_number f.call == call_number kind) && (f.nth == n)

-- the next call of this kind at this port is listed as failing
abbrev pub is_listed : MemDesk → Port → CallKind → Bool
is_listed s port kind = list_any (is_nth port kind (calls_of s port kind)) s.failing.items

-- the call is counted, up to 2 ^ 32, and the list of failing calls and the step stay
pub record Counts (before after : MemDesk) (port : Port) (kind : CallKind) : Type 0 where
  pub calls : after.calls ≡ slice_set before.calls (call_place port kind) (min (calls_of before port kind + 1) (2 ^ 32))
  pub failing : after.failing ≡ before.failing
  pub step : after.step ≡ before.step

-- the count of want of memory after one more call that failed or not; one that is listed wants none
abbrev pub starved_after : MemDesk → Port → CallKind → Bool → ℕ
starved_after s port kind failed =
    if failed && not (is_listed s port kind) then min (s.starved + 1) (2 ^ 64 - 1) else s.starved
