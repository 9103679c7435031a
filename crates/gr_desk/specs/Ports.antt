-- Which ports are read and which are written, and the places of ports and calls.
use Rattle.std.specs.Prelude.{ℕ, Bool, true, false}
use Rattle.gr_desk.specs.declared.port.Port.{Port}
use Rattle.gr_desk.specs.declared.port.Port.TheVariants.{In, RoutesIn, CertIn, EditsIn, RoutesOut, CertOut, DesignOut, GuideOut, MapOut, Report}
use Rattle.gr_desk.specs.declared.fail.CallKind.{CallKind}
use Rattle.gr_desk.specs.declared.fail.CallKind.TheVariants.{Open, Create, Read, Write}

-- a port that is read
abbrev pub is_input : Port → Bool
is_input In = true
is_input RoutesIn = true
is_input CertIn = true
is_input EditsIn = true
is_input RoutesOut = false
is_input CertOut = false
is_input DesignOut = false
is_input GuideOut = false
is_input MapOut = false
is_input Report = false

-- a port at which a file is written
abbrev pub is_output : Port → Bool
is_output In = false
is_output RoutesIn = false
is_output CertIn = false
is_output EditsIn = false
is_output RoutesOut = true
is_output CertOut = true
is_output DesignOut = true
is_output GuideOut = true
is_output MapOut = true
is_output Report = false

-- the place of a port among the ten
abbrev pub number : Port → ℕ
number In = 0
number RoutesIn = 1
number CertIn = 2
number EditsIn = 3
number RoutesOut = 4
number CertOut = 5
number DesignOut = 6
number GuideOut = 7
number MapOut = 8
number Report = 9

-- the place of a call among the four
abbrev pub call_number : CallKind → ℕ
call_number Open = 0
call_number Create = 1
call_number Read = 2
call_number Write = 3
