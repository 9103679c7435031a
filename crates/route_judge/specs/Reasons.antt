-- The number of a reason.
use Rattle.std.specs.Prelude.{ℕ}
use Rattle.route_judge.specs.declared.reason.Reason.{Reason}
use Rattle.route_judge.specs.declared.reason.Reason.TheVariants.{UnknownNet, RepeatedNet, MissingNet, PointOutside, Slanted, OnWall, NotJoined, WrongOverflow, WrongWirelength, WrongPeak, WrongCount, BoundTooHigh}

-- its number
abbrev pub reason_number : Reason → ℕ
reason_number (UnknownNet block) = 41
reason_number (RepeatedNet id) = 42
reason_number (MissingNet id) = 43
reason_number (PointOutside block segment) = 44
reason_number (Slanted block segment) = 45
reason_number (OnWall block segment) = 46
reason_number (NotJoined id) = 47
reason_number (WrongOverflow stated found) = 48
reason_number (WrongWirelength stated found) = 49
reason_number (WrongPeak stated found) = 50
reason_number (WrongCount what stated found) = 51
reason_number (BoundTooHigh stated found) = 52
