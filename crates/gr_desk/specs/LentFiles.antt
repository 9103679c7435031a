-- What open files end as, where a `&mut` to the place of one is returned.
use Rattle.std.specs.declared.option.Option.{Option}
use Rattle.std.specs.contracts.option.Option.{the_row as option_row}
use Rattle.std.specs.Borrow.{Lends, MutBor, Fml, RattleType}
use Rattle.gr_desk.specs.declared.port.Port.{Port}
use Rattle.gr_desk.specs.declared.open_files.OpenFiles.{OpenFiles}
use Rattle.gr_desk.specs.contracts.open_files.OpenFiles.{the_row}
use Rattle.gr_desk.specs.OpenFiles.{with_file}

-- the port's file ends as the last one at its place
abbrev pub LendsPlace : (F : RattleType) → MutBor (OpenFiles F.Denot) → Port → MutBor (Option F.Denot) → Fml
LendsPlace F files port place = Lends (the_row F) (option_row F) files place (with_file files.now port)
