use Rattle.std.proofs.Common.{List, ℕ, subst}
use Rattle.gr_desk.specs.Pens.{Puts, pen_told}
use Rattle.gr_desk.proofs.Pens.{puts-then}
use Rattle.ispd_reader.specs.Faults.{input_fault_number, fields_of}
use Rattle.command_runs.proofs.Fields.{fields-then}
use Rattle.command_runs.proofs.lines.put_numbers.Goals as goal

pub returns-in-Input-clause-puts : goal.returns-in-Input-clause-puts
returns-in-Input-clause-puts g c =
    let told = g.D.Desk.told in
    let number = rw (c.from.ensures, c.number.ensures) at c.put_fields.ensures.puts in
    let names = rw (c.as_slice.ensures, c.fields.ensures) at c.put_fields-in-Input.ensures.puts in
    let IsPut : List ℕ → Type 0 = Puts (pen_told told c.args.pen.now) (pen_told told c.put_fields-in-Input.new.pen) in
    rw c.in-Input.is (subst IsPut (fields-then (input_fault_number c.in-Input.fault) (fields_of c.in-Input.fault)) (puts-then number names))
