use Rattle.std.proofs.Common.{List, ℕ, [], ◌∷◌, sym, ◌∙◌, ap, subst}
use Rattle.std.specs.Prelude.{slice_index}
use Rattle.gr_desk.specs.Pens.{Puts, pen_told}
use Rattle.gr_desk.proofs.Pens.{puts-then}
use Rattle.command_runs.specs.Lines.{fields}
use Rattle.command_runs.specs.TextFaults.{text_fault_fields}
use Rattle.command_runs.proofs.Fields.{fields-then, with-place, without-place}
use Rattle.command_runs.proofs.lines.put_text_fault.Goals as goal

pub returns-in-Some-clause-puts : goal.returns-in-Some-clause-puts
returns-in-Some-clause-puts g c =
    let told = g.D.Desk.told in
    let fault = c.args.fault in
    let number = rw (c.from.ensures, c.number.ensures) at c.put_fields.ensures.puts in
    let IsPut : List ℕ → Type 0 = Puts (pen_told told c.args.pen.now) (pen_told told c.put_fields-in-Some.new.pen) in
    subst IsPut (fields-then (slice_index (text_fault_fields fault) 0) (c.in-Some.at ∷ []) ∙ ap fields
    (with-place fault c.in-Some.at (sym c.place.ensures ∙ c.in-Some.is)))
    (puts-then number c.put_fields-in-Some.ensures.puts)

pub returns-in-None-clause-puts : goal.returns-in-None-clause-puts
returns-in-None-clause-puts g c =
    let told = g.D.Desk.told in
    let fault = c.args.fault in
    let number = rw (c.from.ensures, c.number.ensures) at c.put_fields.ensures.puts in
    subst (Puts (pen_told told c.args.pen.now) (pen_told told c.put_fields.new.pen))
    (ap fields (without-place fault (sym c.place.ensures ∙ c.in-None.is))) number
