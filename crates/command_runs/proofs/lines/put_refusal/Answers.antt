use Rattle.std.proofs.Common.{List, ℕ, [], ◌∷◌, ◌++◌, subst, ap, ◌∙◌, codes, append_assoc}
use Rattle.gr_desk.specs.Pens.{Puts, pen_told}
use Rattle.gr_desk.proofs.Pens.{puts-then}
use Rattle.command_runs.specs.Lines.{fields, status_of, numbers_of, ending_of}
use Rattle.command_runs.proofs.Fields.{fields-then}
use Rattle.command_runs.proofs.lines.put_refusal.Goals as goal

pub returns-clause-puts : goal.returns-clause-puts
returns-clause-puts g c =
    let told = g.D.Desk.told in
    let r = c.args.refusal in
    let status = rw (c.from.ensures, c.status.ensures) at c.put_fields.ensures.puts in
    let IsPut : List ℕ → Type 0 = λ numbers. Puts (pen_told told c.args.pen.now) (pen_told told c.put_ending.new.pen) (numbers ++ ending_of r) in
    let front = append_assoc (codes "refused") (fields (status_of r ∷ [])) (fields (numbers_of r)) ∙ ap (λ (numbers : List ℕ). codes "refused" ++ numbers) (fields-then (status_of r) (numbers_of r)) in
    subst IsPut front (puts-then (puts-then (puts-then c.put.ensures.puts status) c.put_numbers.ensures.puts) c.put_ending.ensures.puts)
