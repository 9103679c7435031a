use Rattle.std.proofs.Common.{List, ℕ, [], ◌∷◌, ◌++◌, subst, sym, ap, ◌∙◌, codes, append_assoc}
use Rattle.std.proofs.lemmas.Grind.{flat_map-append}
use Rattle.std.specs.Prelude.{decimal}
use Rattle.gr_desk.specs.Pens.{Puts, pen_told}
use Rattle.gr_desk.proofs.Pens.{puts-then}
use Rattle.command_runs.specs.Lines.{fields}
use Rattle.eco_cli.specs.EcoLines.{in_list, refused_edit_status}
use Rattle.eco_route.specs.EditFaults.{edit_fault_field, edit_fault_number}
use Rattle.eco_cli.proofs.refused_edit.RefusedEditSaid.put.Goals as goal

pub returns-clause-puts : goal.returns-clause-puts
returns-clause-puts g c =
    let told = g.D.Desk.told in
    let refused = c.args.self.now in
    let numbers : List ℕ = refused_edit_status ∷ edit_fault_number refused.fault ∷ refused.index ∷ [] in
    let named : List ℕ = in_list (edit_fault_field refused.fault) in
    let first = rw (c.from.ensures, c.from-2.ensures, c.number.ensures) at c.put_fields.ensures.puts in
    let second = rw c.field.ensures at c.put_named.ensures.puts in
    let IsPut : List ℕ → Type 0 = λ front. Puts (pen_told told c.args.pen.now) (pen_told told c.put-2.new.self) (front ++ codes "\n") in
    let front = append_assoc (codes "refused") (fields numbers) (fields named) ∙ ap (λ (ns : List ℕ). codes "refused" ++ ns) (sym (flat_map-append (λ n. codes " " ++ decimal n) numbers named)) in
    subst IsPut front (puts-then (puts-then (puts-then c.put.ensures.puts first) second) c.put-2.ensures.puts)
