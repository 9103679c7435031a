use Rattle.std.proofs.Common.{List, ℕ, [], ◌∷◌, ◌++◌, get_or, subst, ap, ◌∙◌}
use Rattle.std.specs.Prelude.{IfOk}
use Rattle.ispd_reader.specs.Readers.{HasReached}
use Rattle.ispd_reader.proofs.Pieces.{bytes_from, solid_first, solid_rest, first_and_rest}
use Rattle.ispd_reader.proofs.progress.Progress.read_solid.Goals as goal

pub returns-in_ok-begin_token : goal.returns-in_ok-begin_token
returns-in_ok-begin_token c text long solid so_far =
    let bytes = c.args.bytes.now in
    let front : List ℕ = text ++ get_or bytes 0 0 ∷ [] in
    let begun = c.in_ok-begin_token.ensures.read text long (solid_first bytes c.requires solid) so_far in
    subst (λ (l : List ℕ). IfOk c.add_to_token.result (λ _. HasReached c.add_to_token.new.self l)) (ap (λ (l : List ℕ). front ++ l) (bytes_from 1 bytes) ∙ first_and_rest text bytes c.requires)
    (c.add_to_token.ensures front (rw (bytes_from 1 bytes) (solid_rest bytes c.requires solid)) begun)

pub returns-else-is_empty : goal.returns-else-is_empty
returns-else-is_empty c text long solid so_far = c.add_to_token-else-is_empty.ensures text solid so_far
