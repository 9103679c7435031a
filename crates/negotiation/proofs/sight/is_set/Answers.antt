use Rattle.std.proofs.Common.{Some, Decides, ap, sym, ◌∙◌, ◌≡◌}
use Rattle.std.proofs.lemmas.Option.{same_Some}
use Rattle.std.proofs.lemmas.Slice.Eq.{slice_eq-Decides}
use Rattle.negotiation.proofs.SamePieces.{piece_decides}
use Rattle.negotiation.proofs.sight.is_set.Goals as goal

pub returns-in-Some : goal.returns-in-Some
returns-in-Some c =
    let decides : Decides c.eq.result (c.in-Some.new ≡ c.args.tree.now) =
    rw (c.pieces.ensures.listed, c.pieces-in-Some.ensures.listed) at
    (slice_eq-Decides piece_decides c.pieces.result.now c.pieces-in-Some.result.now c.eq.result c.eq.ensures) in
    (λ yes. c.in-Some.is ∙ ap Some (decides.0 yes), λ is. decides.1 (same_Some c.in-Some.new c.args.tree.now (sym c.in-Some.is ∙ is)))
