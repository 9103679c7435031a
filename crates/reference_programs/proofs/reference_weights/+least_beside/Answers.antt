use Rattle.std.proofs.Common.{◌≡◌, ℕ, ◌+◌, List, ◌∷◌, ◌++◌, [], get_or, min, sym, ◌∙◌, ap, subst, All, arith}
use Rattle.std.proofs.lemmas.List.Elements.{All-push}
use Rattle.grid_base.specs.declared.piece.Piece.{Piece}
use Rattle.grid_base.specs.declared.piece.Piece.TheVariants.{Edge}
use Rattle.grid_base.specs.Numbers.{IsPiece}
use Rattle.grid_base.specs.Walks.{InVertices}
use Rattle.reference_programs.specs.LeastSets.{apart, IsLeastBeside}
use Rattle.reference_programs.proofs.LeastSets.{least_joined, least_apart, least_of_two, none_left, behind_first, first_and_rest}
use Rattle.reference_programs.proofs.LeastSets.{first_in, behind_in, behind_shorter}
use Rattle.reference_programs.proofs.reference_weights.+least_beside.Goals as goal

-- the chosen pieces with one more
more : (chosen : List Piece) (p : Piece) (copied pushed lent : List Piece) → copied ≡ chosen → pushed ≡ copied ++ p ∷ []
    → lent ≡ pushed → lent ≡ chosen ++ p ∷ []
more chosen p copied pushed lent same push is = is ∙ push ∙ ap (λ (ps : List Piece). ps ++ p ∷ []) same

pub returns-then-joined : goal.returns-then-joined
returns-then-joined t c =
    let s = c.args.size in
    let chosen = c.args.chosen.now in
    let T = InVertices c.args.terminals.now in
    subst (λ (ps : List (Piece × ℕ)). IsLeastBeside s chosen ps T 0) (sym (none_left c.args.pieces.now c.if-is_empty.ensures))
    (least_joined s chosen T (c.in_ok-joined.ensures.0 c.if-joined.true))

pub returns-else-joined : goal.returns-else-joined
returns-else-joined t c =
    let s = c.args.size in
    let chosen = c.args.chosen.now in
    let T = InVertices c.args.terminals.now in
    subst (λ (ps : List (Piece × ℕ)). IsLeastBeside s chosen ps T apart)
    (sym (none_left c.args.pieces.now c.if-is_empty.ensures))
    (least_apart s chosen T (λ joins. let yes = c.in_ok-joined.ensures.1 joins in cc))

pub least_beside-requires : goal.least_beside-requires
least_beside-requires t c =
    let pieces = c.args.pieces.now in
    let none : Piece × ℕ = (Edge record { 0 = 0 }, 0) in (
      omega (arith, c.decreases, behind_shorter pieces c.if-is_empty.ensures),
      (
        c.requires.chosen,
        (
          λ p allowed. c.requires.inside p (allowed.0, behind_in pieces none (p, allowed.0) c.if-is_empty.ensures allowed.1),
          (
            λ p weight weighs. c.requires.light p weight (behind_in pieces none (p, weight) c.if-is_empty.ensures weighs),
            c.requires.vertices,
          ),
        ),
      ),
    )

pub least_beside-requires-2 : goal.least_beside-requires-2
least_beside-requires-2 t c =
    let pieces = c.args.pieces.now in
    let none : Piece × ℕ = (Edge record { 0 = 0 }, 0) in
    let first = get_or pieces 0 none in
    let chosen : All (IsPiece c.args.size) (c.args.chosen.now ++ first.0 ∷ []) =
    All-push (IsPiece c.args.size) c.args.chosen.now first.0 c.requires.chosen
    (c.requires.inside first.0 (first.1, first_in pieces none c.if-is_empty.ensures)) in (
      omega (arith, c.decreases, behind_shorter pieces c.if-is_empty.ensures),
      (
        rw (more c.args.chosen.now first.0 c.in_ok-more.more.items c.push.new.self.items c.as_slice.result.now
            c.in_ok-more.ensures.items c.in_ok-push.ensures.items c.as_slice.ensures.value) chosen,
        (
          λ p allowed. c.requires.inside p (allowed.0, behind_in pieces none (p, allowed.0) c.if-is_empty.ensures allowed.1),
          (
            λ p weight weighs. c.requires.light p weight (behind_in pieces none (p, weight) c.if-is_empty.ensures weighs),
            c.requires.vertices,
          ),
        ),
      ),
    )

pub overflow_add-taken : goal.overflow_add-taken
overflow_add-taken t c =
    let pieces = c.args.pieces.now in
    let none : Piece × ℕ = (Edge record { 0 = 0 }, 0) in
    let first = get_or pieces 0 none in
    let taken : IsLeastBeside c.args.size c.as_slice.result.now (behind_first pieces)
    (InVertices c.args.terminals.now) c.in_ok-taken.taken = c.in_ok-taken.ensures in
    omega (arith, taken.limit, c.requires.light first.0 first.1 (first_in pieces none c.if-is_empty.ensures))

pub returns : goal.returns
returns t c =
    let s = c.args.size in
    let T = InVertices c.args.terminals.now in
    let pieces = c.args.pieces.now in
    let none : Piece × ℕ = (Edge record { 0 = 0 }, 0) in
    let first = get_or pieces 0 none in
    let least : c.min.result ≡ min c.in_ok-left_out.left_out (c.in_ok-taken.taken + first.1) = c.min.ensures in
    let left : IsLeastBeside s c.args.chosen.now (behind_first pieces) T c.in_ok-left_out.left_out = c.in_ok-left_out.ensures in
    let all = more c.args.chosen.now first.0 c.in_ok-more.more.items c.push.new.self.items c.as_slice.result.now
    c.in_ok-more.ensures.items c.in_ok-push.ensures.items c.as_slice.ensures.value in
    let taken : IsLeastBeside s (c.args.chosen.now ++ first.0 ∷ []) (behind_first pieces) T c.in_ok-taken.taken =
    subst (λ (ps : List Piece). IsLeastBeside s ps (behind_first pieces) T c.in_ok-taken.taken) all c.in_ok-taken.ensures in
    subst (λ (ps : List (Piece × ℕ)). IsLeastBeside s c.args.chosen.now ps T c.min.result)
    (sym (first_and_rest pieces none c.if-is_empty.ensures))
    (subst (λ (n : ℕ). IsLeastBeside s c.args.chosen.now (first ∷ behind_first pieces) T n) (sym least)
    (least_of_two s c.args.chosen.now first (behind_first pieces) T c.in_ok-left_out.left_out c.in_ok-taken.taken left taken))
