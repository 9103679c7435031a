use Rattle.std.proofs.Common.{◌≡◌, ◌+◌, ◌≤◌, [], ◌∷◌, ◌++◌, List, ℕ, length, take, get_or, sym, ap, ◌∙◌, arith, append_assoc, length-take}
use Rattle.std.specs.Prelude.{min}
use Rattle.std.proofs.lemmas.List.{take_all, take_more}
use Rattle.design_tokens.specs.declared.first_bytes.TheConstants.{KEPT}
use Rattle.design_tokens.proofs.CutTokens.{first_enough, first_more}
use Rattle.design_tokens.proofs.first_bytes.FirstBytes.extend.Goals as goal

pub loop-byte-preserved : goal.loop-byte-preserved
loop-byte-preserved c front is =
    let bytes = take c.min.result c.args.bytes.now in
    let i = c.loop-byte.byte-index in
    let b : ℕ = get_or bytes i 0 in
    c.push.ensures ∙ ap (λ (l : List ℕ). take KEPT (l ++ b ∷ [])) (c.loop-byte.invariant front is) ∙ first_more KEPT (front ++ take i bytes) (b ∷ [])
    ∙ ap (λ (l : List ℕ). take KEPT l) (append_assoc front (take i bytes) (b ∷ []) ∙ ap (λ (l : List ℕ). front ++ l) (sym (take_more bytes i 0 c.loop-byte-test.true)))

pub returns : goal.returns
returns c = λ front is.
    let bytes = c.args.bytes.now in
    let room = c.min.result in
    let used : length (take c.self.inside.used c.self.inside.bytes) ≡ min KEPT (length front) = ap length (c.self.view_is ∙ is) ∙ length-take KEPT front in
    let had : length (take c.self.inside.used c.self.inside.bytes) ≡ min c.self.inside.used (length c.self.inside.bytes) = length-take c.self.inside.used c.self.inside.bytes in
    let enough : min KEPT (length front + length bytes) ≤ length front + room = omega (arith, used, had, c.self.told, c.self.invariant, c.min.ensures) in
    c.loop-byte.invariant front is ∙ ap (λ (l : List ℕ). take KEPT (front ++ l)) (take_all c.loop-byte.byte-index (take room bytes) c.loop-byte-test.false) ∙ first_enough KEPT room front bytes enough
