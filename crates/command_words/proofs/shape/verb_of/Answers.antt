use Rattle.std.proofs.Common.{◌∙◌, List, ◌∷◌, ℕ, ap, sym, map}
use Rattle.std.specs.Prelude.{string_bytes}
use Rattle.command_words.proofs.Commands.{misshapen, no_word}
use Rattle.command_words.proofs.shape.verb_of.Goals as goal

pub returns-in_err-verb : goal.returns-in_err-verb
returns-in_err-verb c = rw c.from_residual-in_err-verb.ensures
    (no_word (map string_bytes c.args.words.now) c.as_str.result.now (map string_bytes c.in_ok-first.rest.now) (ap (map string_bytes) c.in_ok-first.ensures.cases.0 ∙ ap (λ (word : List ℕ). word ∷ map string_bytes c.in_ok-first.rest.now) (sym c.as_str.ensures.value)) c.in_err-verb.ensures)

pub returns-else-has_parts : goal.returns-else-has_parts
returns-else-has_parts c = misshapen c.in_ok-verb.verb (map string_bytes c.args.words.now) c.as_str.result.now (map string_bytes c.in_ok-first.rest.now)
    (ap (map string_bytes) c.in_ok-first.ensures.cases.0 ∙ ap (λ (word : List ℕ). word ∷ map string_bytes c.in_ok-first.rest.now) (sym c.as_str.ensures.value)) c.in_ok-verb.ensures (sym c.has_parts.ensures ∙ c.if-has_parts.false)
