use Rattle.std.proofs.Common.{◌∙◌, ℕ, List, sym, ap, map}
use Rattle.std.specs.Prelude.{string_bytes}
use Rattle.std.specs.List.{list_any}
use Rattle.std.specs.Str.{bytes_eq}
use Rattle.command_words.proofs.Shapes.{no_pair}
use Rattle.command_words.proofs.shape.is_given.Goals as goal

pub returns : goal.returns
returns c = sym (c.loop-left.invariant ∙ ap (λ (ps : List (List ℕ × List ℕ)). list_any (bytes_eq c.args.option.now) (map (λ given. given.0) ps))
    (no_pair string_bytes c.loop-left.left.now c.in_default.len_below))
