use Rattle.std.proofs.Common.{◌≡◌, ◌++◌, ◌∙◌, [], length, take, drop, List, ℕ, ap, sym, ◌+◌, arith, length-take}
use Rattle.std.specs.Prelude.{unwrap_or, option_map}
use Rattle.std.proofs.lemmas.List.{drop-drop, take-append-drop, take_at}
use Rattle.gr_desk.specs.Files.{bytes_at}
use Rattle.gr_desk.proofs.reading.Reading.read.Goals as goal

-- what is left is what was taken, and then what is left after it
taken_then_left : (bytes piece : List ℕ) (start count : ℕ) → piece ≡ take count (drop start bytes) → drop start bytes ≡ piece ++ drop (start + count) bytes
taken_then_left bytes piece start count same = sym (take-append-drop count (drop start bytes)) ∙ ap (λ l. l ++ drop count (drop start bytes)) (sym same) ∙ ap (λ l. piece ++ l) (drop-drop count start bytes)

pub returns-clause-taken : goal.returns-clause-taken
returns-clause-taken c =
    let full : length c.copy_from_slice.new.self ≡ c.min-count.result = omega (arith, c.copy_from_slice.ensures.len, length-take c.min-count.result c.args.buf.now) in
    taken_then_left (unwrap_or (option_map (bytes_at c.args.files.now) c.args.self.now.file) []) _ c.args.self.now.at c.min-count.result
    (take_at _ _ _ full ∙ c.copy_from_slice.ensures.after ∙ ap (take c.min-count.result) c.left-left.ensures.left)
