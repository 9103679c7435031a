use Rattle.std.proofs.Common.{◌≡◌, ◌+◌, map, length, ℕ, List, [], ◌∷◌, ◌++◌, get_or, drop, Bor, sym, ◌∙◌, ap, Vec, Global}
use Rattle.std.proofs.Common.{arith}
use Rattle.std.proofs.lemmas.List.{drop_more, map-append, append-nil}
use Rattle.std.proofs.lemmas.List.Sums.{sum_by-cons}
use Rattle.reference_readers.specs.declared.word.Word.{Word}
use Rattle.std.specs.List.{sum_by}
use Rattle.text_scan.specs.Tokens.{Token}
use Rattle.reference_readers.specs.Words.{token_of, part_as_token}
use Rattle.reference_readers.proofs.Words.{words_more, part_as_token-nonempty, part_as_token-empty}
use Rattle.reference_readers.proofs.reference_tokens.words_among.Goals as goal
use Rattle.reference_readers.proofs.reference_tokens.words_among.Goals.{then-not-is_empty+in_ok-from_slice+in_ok-push}
use Rattle.reference_readers.proofs.reference_tokens.words_among.Goals.{else-not-is_empty}

abbrev one_more : Bor (List ℕ) → ℕ
one_more part = length part.now + 1

pub loop-part-preserved : goal.loop-part-preserved
loop-part-preserved c =
    let parts = c.args.parts.now in
    let i = c.loop-part.part-index in
    let none : Bor (List ℕ) = record { ref_ptr = (0, 0); now = [] } in
    let lent : Bor (List ℕ) = get_or parts i none in
    let next = drop_more parts i none c.loop-part-test.true in
    let before : sum_by one_more (drop i parts) ≡ one_more lent + sum_by one_more (drop (i + 1) parts) =
    ap (sum_by one_more) next ∙ sum_by-cons one_more lent (drop (i + 1) parts) in
    let more : map token_of c.if-not-is_empty.words.items
    ≡ map token_of c.loop-part.words.items ++ part_as_token c.loop-part.place lent.now =
    elim c.if-not-is_empty.branch [
      | then-not-is_empty+in_ok-from_slice+in_ok-push w ↦
          ap (λ (v : Vec Word Global). map token_of v.items) w.words-is ∙ ap (map token_of) w.in_ok-push.ensures.items
          ∙ map-append token_of c.loop-part.words.items _
          ∙ ap (λ (bytes : List ℕ). map token_of c.loop-part.words.items
          ++ record { place = c.loop-part.place; bytes = bytes } ∷ []) w.in_ok-from_slice.ensures.items
          ∙ ap (λ (ts : List Token). map token_of c.loop-part.words.items ++ ts)
          (sym (part_as_token-nonempty c.loop-part.place lent.now w.if-not-is_empty.ensures))
      | else-not-is_empty w ↦
          ap (λ (v : Vec Word Global). map token_of v.items) w.words-is
          ∙ sym (append-nil (map token_of c.loop-part.words.items))
          ∙ ap (λ (ts : List Token). map token_of c.loop-part.words.items ++ ts)
          (sym (part_as_token-empty c.loop-part.place lent.now w.if-not-is_empty.ensures))
    ] in
    record {
      far = omega (arith, before, c.loop-part.invariant.far);
      read = words_more (map token_of c.loop-part.words.items)
          (map token_of c.if-not-is_empty.words.items) c.loop-part.place lent.now
          (map (λ (part : Bor (List ℕ)). part.now) (drop (i + 1) parts)) _ more (rw next at c.loop-part.invariant.read);
    }
