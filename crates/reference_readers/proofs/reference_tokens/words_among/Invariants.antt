use Rattle.std.proofs.Common.{◌≡◌, ◌+◌, ◌++◌, map, length, drop}
use Rattle.std.specs.List.{sum_by}
use Rattle.reference_readers.specs.Words.{token_of, words_of}
use Rattle.reference_readers.proofs.reference_tokens.words_among.Given as goal

abbrev pub invariant-loop-part : goal.invariant-loop-part
invariant-loop-part l = record {
  far : l.place + sum_by (λ part. length part.now + 1) (drop l.part-index l.parts)
      ≡ sum_by (λ part. length part.now + 1) l.parts;
  read : map token_of l.words.items ++ words_of l.place (map (λ part. part.now) (drop l.part-index l.parts))
      ≡ words_of 0 (map (λ part. part.now) l.parts);
}
