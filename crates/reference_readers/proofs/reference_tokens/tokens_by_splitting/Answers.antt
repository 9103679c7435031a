use Rattle.std.proofs.Common.{arith}
use Rattle.text_scan.specs.Tokens.{is_blank}
use Rattle.reference_readers.proofs.Words.{words_are_tokens, parts_are_long, long_lent}
use Rattle.reference_readers.proofs.reference_tokens.tokens_by_splitting.Goals as goal

pub words_among-requires : goal.words_among-requires
words_among-requires c = rw (
  c.as_slice.ensures.value,
  long_lent c.in_ok-parts.parts.items,
  c.in_ok-parts.ensures,
  parts_are_long is_blank c.args.text.now,
) (omega (arith, c.requires))

pub returns : goal.returns
returns c = rw (c.as_slice.ensures.value, c.in_ok-parts.ensures, words_are_tokens 0 c.args.text.now) at c.words_among.ensures
