use Rattle.std.proofs.Common.{◌≡◌, false, true, sym, ◌∙◌}
use Rattle.std.specs.Str.{bytes_eq}
use Rattle.design_tokens.specs.Words.{spelling}
use Rattle.design_tokens.proofs.CutTokens.{word_seen}
use Rattle.design_tokens.proofs.cut_token.CutToken.is_word.Goals as goal

pub returns-then-self : goal.returns-then-self
returns-then-self c = λ t is.
    let seen = word_seen c.args.self.now t c.args.wanted is in
    let yes : c.args.self.now.word ≡ true = c.if-self.true in
    let word : c.as_bytes.result.now ≡ spelling c.args.wanted = cc (c.as_bytes.ensures.value, c.word.ensures) in
    let compared : c.eq.result ≡ bytes_eq c.args.self.now.first (spelling c.args.wanted) = cc (c.eq.ensures, c.bytes.ensures) in
    compared ∙ (rw yes at seen)

pub returns-else-self : goal.returns-else-self
returns-else-self c = λ t is.
    let no : c.args.self.now.word ≡ false = c.if-self.false in
    no ∙ (rw no at (word_seen c.args.self.now t c.args.wanted is))
