use Rattle.std.proofs.Common.{◌≡◌, true, false, refl}
use Rattle.design_tokens.proofs.CutTokens.{bytes_added, still_some}
use Rattle.design_tokens.proofs.cut_token.CutToken.extend.Goals as goal

pub returns-in_ok-extend_from_slice-clause-token : goal.returns-in_ok-extend_from_slice-clause-token
returns-in_ok-extend_from_slice-clause-token c = λ t is. bytes_added c.args.self.now _ t c.args.bytes.now is refl refl (λ yes. c.keep_first.ensures.word t.bytes yes (is.first yes)) c.with_all-self.ensures (λ _. (c.if-self.true, c.in_ok-extend_from_slice.ensures.items))

pub returns-in_ok-extend_from_slice-clause-some : goal.returns-in_ok-extend_from_slice-clause-some
returns-in_ok-extend_from_slice-clause-some c = λ t is. still_some c.args.self.now c.keep_first.new.first t c.args.bytes.now is c.requires (λ yes. c.keep_first.ensures.word t.bytes yes (is.first yes)) c.keep_first.ensures.other

pub returns-else-self-clause-token : goal.returns-else-self-clause-token
returns-else-self-clause-token c = λ t is. bytes_added c.args.self.now _ t c.args.bytes.now is refl refl (λ yes. c.keep_first.ensures.word t.bytes yes (is.first yes)) c.with_all-self.ensures
    (λ (named : c.args.self.now.named ≡ true). let other : c.args.self.now.named ≡ false = c.if-self.false in absurd (cc))

pub returns-else-self-clause-some : goal.returns-else-self-clause-some
returns-else-self-clause-some c = λ t is. still_some c.args.self.now c.keep_first.new.first t c.args.bytes.now is c.requires (λ yes. c.keep_first.ensures.word t.bytes yes (is.first yes)) c.keep_first.ensures.other
