-- What a token that may be cut is known by.
use Rattle.std.specs.Prelude.{ℕ, ◌≡◌, Bool, true, false, ◌==◌, nat_le, List, [], ◌∷◌, length, take}
use Rattle.text_scan.specs.Tokens.{Token}
use Rattle.design_tokens.specs.declared.first_bytes.TheConstants.{KEPT}
use Rattle.design_tokens.specs.declared.cut_token.CutToken.{CutToken}
use Rattle.design_tokens.specs.Numerals.{numeral_of}

-- it has no byte yet
abbrev pub has_no_byte : CutToken → Bool
has_no_byte c = length c.first == 0

-- all its bytes are kept
abbrev pub keeps_name : CutToken → Bool
keeps_name c = c.named

-- bytes may be those of a word of the format, of which each begins with a letter: with 97, which is `a`, or more
abbrev pub begins_word : List ℕ → Bool
begins_word [] = false
begins_word (b ∷ bs) = nat_le 97 b

-- the bytes so far are those of this token; the first are kept where they may be those of a word
pub record IsCutToken (c : CutToken) (t : Token) : Type 0 where
  pub place : c.place ≡ t.place
  pub some : (length t.bytes == 0) ≡ false
  pub word : c.word ≡ begins_word t.bytes
  pub first : c.word ≡ true → c.first ≡ take KEPT t.bytes
  pub numeral : c.numeral ≡ numeral_of t.bytes
  pub name : c.named ≡ true → c.name.items ≡ t.bytes
