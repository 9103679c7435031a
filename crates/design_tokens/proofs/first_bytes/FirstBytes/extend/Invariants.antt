use Rattle.std.proofs.Common.{◌≡◌, ℕ, List, ◌++◌, take}
use Rattle.design_tokens.specs.declared.first_bytes.TheConstants.{KEPT}
use Rattle.design_tokens.proofs.first_bytes.FirstBytes.extend.Given as goal

-- the bytes so far are kept
abbrev pub invariant-loop-byte : goal.invariant-loop-byte
invariant-loop-byte l = (front : List ℕ) → l.fn.self ≡ take KEPT front → l.self ≡ take KEPT (front ++ take l.byte-index l.kept)
