use Rattle.std.proofs.Common.{◌≡◌, ℤ, length, slice_get, refl, sym, ◌∙◌, Ok, SFits, w64, to_z, of_z, to_z-of_z, arith}
use Rattle.std.specs.Int.{w128}
use Rattle.text_scan.specs.Tokens.{token_at}
use Rattle.text_scan.specs.Numbers.{token_number}
use Rattle.text_scan.specs.Parts.{or_refuse}
use Rattle.text_scan.specs.Reading.{tokens_left}
use Rattle.text_scan.specs.declared.number_fault.NumberFault.TheVariants.{End}
use Rattle.text_scan.proofs.Numbers.{read_is_within, fits_between}
use Rattle.text_scan.proofs.scanner.Scanner.number.Goals as goal

-- a number of 64 bits is one of 128 bits
widens : (v : ℤ) → SFits w64 v → to_z w128 (of_z w128 v) ≡ v
widens v fits = to_z-of_z {w = w128} (record { sfits = omega (arith, fits.sfits) })

pub returns-in-Ok-clause-answer : goal.returns-in-Ok-clause-answer
returns-in-Ok-clause-answer c =
    let value = c.in-Ok.value in
    let token = token_at c.self.inside.bytes.now c.in-Some.span in
    let lo : to_z w128 (of_z w128 c.from.result) ≡ c.args.lo = to_z-of_z {w = w128} (record { sfits = c.from.type_inv }) ∙ c.from.ensures ∙ to_z-of_z c.ranges.lo in
    let hi : to_z w128 (of_z w128 c.from-2.result) ≡ c.args.hi = to_z-of_z {w = w128} (record { sfits = c.from-2.type_inv }) ∙ c.from-2.ensures ∙ to_z-of_z c.ranges.hi in
    let read : token_number c.args.lo c.args.hi token ≡ Ok value = rw (lo, hi) at (sym c.number_in.ensures ∙ c.in-Ok.is) in
    let within = read_is_within c.args.lo c.args.hi value token read in
    let fits = fits_between c.args.lo c.args.hi value c.ranges.lo c.ranges.hi within.0 within.1 in
    let here : or_refuse (slice_get (tokens_left c.args.self.now) 0) (End (length c.args.self.now.text)) ≡ Ok token = rw (c.in-Some.ensures.token, ← c.self.view_is) refl in
    rw (widens value fits, to_z-of_z fits) (rw (here, read) refl)
