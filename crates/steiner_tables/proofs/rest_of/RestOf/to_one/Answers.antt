use Rattle.std.proofs.Common.{length, arith}
use Rattle.std.proofs.lemmas.Nat.{pow_pos}
use Rattle.steiner_tables.proofs.LoneRows.{single_below}
use Rattle.steiner_tables.proofs.rest_of.RestOf.to_one.Goals as goal

pub invariant_of-result-clause-some : goal.invariant_of-result-clause-some
invariant_of-result-clause-some g c = omega (arith, c.single_of.ensures, pow_pos c.args.place)

pub invariant_of-result-clause-within : goal.invariant_of-result-clause-within
invariant_of-result-clause-within g c =
    omega (
      arith,
      c.single_of.ensures,
      single_below (length (g.F.Family.terminals c.args.family.now)) c.args.place c.requires.several c.requires.place,
    )
