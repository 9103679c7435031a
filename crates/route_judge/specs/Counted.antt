-- The words for what a certificate counts.
use Rattle.std.specs.Prelude.{ℕ, List, codes}
use Rattle.route_judge.specs.declared.counted.Counted.{Counted}
use Rattle.route_judge.specs.declared.counted.Counted.TheVariants.{Nets, Forced, Prices}

-- the word for it
abbrev pub counted_word : Counted → List ℕ
counted_word Nets = codes "nets"
counted_word Forced = codes "forced"
counted_word Prices = codes "prices"
