use Rattle.route_judge.proofs.ShortTexts.{short_text}
use Rattle.route_judge.proofs.laws.short_texts_can_be_judged.Goals as goal

pub returns : goal.returns
returns c = short_text
