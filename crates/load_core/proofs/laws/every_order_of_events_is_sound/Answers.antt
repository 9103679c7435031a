use Rattle.load_core.proofs.Fitness.{fit-after-all}
use Rattle.load_core.proofs.laws.every_order_of_events_is_sound.Goals as goal

pub returns : goal.returns
returns c = λ core events fit lawful. fit-after-all events core fit lawful
