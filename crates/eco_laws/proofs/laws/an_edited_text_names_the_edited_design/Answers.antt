use Rattle.eco_laws.proofs.EcoChains.{steps_make}
use Rattle.eco_laws.proofs.EditChains.{made_are_edited}
use Rattle.eco_laws.proofs.TextEdits.{edited_text_alike, edited_text_named}
use Rattle.eco_laws.proofs.laws.an_edited_text_names_the_edited_design.Goals as goal

pub returns-clause-named : goal.returns-clause-named
returns-clause-named c = edited_text_named

pub returns-clause-alike : goal.returns-clause-alike
returns-clause-alike c = λ old new edits d d' e is text edited named. edited_text_alike old new edits d d' is text edited e named

pub returns-clause-stepped : goal.returns-clause-stepped
returns-clause-stepped c = λ old new edits r r' is text steps.
    edited_text_named old new edits r.design r'.design is text (made_are_edited edits r.design r'.design (steps_make edits r r' steps))
