use Rattle.made_designs.proofs.Contents.{made_text_says, made_text_short}
use Rattle.made_designs.proofs.Generated.{made_design_near, made_rows_joined, made_columns_joined, made_nets_reachable}
use Rattle.made_designs.proofs.laws.made_texts_are_designs.Goals as goal

pub returns-clause-bytes : goal.returns-clause-bytes
returns-clause-bytes c = made_text_short c.args.seed c.args.shape c.requires

pub returns-clause-contents : goal.returns-clause-contents
returns-clause-contents c = made_text_says c.args.seed c.args.shape c.requires

pub returns-clause-near : goal.returns-clause-near
returns-clause-near c = made_design_near c.args.seed c.args.shape c.requires

pub returns-clause-rows : goal.returns-clause-rows
returns-clause-rows c = made_rows_joined c.args.seed c.args.shape c.requires

pub returns-clause-columns : goal.returns-clause-columns
returns-clause-columns c = made_columns_joined c.args.seed c.args.shape c.requires

pub returns-clause-reachable : goal.returns-clause-reachable
returns-clause-reachable c = made_nets_reachable c.args.seed c.args.shape c.requires
