use Rattle.rel_model.proofs.CellOrder.{null_last, integers_by_value, truths_in_order, texts_by_bytes, cases_by_place}
use Rattle.rel_model.proofs.laws.cells_stand_by_value.Goals as goal

pub returns-clause-null : goal.returns-clause-null
returns-clause-null c = null_last c.args.before.now

pub returns-clause-integers : goal.returns-clause-integers
returns-clause-integers c = integers_by_value

pub returns-clause-truths : goal.returns-clause-truths
returns-clause-truths c = truths_in_order

pub returns-clause-texts : goal.returns-clause-texts
returns-clause-texts c = texts_by_bytes

pub returns-clause-cases : goal.returns-clause-cases
returns-clause-cases c = cases_by_place
