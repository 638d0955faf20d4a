use Rattle.stmt_tree.proofs.Form.{meanings_form}
use Rattle.stmt_tree.proofs.laws.meanings_have_form.Goals as goal

pub returns : goal.returns
returns c = λ catalog valid. meanings_form catalog c.args.tables.now valid c.args.stmt.now c.args.keys.now
