use Rattle.std.proofs.Common.{◌≡◌, rules, subst, sym}
use Rattle.pg_base.specs.Lists.{Each}
use Rattle.stmt_tree.specs.Form.{HasForm}
use Rattle.stmt_tree.specs.Meaning.{meaning_of}
use Rattle.stmt_tree.proofs.Form.{meanings_form}
use Rattle.stmt_run.proofs.memory.MemRowsRows.run.Goals as goal

pub returns-clause-form : goal.returns-clause-form
returns-clause-form c = λ catalog holds fits.
    let found : c.from_vec.result ≡ meaning_of c.args.at.now.set.tables c.args.stmt.now c.args.keys.now = search rules in
    subst (Each (HasForm catalog c.args.stmt.now)) (sym found) (meanings_form catalog c.args.at.now.set.tables holds.0 c.args.stmt.now c.args.keys.now)
