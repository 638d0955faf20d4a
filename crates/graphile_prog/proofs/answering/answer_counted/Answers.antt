use Rattle.std.proofs.Common.{refl, sym, ap, subst, Some}
use Rattle.std.specs.Arc.{arc_value}
use Rattle.pg_base.specs.Base.{BaseParts}
use Rattle.rel_model.specs.Tables.{AreValidTables}
use Rattle.request_core.specs.Answer.{IsAnswer}
use Rattle.request_core.specs.Request.{request_of}
use Rattle.request_core.proofs.Refused.{if_ok}
use Rattle.graphile_prog.proofs.answering.answer_counted.Goals as goal

pub returns : goal.returns
returns g c =
    let tables = c.args.loaded.now.tables in
    let request = request_of c.args.request in
    let same = c.in_ok-house.ensures.base in
    let valid = subst (λ (b : BaseParts). AreValidTables b.catalog tables) (sym same) c.requires.usable.valid in
    if_ok c.answer_own.result _ _ (λ text a. subst (λ (b : BaseParts). IsAnswer b tables request text) same a)
    (c.answer_own.ensures tables (ap Some c.in_ok-house.ensures.tables, valid) refl)
