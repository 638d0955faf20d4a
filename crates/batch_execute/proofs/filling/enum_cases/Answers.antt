use Rattle.std.proofs.Common.{◌≤◌, ◌<◌, ◌+◌, length, sym, ap, ◌∙◌, subst}
use Rattle.pg_base.specs.Schema.{kind_at, cases_of}
use Rattle.batch_execute.proofs.EnumCases.{cases_within, cases_past}
use Rattle.batch_execute.proofs.filling.enum_cases.Goals as goal

pub returns-then-place-enums-clause-value : goal.returns-then-place-enums-clause-value
returns-then-place-enums-clause-value c =
    let e = c.enums.ensures ∙ ap (λ x. x.enums) c.catalog-2.ensures in
    sym (cases_past c.args.base.now c.know.ensures c.args.place (subst (λ l. length l ≤ c.args.place) e c.if-place-enums.true))

pub returns-clause-value : goal.returns-clause-value
returns-clause-value c =
    let e = c.enums.ensures ∙ ap (λ x. x.enums) c.catalog-2.ensures in
    c.cases_at.ensures.value ∙ ap (λ s. cases_of (kind_at s (3 + c.args.place))) c.schema.ensures
    ∙ cases_within c.args.base.now c.know.ensures c.args.place (subst (λ l. c.args.place < length l) e c.if-place-enums.false)
