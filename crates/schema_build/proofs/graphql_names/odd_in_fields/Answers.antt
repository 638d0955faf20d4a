use Rattle.std.proofs.Common.{◌∙◌, sym, ap, map, find}
use Rattle.std.specs.Option.{option_copied}
use Rattle.schema_build.specs.Looking.{is_odd}
use Rattle.schema_build.proofs.Looking.{odd_stop, odd_step, copied_some}
use Rattle.schema_build.proofs.graphql_names.odd_in_fields.Goals as goal

pub returns-then-is_some : goal.returns-then-is_some
returns-then-is_some c =
    odd_stop c.args.fields.now c.loop-field.field-index c.field-item.result c.loop-field-test.true c.field-item.is c.loop-field.invariant
    (sym c.is_odd.ensures ∙ c.if-is_odd.false) (option_copied c.odd_argument-odd.result)
    (copied_some c.odd_argument-odd.result _ (sym c.is_some.ensures ∙ c.if-is_some.true))
    (c.odd_argument-odd.ensures ∙ ap (λ l. find is_odd (map (λ a. a.name) l)) c.as_slice.ensures)

pub loop-field-preserved : goal.loop-field-preserved
loop-field-preserved c =
    odd_step c.args.fields.now c.loop-field.field-index c.field-item.result c.loop-field-test.true c.field-item.is c.loop-field.invariant
    (sym c.is_odd.ensures ∙ c.if-is_odd.false) (option_copied c.odd_argument-odd.result)
    (copied_some c.odd_argument-odd.result _ (sym c.is_some.ensures ∙ c.if-is_some.false))
    (c.odd_argument-odd.ensures ∙ ap (λ l. find is_odd (map (λ a. a.name) l)) c.as_slice.ensures)
