use Rattle.std.proofs.Common.{subst, ap, ◌∙◌}
use Rattle.gql_types.specs.Positions.{ty_at, ty_if}
use Rattle.gql_input.specs.Coerced.{Answers}
use Rattle.gql_input.specs.Inputs.{reads, reads_at}
use Rattle.gql_input.proofs.LiteralFacts.{list_is, object_is}
use Rattle.gql_input.proofs.literal.+literal.Goals as goal

pub coerce_literal-returns-in-List : goal.coerce_literal-returns-in-List
coerce_literal-returns-in-List t c =
    subst (λ due. Answers due c.coerce_list.result) (list_is c.args.schema.now c.args.value.now.kind _ _ (ty_at c.args.at) (ty_if c.item.result) c.in-List.is c.as_slice.ensures c.item.ensures) c.coerce_list.ensures

pub coerce_literal-returns-in-Object : goal.coerce_literal-returns-in-Object
coerce_literal-returns-in-Object t c =
    subst (λ due. Answers due c.listed.result) (object_is c.args.schema.now c.args.value.now.kind _ _ (ty_at c.args.at) (reads c.input_at-input.result) c.in-Object.is c.as_slice-in-Object.ensures (c.input_at-input.ensures ∙ ap (reads_at c.args.schema.now) c.name.ensures)) (c.listed.ensures _ c.coerce_object.ensures)
