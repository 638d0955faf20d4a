use Rattle.std.proofs.Common.{subst, ap, ◌∙◌}
use Rattle.gql_types.specs.Positions.{ty_at}
use Rattle.gql_input.specs.Coerced.{Answers}
use Rattle.gql_input.specs.Inputs.{reads, reads_at}
use Rattle.gql_input.proofs.Json.{object_is}
use Rattle.gql_input.proofs.given.+given.Goals as goal

pub coerce_given-returns-in-Object : goal.coerce_given-returns-in-Object
coerce_given-returns-in-Object t c =
    subst (λ due. Answers due c.listed.result) (object_is c.args.schema.now c.args.given.now _ (ty_at c.args.at) (reads c.input_at-input.result) c.in-Object.is (c.input_at-input.ensures ∙ ap (reads_at c.args.schema.now) c.name.ensures))
    (c.listed.ensures _ c.coerce_object.ensures)
