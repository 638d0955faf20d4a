use Rattle.std.proofs.Common.{◌∙◌}
use Rattle.schema_build.proofs.Whole.{valid_parts, same_parts}
use Rattle.schema_build.proofs.built.schema_from.Goals as goal

pub of-requires : goal.of-requires
of-requires c =
    valid_parts c.args.catalog.now c.args.listed c.args.query c.args.mutation c.fields_lead_to_their_types.ensures.valid
    c.requires.types c.requires.query c.requires.mutation

pub returns : goal.returns
returns c =
    c.of.ensures ∙ same_parts c.args.catalog.now c.args.listed c.args.query c.args.mutation
    c.requires.types c.requires.query c.requires.mutation
