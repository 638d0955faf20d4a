use Rattle.std.proofs.Common.{◌≡◌, ◌<◌, ◌^◌, length, ap, rules, arith}
use Rattle.std.proofs.lemmas.Grind.{common_steps}
use Rattle.gql_collect.specs.Growing as spec
use Rattle.gql_collect.proofs.Numbered.{few_fields}
use Rattle.gql_collect.proofs.growing.number_of.Goals as goal

pub overflow_cast-result : goal.overflow_cast-result
overflow_cast-result c =
    let few : length (spec.fields_at c.args.schema.now c.args.ty) < 2 ^ 32 = few_fields c.args.schema.now c.know.ensures c.args.ty in
    let same : length c.fields_at.result.now ≡ length (spec.fields_at c.args.schema.now c.args.ty) = ap length c.fields_at.ensures in
    let within : c.in-Some.i < length c.fields_at.result.now = c.in-Some.ensures.within in
    let below : c.in-Some.i < 2 ^ 32 = omega arith in
    first_of (search rules, grind (arith, common_steps))
