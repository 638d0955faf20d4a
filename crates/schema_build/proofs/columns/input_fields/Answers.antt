use Rattle.std.proofs.Common.{◌++◌, flat_map, ap, ◌∙◌}
use Rattle.std.specs.Prelude.{◌&&◌}
use Rattle.pg_base.specs.Listing.{when}
use Rattle.pg_base.specs.Behaviors as behaviors
use Rattle.pg_base.specs.ColumnFields as spec
use Rattle.pg_base.specs.declared.table_def.ColumnDef.{ColumnDef}
use Rattle.schema_build.proofs.Kept.{kept_by_when}
use Rattle.schema_build.proofs.columns.input_fields.Goals as goal

pub returns : goal.returns
returns c =
    let f = λ (x : ColumnDef). spec.input_field c.args.types.now (c.args.creates && spec.must_be_given x) x in
    let on = λ (x : ColumnDef). behaviors.is_on c.args.behavior x.tags in
    let start = ap (λ xs. xs ++ flat_map (λ x. when (on x) (f x)) c.args.columns.now) c.new-args.ensures.items in
    c.from_vec.ensures ∙ c.in_ok-put_input_fields.ensures ∙ start ∙ kept_by_when f on c.args.columns.now
