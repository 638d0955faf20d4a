use Rattle.std.proofs.Common.{◌∙◌, sym}
use Rattle.schema_build.proofs.Looking.{looked_alone, looked_met, looked_parts}
use Rattle.schema_build.proofs.faults.type_fault.Goals as goal

pub returns-then-is_some : goal.returns-then-is_some
returns-then-is_some c =
    looked_alone c.args.ty c.args.fields c.args.t.now _ _ c.in_ok-found.found c.if-fields-gt-MOST_FIELDS.false c.in_ok-found.ensures (sym c.is_some.ensures ∙ c.if-is_some.true)

pub returns-then-is_some-2 : goal.returns-then-is_some-2
returns-then-is_some-2 c =
    looked_met c.args.ty c.args.fields c.args.t.now _ _ c.in_ok-found.found c.in_ok-found-2.found c.if-fields-gt-MOST_FIELDS.false c.in_ok-found.ensures (sym c.is_some.ensures ∙ c.if-is_some.false)
    c.in_ok-found-2.ensures (sym c.is_some-2.ensures ∙ c.if-is_some-2.true)

pub returns : goal.returns
returns c =
    looked_parts c.args.ty c.args.fields c.args.t.now _ _ c.in_ok-found.found c.in_ok-found-2.found c.in_ok-found-3.found c.if-fields-gt-MOST_FIELDS.false c.in_ok-found.ensures (sym c.is_some.ensures ∙ c.if-is_some.false)
    c.in_ok-found-2.ensures (sym c.is_some-2.ensures ∙ c.if-is_some-2.false) c.in_ok-found-3.ensures
