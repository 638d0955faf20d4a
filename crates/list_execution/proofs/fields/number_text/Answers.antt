use Rattle.std.proofs.Common.{rules, ◌≡◌, sym, subst, IsUtf8}
use Rattle.json_out.specs.JsonText.{json_int}
use Rattle.list_execution.proofs.Texts.{IsUtf8-int}
use Rattle.list_execution.proofs.fields.number_text.Goals as goal

pub of_bytes-requires : goal.of_bytes-requires
of_bytes-requires c =
    let e : c.put_int.new.out.items ≡ json_int c.args.number = search rules in
    subst IsUtf8 (sym e) (IsUtf8-int c.args.number c.ranges.number.sfits)
