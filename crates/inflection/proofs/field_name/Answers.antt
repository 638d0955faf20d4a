use Rattle.std.proofs.Common.{◌≡◌, IsUtf8, sym, ap, subst, ◌∙◌}
use Rattle.name_rules.specs.Joined.{field_joined}
use Rattle.name_rules.specs.Names.{field_name_of}
use Rattle.name_rules.proofs.Joined.{field_name_of-joined, IsUtf8-field_name_of}
use Rattle.inflection.proofs.field_name.Goals as goal
use Rattle.inflection.proofs.field_name.Goals.{In_ok-bytes}

made : (c : In_ok-bytes) → c.in_ok-bytes.bytes.items ≡ field_name_of c.args.name.now
made c = c.in_ok-bytes.ensures ∙ ap (field_joined) c.as_bytes.ensures.value ∙ sym (field_name_of-joined c.args.name.now)

pub of_bytes-requires : goal.of_bytes-requires
of_bytes-requires c = subst IsUtf8 (sym (made (goal.at.of_bytes-requires c).In_ok-bytes)) (IsUtf8-field_name_of c.args.name.now c.utf8.name)

pub returns : goal.returns
returns c = c.of_bytes.ensures ∙ made (goal.at.returns c).In_ok-bytes
