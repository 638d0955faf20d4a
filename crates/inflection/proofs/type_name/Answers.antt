use Rattle.std.proofs.Common.{◌≡◌, IsUtf8, sym, ap, subst, ◌∙◌, true}
use Rattle.name_rules.specs.Joined.{joined}
use Rattle.name_rules.specs.Names.{type_name_of}
use Rattle.name_rules.proofs.Joined.{type_name_of-joined, IsUtf8-type_name_of}
use Rattle.inflection.proofs.type_name.Goals as goal
use Rattle.inflection.proofs.type_name.Goals.{In_ok-bytes}

made : (c : In_ok-bytes) → c.in_ok-bytes.bytes.items ≡ type_name_of c.args.name.now
made c = c.in_ok-bytes.ensures ∙ ap (joined true) c.as_bytes.ensures.value ∙ sym (type_name_of-joined c.args.name.now)

pub of_bytes-requires : goal.of_bytes-requires
of_bytes-requires c = subst IsUtf8 (sym (made (goal.at.of_bytes-requires c).In_ok-bytes)) (IsUtf8-type_name_of c.args.name.now c.utf8.name)

pub returns : goal.returns
returns c = c.of_bytes.ensures ∙ made (goal.at.returns c).In_ok-bytes
