use Rattle.std.proofs.Common.{IsUtf8, sym, subst}
use Rattle.name_rules.proofs.Cases.{IsUtf8-enum_case_of}
use Rattle.inflection.proofs.enum_case.Goals as goal

pub of_bytes-requires : goal.of_bytes-requires
of_bytes-requires c = subst IsUtf8 (sym c.in_ok-bytes.ensures) (IsUtf8-enum_case_of c.args.label.now)
