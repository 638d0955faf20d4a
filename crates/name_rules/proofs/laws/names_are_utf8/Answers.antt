use Rattle.name_rules.proofs.Joined.{IsUtf8-type_name_of, IsUtf8-field_name_of}
use Rattle.name_rules.proofs.Endings.{IsUtf8-singular_of, IsUtf8-plural_of}
use Rattle.name_rules.proofs.Cases.{IsUtf8-enum_case_of}
use Rattle.name_rules.proofs.laws.names_are_utf8.Goals as goal

pub returns : goal.returns
returns c =
    let name = c.args.name.now in
    let text = c.utf8.name in
    record {
      singular = IsUtf8-singular_of name text;
      plural = IsUtf8-plural_of name text;
      type_name = IsUtf8-type_name_of name text;
      field_name = IsUtf8-field_name_of name text;
      enum_case = IsUtf8-enum_case_of name;
    }
