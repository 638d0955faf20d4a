use Rattle.name_rules.proofs.Joined.{AllPass-type_name_of, AllPass-field_name_of}
use Rattle.name_rules.proofs.Endings.{AllPass-singular_of, AllPass-plural_of}
use Rattle.name_rules.proofs.laws.names_keep_name_characters.Goals as goal

pub returns : goal.returns
returns c =
    let name = c.args.name.now in
    record {
      singular = AllPass-singular_of name c.requires;
      plural = AllPass-plural_of name c.requires;
      type_name = AllPass-type_name_of name c.requires;
      field_name = AllPass-field_name_of name c.requires;
    }
