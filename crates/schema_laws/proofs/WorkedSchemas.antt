-- The schemas of the worked catalogs, and their faults, are computed.
use Rattle.std.proofs.Common.{◌≡◌, None, Some, refl}
use Rattle.name_rules.specs.Inflection.{singular_of, plural_of, regular_singular, regular_plural, singular_ending, plural_ending}
use Rattle.name_rules.specs.Names.{type_name_of, field_name_of}
use Rattle.pg_base.specs.Lists.{Each}
use Rattle.pg_base.specs.EnumCases.{case_of_label}
use Rattle.pg_base.specs.Roles.{roles_of}
use Rattle.pg_base.specs.SchemaOf.{schema_of}
use Rattle.pg_base.specs.SchemaFaults.{build_fault}
use Rattle.schema_laws.specs.Outline.{outline}
use Rattle.schema_laws.specs.WorkedSchemas.{IsWorked, all_worked}
use Rattle.schema_laws.specs.WorkedSchemas as worked
use Rattle.schema_laws.specs.WorkedFaults.{all_faulty}

one_table_is : outline (schema_of worked.one_table) ≡ worked.one_table_schema
unfolding schema_of roles_of singular_of plural_of regular_singular regular_plural singular_ending plural_ending type_name_of field_name_of case_of_label
one_table_is = refl

one_table_builds : build_fault worked.one_table ≡ None
unfolding build_fault schema_of roles_of singular_of plural_of regular_singular regular_plural singular_ending plural_ending type_name_of field_name_of case_of_label
one_table_builds = refl

blog_is : outline (schema_of worked.blog) ≡ worked.blog_schema
unfolding schema_of roles_of singular_of plural_of regular_singular regular_plural singular_ending plural_ending type_name_of field_name_of case_of_label
blog_is = refl

blog_builds : build_fault worked.blog ≡ None
unfolding build_fault schema_of roles_of singular_of plural_of regular_singular regular_plural singular_ending plural_ending type_name_of field_name_of case_of_label
blog_builds = refl

two_keys_is : outline (schema_of worked.two_keys) ≡ worked.two_keys_schema
unfolding schema_of roles_of singular_of plural_of regular_singular regular_plural singular_ending plural_ending type_name_of field_name_of case_of_label
two_keys_is = refl

two_keys_builds : build_fault worked.two_keys ≡ None
unfolding build_fault schema_of roles_of singular_of plural_of regular_singular regular_plural singular_ending plural_ending type_name_of field_name_of case_of_label
two_keys_builds = refl

odd_labels_is : outline (schema_of worked.odd_labels) ≡ worked.odd_labels_schema
unfolding schema_of roles_of singular_of plural_of regular_singular regular_plural singular_ending plural_ending type_name_of field_name_of case_of_label
odd_labels_is = refl

odd_labels_builds : build_fault worked.odd_labels ≡ None
unfolding build_fault schema_of roles_of singular_of plural_of regular_singular regular_plural singular_ending plural_ending type_name_of field_name_of case_of_label
odd_labels_builds = refl

to_itself_is : outline (schema_of worked.to_itself) ≡ worked.to_itself_schema
unfolding schema_of roles_of singular_of plural_of regular_singular regular_plural singular_ending plural_ending type_name_of field_name_of case_of_label
to_itself_is = refl

to_itself_builds : build_fault worked.to_itself ≡ None
unfolding build_fault schema_of roles_of singular_of plural_of regular_singular regular_plural singular_ending plural_ending type_name_of field_name_of case_of_label
to_itself_builds = refl

one_to_one_is : outline (schema_of worked.one_to_one) ≡ worked.one_to_one_schema
unfolding schema_of roles_of singular_of plural_of regular_singular regular_plural singular_ending plural_ending type_name_of field_name_of case_of_label
one_to_one_is = refl

one_to_one_builds : build_fault worked.one_to_one ≡ None
unfolding build_fault schema_of roles_of singular_of plural_of regular_singular regular_plural singular_ending plural_ending type_name_of field_name_of case_of_label
one_to_one_builds = refl

table_behaviors_is : outline (schema_of worked.table_behaviors) ≡ worked.table_behaviors_schema
unfolding schema_of roles_of singular_of plural_of regular_singular regular_plural singular_ending plural_ending type_name_of field_name_of case_of_label
table_behaviors_is = refl

table_behaviors_builds : build_fault worked.table_behaviors ≡ None
unfolding build_fault schema_of roles_of singular_of plural_of regular_singular regular_plural singular_ending plural_ending type_name_of field_name_of case_of_label
table_behaviors_builds = refl

column_behaviors_is : outline (schema_of worked.column_behaviors) ≡ worked.column_behaviors_schema
unfolding schema_of roles_of singular_of plural_of regular_singular regular_plural singular_ending plural_ending type_name_of field_name_of case_of_label
column_behaviors_is = refl

column_behaviors_builds : build_fault worked.column_behaviors ≡ None
unfolding build_fault schema_of roles_of singular_of plural_of regular_singular regular_plural singular_ending plural_ending type_name_of field_name_of case_of_label
column_behaviors_builds = refl

renamed_is : outline (schema_of worked.renamed) ≡ worked.renamed_schema
unfolding schema_of roles_of singular_of plural_of regular_singular regular_plural singular_ending plural_ending type_name_of field_name_of case_of_label
renamed_is = refl

renamed_builds : build_fault worked.renamed ≡ None
unfolding build_fault schema_of roles_of singular_of plural_of regular_singular regular_plural singular_ending plural_ending type_name_of field_name_of case_of_label
renamed_builds = refl

deprecated_is : outline (schema_of worked.deprecated) ≡ worked.deprecated_schema
unfolding schema_of roles_of singular_of plural_of regular_singular regular_plural singular_ending plural_ending type_name_of field_name_of case_of_label
deprecated_is = refl

deprecated_builds : build_fault worked.deprecated ≡ None
unfolding build_fault schema_of roles_of singular_of plural_of regular_singular regular_plural singular_ending plural_ending type_name_of field_name_of case_of_label
deprecated_builds = refl

without_changes_is : outline (schema_of worked.without_changes) ≡ worked.without_changes_schema
unfolding schema_of roles_of singular_of plural_of regular_singular regular_plural singular_ending plural_ending type_name_of field_name_of case_of_label
without_changes_is = refl

without_changes_builds : build_fault worked.without_changes ≡ None
unfolding build_fault schema_of roles_of singular_of plural_of regular_singular regular_plural singular_ending plural_ending type_name_of field_name_of case_of_label
without_changes_builds = refl

tagged_links_is : outline (schema_of worked.tagged_links) ≡ worked.tagged_links_schema
unfolding schema_of roles_of singular_of plural_of regular_singular regular_plural singular_ending plural_ending type_name_of field_name_of case_of_label
tagged_links_is = refl

tagged_links_builds : build_fault worked.tagged_links ≡ None
unfolding build_fault schema_of roles_of singular_of plural_of regular_singular regular_plural singular_ending plural_ending type_name_of field_name_of case_of_label
tagged_links_builds = refl

pub worked_schemas : Each IsWorked all_worked
worked_schemas = ((one_table_builds, one_table_is), ((blog_builds, blog_is), ((two_keys_builds, two_keys_is), ((odd_labels_builds, odd_labels_is), ((to_itself_builds, to_itself_is), ((one_to_one_builds, one_to_one_is), ((table_behaviors_builds, table_behaviors_is), ((column_behaviors_builds, column_behaviors_is), ((renamed_builds, renamed_is), ((deprecated_builds, deprecated_is), ((without_changes_builds, without_changes_is), ((tagged_links_builds, tagged_links_is), tt))))))))))))

pub worked_faults : Each (λ w. build_fault w.catalog ≡ Some w.fault) all_faulty
unfolding build_fault schema_of roles_of singular_of plural_of regular_singular regular_plural singular_ending plural_ending type_name_of field_name_of case_of_label
worked_faults = (refl, (refl, (refl, (refl, (refl, (refl, (refl, (refl, (refl, (refl, (refl, tt)))))))))))
