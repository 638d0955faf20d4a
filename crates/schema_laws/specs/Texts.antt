-- What is named and said in a schema is text.
use Rattle.std.specs.Prelude.{IfSome}
use Rattle.std.specs.Str.{IsUtf8}
use Rattle.pg_base.specs.Lists.{Each}
use Rattle.pg_base.specs.declared.schema.ArgDef.{ArgDef}
use Rattle.pg_base.specs.declared.schema.FieldDef.{FieldDef}
use Rattle.pg_base.specs.declared.schema.TypeDef.{TypeDef}
use Rattle.pg_base.specs.Schema.{fields_of, inputs_of, cases_of}

abbrev pub IsTextArg : ArgDef → Type 0
IsTextArg a = IsUtf8 a.name

pub record IsTextField (f : FieldDef) : Type 0 where
  pub name : IsUtf8 f.name
  pub args : Each IsTextArg f.args
  pub deprecated : IfSome f.deprecated IsUtf8

pub record IsTextType (t : TypeDef) : Type 0 where
  pub name : IsUtf8 t.name
  pub fields : Each IsTextField (fields_of t.kind)
  pub inputs : Each IsTextArg (inputs_of t.kind)
  pub cases : Each IsUtf8 (cases_of t.kind)
