-- The fault of a text is never want of memory.
use Rattle.std.proofs.Common.{◌≡◌, inl, inr, ℕ, Bool, true, false, cond, List, [], ◌∷◌, Result, Ok, Err, ◌∙◌}
use Rattle.std.specs.Prelude.{Option, None, Some, option_map}
use Rattle.std.specs.Option.{option_or}
use Rattle.pg_base.specs.Catalog.{CatalogParts}
use Rattle.pg_base.specs.declared.table_def.TableDef.{TableDef}
use Rattle.pg_catalog.specs.declared.fault.CatalogFault.{CatalogFault}
use Rattle.pg_catalog.specs.Built.{catalog_after}
use Rattle.pg_catalog.specs.Added.{is_target}
use Rattle.pg_catalog.specs.Names.{table_of}
use Rattle.ddl_reader.specs.declared.fault.ScriptFault.{ScriptFault}
use Rattle.ddl_reader.specs.declared.fault.ScriptFault.TheVariants as fault
use Rattle.ddl_reader.specs.declared.lexeme.Lexeme.{Lexeme}
use Rattle.ddl_reader.specs.declared.reading.Progress.{Progress}
use Rattle.ddl_reader.specs.declared.statement.Statement.{Statement}
use Rattle.ddl_reader.specs.declared.statement.Statement.TheVariants as statement_is
use Rattle.ddl_reader.specs.declared.statement.InsertStatement.{InsertStatement}
use Rattle.ddl_reader.specs.Lexemes.{lexemes}
use Rattle.ddl_reader.specs.Parts.{enum_part, table_parts, rule_part, comment_part, commented_by, target_pos, target_name}
use Rattle.ddl_reader.specs.Script.{of_parts, with_parts, has_no_effect, after_statement, insert_fault, double_column, unknown_in, unknown_name, names_fault, first_fault, begins, IsScriptFault}
use Rattle.ddl_reader.specs.Scripts.{HaveFault}
use Rattle.ddl_reader.proofs.StopFaults.{NotMemory, stop_not}
use Rattle.ddl_reader.proofs.ScriptSentences.{script-fault}

-- ---- parts

parts_not : (r : Result CatalogParts CatalogFault) (f : ScriptFault) → of_parts r ≡ Err f → NotMemory f
parts_not (Ok c) f e m = absurd cc
parts_not (Err g) f e m = absurd cc

unless_not : (b : Bool) (c : CatalogParts) (r : Result CatalogParts ScriptFault) (f : ScriptFault) → (r ≡ Err f → NotMemory f) → cond b (Ok c) r ≡ Err f → NotMemory f
unless_not true c r f h e m = absurd cc
unless_not false c r f h e m = h e m

or_not : (b : Bool) (r : Result CatalogParts ScriptFault) (g f : ScriptFault) → (r ≡ Err f → NotMemory f) → NotMemory g → cond b r (Err g) ≡ Err f → NotMemory f
or_not true r g f h k e m = h e m
or_not false r g f h k e m = let same : g ≡ f = cc in k (same ∙ m)

statement_not : (c : CatalogParts) (made : Statement) (f : ScriptFault) → after_statement c made ≡ Err f → NotMemory f
statement_not c statement_is.Nothing f e m = absurd cc
statement_not c (statement_is.Enum e) f added m = parts_not (catalog_after c (enum_part e ∷ [])) f added m
statement_not c (statement_is.Table t) f added m =
    unless_not (has_no_effect c t) c (with_parts c (table_parts t)) f (parts_not (catalog_after c (table_parts t)) f) added m
statement_not c (statement_is.Rule r) f added m = parts_not (catalog_after c (rule_part r.table.text r.rule ∷ [])) f added m
statement_not c (statement_is.Comment n) f added m =
    or_not (is_target c (commented_by n.target)) (with_parts c (comment_part n ∷ [])) (fault.NothingToComment (target_pos n.target) (target_name n.target)) f
    (parts_not (catalog_after c (comment_part n ∷ [])) f) (λ k. absurd cc) added m
statement_not c (statement_is.Insert i) f e m = absurd cc

statements_not : (p : Progress) (ts : List Lexeme) (f : ScriptFault) → HaveFault p ts f → NotMemory f
statements_not p ts f (HaveFault.stops q us rest x) = stop_not p.catalog.enums ts rest
statements_not p ts f (HaveFault.refused q us rest made rows g r added) = statement_not p.catalog made f added
statements_not p ts f (HaveFault.later a q us rest l g x is more) = statements_not q rest f more

-- ---- names

insert_not : (which : ℕ) (i : InsertStatement) (name : List ℕ) → NotMemory (insert_fault which i name)
insert_not which i name e = absurd cc

map_not : (which : ℕ) (i : InsertStatement) (o : Option (List ℕ)) (f : ScriptFault) → option_map (insert_fault which i) o ≡ Some f → NotMemory f
map_not which i None f e m = absurd cc
map_not which i (Some name) f e m = let same : insert_fault which i name ≡ f = cc in insert_not which i name (same ∙ m)

either_not : (a b : Option ScriptFault) (f : ScriptFault) → (a ≡ Some f → NotMemory f) → (b ≡ Some f → NotMemory f) → option_or a b ≡ Some f → NotMemory f
either_not None b f h k e = k e
either_not (Some g) b f h k e = h e

unknown_not : (i : InsertStatement) (o : Option TableDef) (f : ScriptFault) → unknown_in i o ≡ Some f → NotMemory f
unknown_not i None f e m = let same : insert_fault 3 i i.table.text ≡ f = cc in insert_not 3 i i.table.text (same ∙ m)
unknown_not i (Some t) f e m = map_not 4 i _ f e m

name_not : (c : CatalogParts) (i : InsertStatement) (f : ScriptFault) → names_fault c i ≡ Some f → NotMemory f
name_not c i f e = either_not (double_column i) (unknown_name c i) f (map_not 2 i _ f) (unknown_not i (table_of c i.table.text) f) e

names_not : (c : CatalogParts) (inserts : List InsertStatement) (f : ScriptFault) → first_fault c inserts ≡ Some f → NotMemory f
names_not c [] f e m = absurd cc
names_not c (i ∷ inserts) f e m = either_not (names_fault c i) (first_fault c inserts) f (name_not c i f) (names_not c inserts f) e m

-- ---- texts

pub text_not : (bytes : List ℕ) (f : ScriptFault) → IsScriptFault bytes f → NotMemory f
text_not bytes f (inl e) = statements_not begins (lexemes bytes) f (script-fault bytes f e)
text_not bytes f (inr h) = names_not h.progress.catalog h.progress.inserts f h.names
