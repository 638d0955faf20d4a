use Rattle.std.proofs.Common.{◌≡◌, ◌∙◌, sym, ap, true, List, ℕ}
use Rattle.parse_rules.specs.Parser.{Outcome, and_then, pure}
use Rattle.parse_rules.proofs.Outcomes.{done}
use Rattle.ddl_reader.specs.declared.lexeme.Lexeme.{Lexeme}
use Rattle.ddl_reader.specs.declared.lexeme.LexemeKind.{LexemeKind}
use Rattle.ddl_reader.specs.declared.statement.ColumnType.{ColumnType}
use Rattle.ddl_reader.specs.Trees.{is_enum, is_enum_of, enum_type}
use Rattle.ddl_reader.specs.Reading.{plain_enum}
use Rattle.ddl_reader.proofs.Peeked.{peeked}
use Rattle.ddl_reader.proofs.types.read_plain_enum.Goals as goal

pub returns-then-is_enum : goal.returns-then-is_enum
unfolding plain_enum
returns-then-is_enum c =
    let enums = c.args.enums.now in
    let l = c.in-Some.token in
    let hit : is_enum enums l ≡ true = ap (λ (k : LexemeKind). is_enum_of enums k l.text) (sym c.kind.ensures) ∙ ap (λ (t : List ℕ). is_enum_of enums c.kind.result t) (sym c.in_ok-text.ensures) ∙ sym c.is_enum.ensures ∙ c.if-is_enum.true in
    let taken = peeked (is_enum enums) c.args.tokens.now c.skip.new.self l (sym c.in-Some.is ∙ c.peek.ensures) c.skip.ensures.after hit in
    ap (λ (o : Outcome Lexeme Lexeme). and_then o (λ t. pure (enum_type enums t.text))) taken
    ∙ ap (λ (t : List ℕ). done (enum_type enums t) c.skip.new.self) (sym c.in_ok-text.ensures)
    ∙ ap (λ (t : ColumnType). done t c.skip.new.self) (sym c.enum_type.ensures)
