use Rattle.std.proofs.Common.{◌≡◌, ◌∙◌, sym, ap, true, false, List, ℕ}
use Rattle.parse_rules.specs.Parser.{Outcome, and_then}
use Rattle.parse_rules.proofs.Turns.{reads_as}
use Rattle.ddl_reader.specs.declared.lexeme.Lexeme.{Lexeme}
use Rattle.ddl_reader.specs.declared.lexeme.LexemeKind.{LexemeKind}
use Rattle.ddl_reader.specs.Trees.{is_known_type, is_known_type_of}
use Rattle.ddl_reader.specs.Reading.{known_type, type_after}
use Rattle.ddl_reader.proofs.Peeked.{peeked, unpeeked}
use Rattle.ddl_reader.proofs.types.read_known_type.Goals as goal

pub returns-then-is_known_type : goal.returns-then-is_known_type
unfolding known_type
returns-then-is_known_type c =
    let enums = c.args.enums.now in
    let l = c.in-Some.token in
    let hit : is_known_type enums l ≡ true = ap (λ (k : LexemeKind). is_known_type_of enums k l.text) (sym c.kind-kind.ensures) ∙ ap (λ (t : List ℕ). is_known_type_of enums c.kind-kind.result t) (sym c.in_ok-text.ensures) ∙ sym c.is_known_type.ensures ∙ c.if-is_known_type.true in
    let taken = peeked (is_known_type enums) c.args.tokens.now c.skip.new.self l (sym c.in-Some.is ∙ c.peek.ensures) c.skip.ensures.after hit in
    let same = ap (λ (o : Outcome Lexeme Lexeme). and_then o (λ t. type_after enums t.kind t.text)) taken ∙ ap (λ (k : LexemeKind). type_after enums k l.text c.skip.new.self) (sym c.kind-kind.ensures) ∙ ap (λ (t : List ℕ). type_after enums c.kind-kind.result t c.skip.new.self) (sym c.in_ok-text.ensures) in
    reads_as _ _ c.read_type_after.result c.read_type_after.new.tokens same c.read_type_after.ensures

pub returns-else-is_known_type : goal.returns-else-is_known_type
unfolding known_type
returns-else-is_known_type c =
    let enums = c.args.enums.now in
    let l = c.in-Some.token in
    let miss : is_known_type enums l ≡ false = ap (λ (k : LexemeKind). is_known_type_of enums k l.text) (sym c.kind-kind.ensures) ∙ ap (λ (t : List ℕ). is_known_type_of enums c.kind-kind.result t) (sym c.in_ok-text.ensures) ∙ sym c.is_known_type.ensures ∙ c.if-is_known_type.false in
    ap (λ (o : Outcome Lexeme Lexeme). and_then o (λ t. type_after enums t.kind t.text)) (unpeeked (is_known_type enums) c.args.tokens.now l (sym c.in-Some.is ∙ c.peek.ensures) miss)
