use Rattle.std.proofs.Common.{◌≡◌, ⊎_elim, arith}
use Rattle.sql_lex.specs.declared.token.TokenKind.{TokenKind}
use Rattle.sql_lex.specs.declared.token.TokenKind.TheVariants.{Str, EscStr, End}
use Rattle.std.proofs.Common.{◌⊎◌}
use Rattle.sql_lex.proofs.Known.{opened_slice, opened_twice_slice}
use Rattle.sql_lex.proofs.value.string_text.Goals as goal

no_end : (kind : TokenKind) → (kind ≡ Str) ⊎ (kind ≡ EscStr) → kind ≡ End → ⊥
no_end kind e h = ⊎_elim (λ (s : kind ≡ Str). cc) (λ (s : kind ≡ EscStr). cc) e

pub slice_bounds-unquoted_text-count : goal.slice_bounds-unquoted_text-count
slice_bounds-unquoted_text-count c = (opened_twice_slice c.args.text.now c.args.token c.requires.token _ c.spelling_of-spelling.ensures c.in-EscStr.is).0

pub slice_bounds-unquoted_text-start : goal.slice_bounds-unquoted_text-start
slice_bounds-unquoted_text-start c = (opened_twice_slice c.args.text.now c.args.token c.requires.token _ c.spelling_of-spelling.ensures c.in-EscStr.is).0

pub unquoted_text-requires-clause-text : goal.unquoted_text-requires-clause-text
unquoted_text-requires-clause-text c = (opened_twice_slice c.args.text.now c.args.token c.requires.token _ c.spelling_of-spelling.ensures c.in-EscStr.is).1

pub slice_bounds-unquoted_text-count-in_default : goal.slice_bounds-unquoted_text-count-in_default
slice_bounds-unquoted_text-count-in_default c = (opened_slice c.args.text.now c.args.token c.requires.token _ c.spelling_of-spelling.ensures (no_end _ c.requires.kind)).0

pub slice_bounds-unquoted_text-start-in_default : goal.slice_bounds-unquoted_text-start-in_default
slice_bounds-unquoted_text-start-in_default c = (opened_slice c.args.text.now c.args.token c.requires.token _ c.spelling_of-spelling.ensures (no_end _ c.requires.kind)).0

pub unquoted_text-requires-in_default : goal.unquoted_text-requires-in_default
unquoted_text-requires-in_default c = record { text = (opened_slice c.args.text.now c.args.token c.requires.token _ c.spelling_of-spelling.ensures (no_end _ c.requires.kind)).1; ascii = omega arith }
