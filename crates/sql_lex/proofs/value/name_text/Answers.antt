use Rattle.std.proofs.Common.{◌≡◌}
use Rattle.sql_lex.specs.declared.token.TokenKind.TheVariants.{End}
use Rattle.sql_lex.proofs.Known.{opened_slice}
use Rattle.sql_lex.proofs.value.name_text.Goals as goal

pub slice_bounds-unquoted_text-count : goal.slice_bounds-unquoted_text-count
slice_bounds-unquoted_text-count c = (opened_slice c.args.text.now c.args.token c.requires.token _ c.spelling_of-spelling.ensures (λ (e : c.args.token.kind ≡ End). cc c.requires.kind)).0

pub slice_bounds-unquoted_text-start : goal.slice_bounds-unquoted_text-start
slice_bounds-unquoted_text-start c = (opened_slice c.args.text.now c.args.token c.requires.token _ c.spelling_of-spelling.ensures (λ (e : c.args.token.kind ≡ End). cc c.requires.kind)).0

pub unquoted_text-requires-clause-text : goal.unquoted_text-requires-clause-text
unquoted_text-requires-clause-text c = (opened_slice c.args.text.now c.args.token c.requires.token _ c.spelling_of-spelling.ensures (λ (e : c.args.token.kind ≡ End). cc c.requires.kind)).1
