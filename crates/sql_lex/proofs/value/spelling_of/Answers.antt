use Rattle.sql_lex.proofs.Known.{token_order}
use Rattle.sql_lex.proofs.value.spelling_of.Goals as goal

pub slice_bounds-result-count : goal.slice_bounds-result-count
slice_bounds-result-count c = (token_order c.args.text.now c.args.token c.requires).0

pub slice_bounds-result-start : goal.slice_bounds-result-start
slice_bounds-result-start c = (token_order c.args.text.now c.args.token c.requires).0

pub slice_bounds-result-end : goal.slice_bounds-result-end
slice_bounds-result-end c = (token_order c.args.text.now c.args.token c.requires).1
