use Rattle.sql_lex.proofs.Known.{token_order}
use Rattle.ddl_reader.proofs.text_tokens.spelled_bytes.Goals as goal

pub slice_bounds-from_slice-count : goal.slice_bounds-from_slice-count
slice_bounds-from_slice-count c = (token_order c.args.bytes.now c.args.token c.requires).0

pub slice_bounds-from_slice-start : goal.slice_bounds-from_slice-start
slice_bounds-from_slice-start c = (token_order c.args.bytes.now c.args.token c.requires).0

pub slice_bounds-from_slice-end : goal.slice_bounds-from_slice-end
slice_bounds-from_slice-end c = (token_order c.args.bytes.now c.args.token c.requires).1
