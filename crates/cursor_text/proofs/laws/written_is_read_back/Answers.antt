use Rattle.cursor_text.proofs.Decoded.{read_back}
use Rattle.cursor_text.proofs.laws.written_is_read_back.Goals as goal

pub returns : goal.returns
returns c = read_back
