use Rattle.cursor_text.proofs.Decoded.{one_cursor}
use Rattle.cursor_text.proofs.laws.text_spells_one_cursor.Goals as goal

pub returns : goal.returns
returns c = one_cursor
