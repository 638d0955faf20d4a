use Rattle.cursor_text.proofs.Decoded.{at_is}
use Rattle.cursor_text.proofs.laws.definition_gives_the_cursor.Goals as goal

pub returns : goal.returns
returns c = at_is
