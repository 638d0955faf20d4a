use Rattle.name_rules.proofs.CharCount.{char_count-chars}
use Rattle.name_rules.proofs.laws.char_count_counts_characters.Goals as goal

pub returns : goal.returns
returns c = char_count-chars c.args.word.now c.utf8.word
