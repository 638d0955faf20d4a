use Rattle.std.proofs.Common.{rules}
use Rattle.std.specs.Char.{is_ascii_digit}
use Rattle.cursor_text.proofs.Runs.{take_prefix}
use Rattle.cursor_text.proofs.Digits.{run_of_digits}
use Rattle.cursor_text.proofs.numbers.natural.Goals as goal

pub natural_of-requires : goal.natural_of-requires
natural_of-requires c = let d = run_of_digits c.args.bytes.now.rest.now in let t = take_prefix is_ascii_digit c.args.bytes.now.rest.now in search rules
