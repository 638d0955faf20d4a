-- Runs of decimal digits.
use Rattle.std.proofs.Common.{ℕ, List, [], ◌∷◌, take_while, arith, IsUtf8}
use Rattle.std.proofs.lemmas.Bool.Decides.{nat_tests}
use Rattle.std.proofs.lemmas.Fmt.{IsAscii-from_digits}
use Rattle.std.proofs.lemmas.Str.{IsUtf8-from_ascii}
use Rattle.std.proofs.lemmas.Str.Parse.{tells_digits}
use Rattle.std.specs.Char.{is_ascii_digit}
use Rattle.std.specs.Str.Parse.{AllDigits}
use Rattle.cursor_text.proofs.Runs.{Pass, run-passes}

pub digits_pass : (ds : List ℕ) → AllDigits 10 ds → Pass is_ascii_digit ds
digits_pass [] all = tt
digits_pass (c ∷ ds) all =
    let p = tells_digits.parts c ds all in
    (grind (arith, nat_tests, p.0), digits_pass ds p.1)

pub all_digits : (ds : List ℕ) → Pass is_ascii_digit ds → AllDigits 10 ds
all_digits [] p = tt
all_digits (c ∷ ds) p = tells_digits.more c ds (grind (arith, nat_tests, p.0)) (all_digits ds p.1)

pub run_of_digits : (bytes : List ℕ) → AllDigits 10 (take_while is_ascii_digit bytes)
run_of_digits bytes = all_digits (take_while is_ascii_digit bytes) (run-passes is_ascii_digit bytes)

pub digits_utf8 : (ds : List ℕ) → AllDigits 10 ds → IsUtf8 ds
digits_utf8 ds all = IsUtf8-from_ascii ds (IsAscii-from_digits ds all)
