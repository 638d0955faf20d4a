use Rattle.std.proofs.Common.{◌≡◌, ◌==◌, false, cond, length, sym, ap, ◌∙◌, rules}
use Rattle.std.specs.List.{list_all}
use Rattle.std.specs.Char.{is_ascii_digit}
use Rattle.http_sessions.proofs.fields.are_digits.Goals as goal

pub returns : goal.returns
returns c =
    let e : (length c.args.text.now == 0) ≡ false = search rules in
    c.all_digits.ensures ∙ sym (ap (λ v. cond v false (list_all is_ascii_digit c.args.text.now)) e)
