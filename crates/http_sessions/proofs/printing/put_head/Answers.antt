use Rattle.std.proofs.Common.{◌≡◌, ◌++◌, sym, ap, ◌∙◌, codes}
use Rattle.http_sessions.proofs.Printed.{joined}
use Rattle.http_sessions.specs.ReplyText.{status_text, reply_head}
use Rattle.http_sessions.proofs.printing.put_head.Goals as goal

pub returns-clause-items : goal.returns-clause-items
unfolding reply_head
returns-clause-items c =
    let o = c.args.out.now.items in
    let status = c.put-2.ensures.items ∙ ap (λ l. c.put.new.out.items ++ l) c.status_text.ensures.text in
    let e2 = joined o _ _ _ _ c.put.ensures.items status in
    let e3 = joined o _ _ _ _ e2 c.put-3.ensures.items in
    let e4 = joined o _ _ _ _ e3 c.put_number.ensures.items in
    let e5 = joined o _ _ _ _ e4 c.put-4.ensures.items in
    let e6 = joined o _ _ _ _ e5 c.put_number-2.ensures.items in
    let e7 = joined o _ _ _ _ e6 c.put-5.ensures.items in
    let e8 = joined o _ _ _ _ e7 c.put_if.ensures.items in
    let e9 = joined o _ _ _ _ e8 c.put_if-2.ensures.items in
    joined o _ _ _ _ e9 c.put-6.ensures.items
