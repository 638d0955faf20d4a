use Rattle.request_core.proofs.Refused.{if_ok}
use Rattle.request_core.proofs.Replied.{on_answers}
use Rattle.request_core.proofs.asking.answer_asked.Goals as goal

pub returns : goal.returns
returns g c tables told last =
    let on = c.respond_own-reply.ensures.reply c.args.house.now.shelf.entries c.know.ensures.shows in
    if_ok c.reply_text.result _ _ (λ text made. on_answers c.args.house.now _ _ _ _ _ _ _ tables text on told c.respond_own-reply.ensures.faults last made) c.reply_text.ensures
